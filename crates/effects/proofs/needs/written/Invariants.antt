use Rattle.std.proofs.Common.{◌≡◌, map, drop}
use Rattle.sections.specs.Translation.{section}
use Rattle.effects.specs.Needs.{written_by}
use Rattle.effects.specs.Translation.{access}
use Rattle.effects.proofs.needs.written.Given as goal

-- the accesses from this index are done
abbrev pub invariant-loop-place : goal.invariant-loop-place
invariant-loop-place l = map section l.found.items ≡ written_by (map access (drop l.place l.accesses))
