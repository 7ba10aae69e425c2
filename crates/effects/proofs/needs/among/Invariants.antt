use Rattle.std.proofs.Common.{◌≡◌, map, drop}
use Rattle.sections.specs.Translation.{section}
use Rattle.effects.specs.Needs.{among}
use Rattle.effects.proofs.needs.among.Given as goal

-- if it is in the list, it is among the remaining ones
abbrev pub invariant-loop-other : goal.invariant-loop-other
invariant-loop-other l =
    among (map section (drop l.other-index l.sections)) l.section.number ≡ among (map section l.sections) l.section.number
