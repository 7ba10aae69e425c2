use Rattle.std.proofs.Common.{◌≡◌, ◌++◌, map, drop}
use Rattle.sections.specs.Translation.{section}
use Rattle.types.specs.Sound.{passed_for}
use Rattle.effects.specs.Effects.{renamed}
use Rattle.effects.specs.Translation.{access}
use Rattle.parallel_relation.proofs.statements.add_passed.Given as goal

-- with the remaining ones, all are there
abbrev pub invariant-loop-access : goal.invariant-loop-access
invariant-loop-access l =
    map access l.into.items ++ map (renamed (passed_for (map section l.sections))) (map access (drop l.access-index l.inside))
    ≡ map access l.initial.into.items ++ map (renamed (passed_for (map section l.sections))) (map access l.inside)
