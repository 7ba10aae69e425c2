use Rattle.std.proofs.Common.{◌≡◌, ◌++◌, map, drop}
use Rattle.effects.specs.Effects.{past_split, renamed}
use Rattle.effects.specs.Translation.{access}
use Rattle.parallel_relation.proofs.statements.add_around.Given as goal

-- with the remaining ones, all are there
abbrev pub invariant-loop-access : goal.invariant-loop-access
invariant-loop-access l =
    map access l.into.items ++ map (renamed (past_split l.fn.section.number l.fn.left.number l.fn.right.number)) (map access (drop l.access-index l.inside))
    ≡ map access l.initial.into.items ++ map (renamed (past_split l.fn.section.number l.fn.left.number l.fn.right.number)) (map access l.inside)
