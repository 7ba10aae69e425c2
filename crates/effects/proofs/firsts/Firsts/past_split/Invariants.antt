use Rattle.std.proofs.Common.{take, map}
use Rattle.effects.specs.Effects.{past_split, renamed}
use Rattle.effects.specs.Firsts.{AreFirstsIn, kept_in}
use Rattle.effects.specs.Translation.{access}
use Rattle.effects.proofs.firsts.Firsts.past_split.Given as goal

-- what is kept are the firsts of the items so far, renamed
abbrev pub invariant-loop-item : goal.invariant-loop-item
invariant-loop-item l =
    AreFirstsIn
    (map (λ x. renamed (past_split l.fn.section.number l.fn.left.number l.fn.right.number) (access x))
    (take l.item-index l.item-items)) (kept_in l.outside)
