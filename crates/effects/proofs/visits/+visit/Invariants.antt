use Rattle.std.proofs.Common.{◌≡◌, ◌++◌, map, drop}
use Rattle.types.specs.Translation.{codes}
use Rattle.effects.specs.Visits.{visits_in, visit}
use Rattle.effects.proofs.visits.+visit.Given as goal

-- with those of the remaining statements, all are there
abbrev pub invariant-visit_block-loop-statement : goal.invariant-visit_block-loop-statement
invariant-visit_block-loop-statement l =
    map visit l.into.items ++ visits_in l.standing (codes (drop l.statement-index l.block))
    ≡ map visit l.initial.into.items ++ visits_in l.standing (codes l.block)
