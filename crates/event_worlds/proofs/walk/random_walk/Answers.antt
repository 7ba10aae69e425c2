use Rattle.std.proofs.Common.{◌∙◌, ap, inl, sym}
use Rattle.event_worlds.specs.World.{has_passed}
use Rattle.event_worlds.proofs.Walking.{passed_over}
use Rattle.event_worlds.proofs.walk.random_walk.Goals as goal

pub returns-then-passed-clause-over : goal.returns-then-passed-clause-over
returns-then-passed-clause-over c =
    inl (passed_over c.rounds.walk c.rounds.invariant.walk
    (λ w s. ap (λ id. has_passed id w) (sym c.root_scope-outermost.ensures) ∙ sym (c.passed.ensures w s) ∙ c.if-passed.true))
