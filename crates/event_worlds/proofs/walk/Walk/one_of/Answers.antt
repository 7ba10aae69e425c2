use Rattle.std.proofs.Common.{[], ◌++◌, ◌∷◌, ◌∙◌, List, ap, subst}
use Rattle.std.proofs.lemmas.List.{append_assoc}
use Rattle.event_worlds.specs.Replaying.{event}
use Rattle.event_worlds.specs.Walks.{Happened}
use Rattle.events.specs.declared.event.Event.{Event}
use Rattle.event_worlds.proofs.Walking.{illegal_before, still_on}
use Rattle.event_worlds.proofs.walk.Walk.one_of.Goals as goal

pub events-preserved : goal.events-preserved
events-preserved c =
    let i = c.events.invariant in
    let was = subst (λ b. Happened b c.events.self c.happens.new.self) c.if-branch.false c.in_ok-happens.ensures.happened in
    record {
      before = still_on _ _ _ i.before was;
      tried = c.in-Some.event ∷ i.tried;
      are = i.are ∙ ap (λ (es : List Event). es ++ i.tried) c.in-Some.ensures.items
          ∙ append_assoc c.pop.new.self.items (c.in-Some.event ∷ []) i.tried;
      none = (illegal_before _ _ i.before (event c.in-Some.event) (c.in_ok-happens.ensures.illegal c.if-branch.false), i.none);
    }
