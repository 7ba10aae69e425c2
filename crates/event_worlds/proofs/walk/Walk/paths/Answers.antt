use Rattle.std.proofs.Common.{◌≡◌, ◌∙◌, inr, sym, subst}
use Rattle.std.specs.Set.{is_member}
use Rattle.std.specs.Prelude.{true}
use Rattle.shared_lemmas.proofs.Lists.{same_elements}
use Rattle.types.specs.Translation.{is_path}
use Rattle.event_worlds.proofs.Walking.{named_more}
use Rattle.event_worlds.proofs.walk.Walk.paths.Goals as goal

pub tasks-init : goal.tasks-init
tasks-init c q there =
    inr (subst (λ ps. is_member is_path ps q ≡ true) (sym c.into_iter-path-iterator.ensures.into_iter_gives)
    (sym (c.keys-path-items.ensures.has q) ∙ there))

pub tasks-preserved : goal.tasks-preserved
tasks-preserved c q there =
    named_more c.in-Some.path.now c.in_ok-clone.field-0 q c.tasks.path-iterator c.next.new.self c.tasks.paths.items c.push.new.self.items
    c.in-Some.ensures.steps
    (same_elements c.in-Some.path.now.turns.items c.in_ok-clone.field-0.turns.items c.in_ok-clone.ensures.cases.0) c.in_ok-push.ensures.items (c.tasks.invariant q there)
