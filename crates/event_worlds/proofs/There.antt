-- Once the root's scope has passed, its results settle, in any order.
use Rattle.std.proofs.Common.{◌≡◌, ℕ, ◌≤◌, List, [], Some, refl, sym, ap, ◌∙◌}
use Rattle.std.specs.Prelude.{true, ℤ}
use Rattle.types.specs.Code.{Codes, Program}
use Rattle.types.specs.Outcome.{Budget}
use Rattle.effects.specs.Needs.{Needs}
use Rattle.task_run.specs.Results.{and_then, Settled}
use Rattle.task_run.specs.Settling.{settle}
use Rattle.task_run.specs.Lists.{Shuffled}
use Rattle.task_run.specs.OwnRun.{result_of}
use Rattle.task_run.specs.Given.{own, below, root_of, told_of}
use Rattle.task_run.proofs.MeasuredResults.{shuffled}
use Rattle.task_run.proofs.NeverStuck.{below_own}
use Rattle.task_run.proofs.TaskRuns.{each_if_given}
use Rattle.event_worlds.specs.World.{root_scope, task, Scope, World, scope}
use Rattle.event_worlds.specs.Events.{only_if, Event}
use Rattle.event_worlds.specs.Replay.{hands_on, Legal, replay, world_outcome}
use Rattle.event_worlds.proofs.Outcomes.{sound, root_hands_on}
use Rattle.event_worlds.proofs.Measured.{root_holds_all}

module _ (p : Program) (needs : Codes → Needs) (w0 : ℕ) (least : 1 ≤ w0) (input : List (List ℤ)) (b : Budget) (es : List Event) (w : World)
    (e : replay p needs w0 input b es ≡ Legal w) (s : Scope) (there : scope root_scope w.scopes ≡ Some s) (passed : s.passed ≡ true) where
  -- once it has passed the root's scope has the results of all tasks
  pub root_has_all : Shuffled (below p needs b.steps b.nest (root_of p input b.nest)) s.results
  root_has_all =
      shuffled p needs b.steps (root_of p input b.nest) (below p needs b.steps b.nest (root_of p input b.nest)) s.results
      (below_own p needs b.steps (root_of p input b.nest) b.nest (root_of p input b.nest) refl)
      (each_if_given p needs b.steps (root_of p input b.nest) s.results
      ((sound p needs w0 least input b es w e).own.results root_scope s there))
      (λ f. sym (root_holds_all p needs w0 least input b es w e s there passed f))

  -- if they settle, the outcome is that of their settled result
  pub told_once_settled : {x : Settled} → settle (result_of (own p needs b.steps (root_of p input b.nest))) s.results ≡ Some x
      → world_outcome p needs b.steps w0 w ≡ Some (told_of p x)
  told_once_settled settles =
      let h = sound p needs w0 least input b es w e in
      ap (λ o. and_then o (λ s. only_if s.passed (and_then (task [] w.live) (λ t.
      and_then (settle (hands_on p needs b.steps w0 t.start t.receipts) s.results) (λ x. Some (told_of p x)))))) there
      ∙ ap (λ x. only_if x (and_then (task [] w.live) (λ t.
      and_then (settle (hands_on p needs b.steps w0 t.start t.receipts) s.results) (λ x. Some (told_of p x))))) passed
      ∙ ap (λ o. and_then o (λ t. and_then (settle (hands_on p needs b.steps w0 t.start t.receipts) s.results) (λ x. Some (told_of p x))))
      h.rooted.lives
      ∙ ap (λ r. and_then (settle r s.results) (λ x. Some (told_of p x)))
      (root_hands_on p needs b.steps w0 least (root_of p input b.nest) refl es w h s there passed)
      ∙ ap (λ o. and_then o (λ x. Some (told_of p x))) settles
