-- A log whose world has finished.
use Rattle.std.proofs.Common.{◌≡◌, Option, Some, None, Bool, true, ap, ◌∙◌, subst, sym}
use Rattle.std.proofs.lemmas.Bool.{OnTrue_from}
use Rattle.std.specs.Bool.{OnTrue}
use Rattle.std.specs.Borrow.{Bor}
use Rattle.std.specs.Prelude.{IfSome, is_some, option_map}
use Rattle.shared_lemmas.proofs.Truths.{false_true}
use Rattle.types.specs.Translation.{outcome as outcome_in}
use Rattle.types.specs.declared.outcome.Outcome.{Outcome}
use Rattle.task_run.specs.Jobs.{budget_of, outcome_of, program_of}
use Rattle.event_worlds.specs.Shown.{Shows}
use Rattle.event_worlds.specs.World.{World}
use Rattle.event_worlds.specs.Worlds.{outcome_of as told_in}
use Rattle.event_worlds.specs.declared.world.World.{World as rWorld}
use Rattle.trace.specs.Logs.{IsClean, LeadsToOutcome, Recorded}

-- the outcome of a world is that of its job, once its root's scope has passed
module _ (told : Option (Bor Outcome)) (r : rWorld) where
  abbrev IsToldOf : Type 0
  IsToldOf = (w : World) → Shows r w
      → option_map (λ o. outcome_in o.now) told ≡ told_in (program_of r.job.job) r.job.w0 (budget_of r.job.job) w

  abbrev IsOneThread : Type 0
  IsOneThread = IfSome told (λ o. outcome_in o.now ≡ outcome_of r.job.job)

-- the outcome of the world of a clean log is the outcome of its job
leads : (l : Recorded) → IsClean l → (told : Option (Bor Outcome)) → IsToldOf told l.world → IsOneThread told l.world
    → is_some told ≡ true → LeadsToOutcome l (outcome_of l.world.job.job)
leads l clean None is same some = false_true some
leads l clean (Some o) is same some = record {
  world = clean.replayed.world;
  legal = clean.replayed.legal;
  is_told = sym (is clean.replayed.world clean.replayed.shows) ∙ ap Some same;
}

-- the world that the log shows, if it is asked whether there is an outcome
pub has_ended : (l : Recorded) (r : rWorld) → r ≡ l.world → IsClean l → (told : Option (Bor Outcome))
    → IsToldOf told r → IsOneThread told r → (ended : Bool) → ended ≡ is_some told
    → OnTrue ended (LeadsToOutcome l (outcome_of l.world.job.job))
has_ended l r shown clean told is same ended asked =
    OnTrue_from ended (LeadsToOutcome l (outcome_of l.world.job.job))
    (λ yes. leads l clean told (subst (IsToldOf told) shown is) (subst (IsOneThread told) shown same) (sym asked ∙ yes))
