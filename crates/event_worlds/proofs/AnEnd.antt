-- A task that is at the end of a finish, or at its own end.
use Rattle.std.proofs.Common.{◌≡◌, List, [], ◌∷◌, ℕ, refl, sym, ap, ◌∙◌}
use Rattle.std.proofs.lemmas.Option.{same_Some}
use Rattle.std.specs.Prelude.{Bool, true, false}
use Rattle.shared_lemmas.proofs.Truths.{false_true}
use Rattle.task_run.specs.OwnRun.{Action, Step, Spawn, EnterFinish, EndFinish, EndTask, last_action}
use Rattle.task_run.specs.Translation.{start}
use Rattle.task_run.specs.declared.job.Job.{Job}
use Rattle.event_worlds.specs.Courses.{Course, IsAtAnEnd, IsDoing, IsKnown, IsNext}
use Rattle.event_worlds.specs.Ending.{is_waiting}
use Rattle.event_worlds.specs.declared.doing.TaskProgress.{TaskProgress}
use Rattle.event_worlds.specs.declared.doing.TaskProgress.TheVariants.{Starts, Runs, Steps, Spawns, Opens}
use Rattle.event_worlds.specs.declared.doing.TaskProgress.TheVariants.{AtFinish, AtEnd}

-- by the test of its next action
pub at_an_end : (path : List ℕ) (d : TaskProgress) → is_waiting path d ≡ true → IsAtAnEnd d
at_an_end path (AtFinish q made) e = tt
at_an_end path (AtEnd made) e = tt
at_an_end path (Starts s) e = false_true e
at_an_end path (Runs r) e = false_true e
at_an_end path (Steps r) e = false_true e
at_an_end path (Spawns r s) e = false_true e
at_an_end path (Opens r) e = false_true e

-- ---- a known next action
-- whether an action is the end of a finish or of a task
abbrev is_an_end : Action → Bool
is_an_end Step = false
is_an_end (Spawn s) = false
is_an_end EnterFinish = false
is_an_end EndFinish = true
is_an_end EndTask = true

last_is_an_end : (path : List ℕ) → is_an_end (last_action path) ≡ true
last_is_an_end [] = refl
last_is_an_end (k ∷ path) = refl

module _ (j : Job) (c : Course) where
  ends_next : (d : TaskProgress) → IsAtAnEnd d → IsDoing j c d → (a : Action) × IsNext j c a × (is_an_end a ≡ true)
  ends_next (AtFinish q made) w h = (EndFinish, h.0, refl)
  ends_next (AtEnd made) w h = (last_action c.start.path, h.0, last_is_an_end c.start.path)
  ends_next (Starts s) w h = absurd w
  ends_next (Runs r) w h = absurd w
  ends_next (Steps r) w h = absurd w
  ends_next (Spawns r s) w h = absurd w
  ends_next (Opens r) w h = absurd w

  -- a task has one next action
  no_end : {A : Type 0} (a b : Action) → IsNext j c a → is_an_end a ≡ true → IsNext j c b → is_an_end b ≡ false → A
  no_end a b h is k not = absurd (false_true (sym not ∙ ap is_an_end (same_Some _ _ (sym k ∙ h)) ∙ is))

  -- another version of the same task is there too, once its next action is known
  pub still_at_an_end : (d e : TaskProgress) → IsAtAnEnd d → IsDoing j c d → IsKnown e → IsDoing j c e → IsAtAnEnd e
  still_at_an_end d (AtFinish q made) w h known k = tt
  still_at_an_end d (AtEnd made) w h known k = tt
  still_at_an_end d (Starts s) w h known k = known
  still_at_an_end d (Runs r) w h known k = known
  still_at_an_end d (Steps r) w h known k =
      let n = ends_next d w h in no_end n.0 Step n.1 n.2 k.0 refl
  still_at_an_end d (Spawns r s) w h known k =
      let n = ends_next d w h in no_end n.0 (Spawn (start s)) n.1 n.2 k.0 refl
  still_at_an_end d (Opens r) w h known k =
      let n = ends_next d w h in no_end n.0 EnterFinish n.1 n.2 k.0 refl
