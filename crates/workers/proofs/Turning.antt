-- All results of a turn, and of a whole run, are of the job of the run.
use Rattle.std.proofs.Common.{◌≡◌, ℕ, Option, None, Some, sym, ap, ◌∙◌, subst}
use Rattle.std.specs.Prelude.{Err, IfOk, Ok, Result}
use Rattle.task_run.specs.declared.start.Start.{Start}
use Rattle.task_run.specs.declared.job.Job.{Job}
use Rattle.task_run.specs.declared.run.Run.{Run}
use Rattle.task_run.specs.declared.turn.Turn.{Turn as RunTurn}
use Rattle.task_run.specs.declared.turn.Turn.TheVariants.{Going as RunGoing, Spawns as RunSpawns}
use Rattle.task_run.specs.declared.turn.Turn.TheVariants.{EntersFinish as RunEntersFinish}
use Rattle.task_run.specs.declared.turn.Turn.TheVariants.{EndsFinish as RunEndsFinish}
use Rattle.task_run.specs.declared.turn.Turn.TheVariants.{Ended as RunEnded, Over as RunOver}
use Rattle.weighted_task.specs.Tasks.{IsResultOf}
use Rattle.weighted_task.specs.Turns.{AreTasks, Becomes, Divides, EndsWhole, Parts, TakesSo}
use Rattle.weighted_task.specs.declared.task.Child.{Child}
use Rattle.weighted_task.specs.declared.turn.Wanting.{Wanting}
use Rattle.weighted_task.proofs.Turning.{parts_tasks}
use Rattle.weighted_task.specs.declared.task.Body.{Body}
use Rattle.weighted_task.specs.declared.task.Task.{Task}
use Rattle.weighted_task.specs.declared.turn.WeightedTurn.{WeightedTurn}
use Rattle.weighted_task.specs.declared.turn.WeightedTurn.TheVariants.{Going, Spawns, WantsWeight, EntersFinish}
use Rattle.weighted_task.specs.declared.turn.WeightedTurn.TheVariants.{EndsFinish, Ended, Over}
use Rattle.weighted_task.specs.declared.turn.WholeChild.{WholeChild}
use Rattle.weighted_task.specs.declared.turn.WholeChild.TheVariants.{Made, Cut, Again}
use Rattle.workers.specs.Own.{IsOwnChild, IsOwnTask, IsOwnTurn, IsOwnWanting, IsOwnWhole}

-- a task that needed weight has more of it, and its child has half
pub more_own : (o : Option Job) (w : Wanting) (b : Body) (u : ℕ) (s : Start) (t : Task) (c : Child) → IsOwnWanting o w
    → b ≡ w.body.value → s ≡ w.start.value → Parts b u s (Spawns t c) → IsOwnTask o t × IsOwnChild o c
more_own o w b u s t c own body start parts =
    let d : Divides w.body.value u w.start.value t c =
    subst (λ (x : Start). Divides w.body.value u x t c) start (subst (λ (x : Body). Divides x u s t c) body parts) in
    let tasks = parts_tasks w.body.value u w.start.value (Spawns t c) d own.wanting.body own.wanting.may own.wanting.label in (
      record { job = own.job ∙ ap Some (sym (ap (λ (x : Body). x.job) d.body)); task = tasks.0 },
      record { job = own.job ∙ ap Some (sym d.job); child = tasks.1 },
    )

-- the job of what a turn led to
abbrev job_of : WeightedTurn → Job
job_of (Going t) = t.body.value.job
job_of (Spawns t c) = t.body.value.job
job_of (WantsWeight w) = w.body.value.job
job_of (EntersFinish e) = e.body.value.job
job_of (EndsFinish e) = e.parked.value.job
job_of (Ended x) = x.job
job_of (Over t) = t.body.value.job

-- it is that of the task
same_job : (b : Body) (u : ℕ) (turn : RunTurn) (new : WeightedTurn) → Becomes b u turn new → job_of new ≡ b.job
same_job b u (RunGoing r) (Going t) h = ap (λ (x : Body). x.job) h.body
same_job b u (RunSpawns r s) (Going t) h = absurd h
same_job b u (RunEntersFinish r) (Going t) h = absurd h
same_job b u (RunEndsFinish q made) (Going t) h = absurd h
same_job b u (RunEnded made) (Going t) h = absurd h
same_job b u (RunOver r) (Going t) h = absurd h
same_job b u (RunGoing r) (Spawns t c) h = absurd h
same_job b u (RunSpawns r s) (Spawns t c) h = ap (λ (x : Body). x.job) h.body
same_job b u (RunEntersFinish r) (Spawns t c) h = absurd h
same_job b u (RunEndsFinish q made) (Spawns t c) h = absurd h
same_job b u (RunEnded made) (Spawns t c) h = absurd h
same_job b u (RunOver r) (Spawns t c) h = absurd h
same_job b u (RunGoing r) (WantsWeight w) h = absurd h
same_job b u (RunSpawns r s) (WantsWeight w) h = ap (λ (x : Body). x.job) h.body
same_job b u (RunEntersFinish r) (WantsWeight w) h = absurd h
same_job b u (RunEndsFinish q made) (WantsWeight w) h = absurd h
same_job b u (RunEnded made) (WantsWeight w) h = absurd h
same_job b u (RunOver r) (WantsWeight w) h = absurd h
same_job b u (RunGoing r) (EntersFinish e) h = absurd h
same_job b u (RunSpawns r s) (EntersFinish e) h = absurd h
same_job b u (RunEntersFinish r) (EntersFinish e) h = h.job
same_job b u (RunEndsFinish q made) (EntersFinish e) h = absurd h
same_job b u (RunEnded made) (EntersFinish e) h = absurd h
same_job b u (RunOver r) (EntersFinish e) h = absurd h
same_job b u (RunGoing r) (EndsFinish e) h = absurd h
same_job b u (RunSpawns r s) (EndsFinish e) h = absurd h
same_job b u (RunEntersFinish r) (EndsFinish e) h = absurd h
same_job b u (RunEndsFinish q made) (EndsFinish e) h = h.job
same_job b u (RunEnded made) (EndsFinish e) h = h.1.job
same_job b u (RunOver r) (EndsFinish e) h = absurd h
same_job b u (RunGoing r) (Ended x) h = absurd h
same_job b u (RunSpawns r s) (Ended x) h = absurd h
same_job b u (RunEntersFinish r) (Ended x) h = absurd h
same_job b u (RunEndsFinish q made) (Ended x) h = absurd h
same_job b u (RunEnded made) (Ended x) h = h.job
same_job b u (RunOver r) (Ended x) h = absurd h
same_job b u (RunGoing r) (Over t) h = absurd h
same_job b u (RunSpawns r s) (Over t) h = absurd h
same_job b u (RunEntersFinish r) (Over t) h = absurd h
same_job b u (RunEndsFinish q made) (Over t) h = absurd h
same_job b u (RunEnded made) (Over t) h = absurd h
same_job b u (RunOver r) (Over t) h = ap (λ (x : Body). x.job) h.body

-- and so is that of its child
job_of_child : (b : Body) (u : ℕ) (turn : RunTurn) (t : Task) (c : Child) → Becomes b u turn (Spawns t c) → c.job ≡ b.job
job_of_child b u (RunGoing r) t c h = absurd h
job_of_child b u (RunSpawns r s) t c h = h.job
job_of_child b u (RunEntersFinish r) t c h = absurd h
job_of_child b u (RunEndsFinish q made) t c h = absurd h
job_of_child b u (RunEnded made) t c h = absurd h
job_of_child b u (RunOver r) t c h = absurd h

own_turn : (o : Option Job) (b : Body) (u : ℕ) (turn : RunTurn) (new : WeightedTurn) → o ≡ Some b.job → Becomes b u turn new
    → AreTasks new → IsOwnTurn o new
own_turn o b u turn (Going t) of h are = record { job = of ∙ ap Some (sym (same_job b u turn (Going t) h)); task = are }
own_turn o b u turn (Spawns t c) of h are = (
  record { job = of ∙ ap Some (sym (same_job b u turn (Spawns t c) h)); task = are.0 },
  record { job = of ∙ ap Some (sym (job_of_child b u turn t c h)); child = are.1 },
)
own_turn o b u turn (WantsWeight w) of h are = record { job = of ∙ ap Some (sym (same_job b u turn (WantsWeight w) h)); wanting = are }
own_turn o b u turn (EntersFinish e) of h are = record { job = of ∙ ap Some (sym (same_job b u turn (EntersFinish e) h)); body = are }
own_turn o b u turn (EndsFinish e) of h are = record { job = of ∙ ap Some (sym (same_job b u turn (EndsFinish e) h)); ends = are }
own_turn o b u turn (Ended x) of h are = record { job = of ∙ ap Some (sym (same_job b u turn (Ended x) h)); result = are.1 }
own_turn o b u turn (Over t) of h are = record { job = of ∙ ap Some (sym (same_job b u turn (Over t) h)); task = are }

-- what a turn of a task of the run comes to
pub turns_own : {E : Type 0} (o : Option Job) (Comes : Run → RunTurn → Type 0) (old : Task) (r : Result WeightedTurn E) → IsOwnTask o old
    → IfOk r (TakesSo Comes old) → IfOk r AreTasks → IfOk r (IsOwnTurn o)
turns_own o Comes old (Ok new) own turn are =
    own_turn o (record old.body.value { run = None }) old.share.weight turn.turn new own.job turn.becomes are
turns_own o Comes old (Err e) own turn are = tt

-- what a whole run of a task comes to
pub whole_own : (o : Option Job) (c : Child) (w : WholeChild) → IsOwnChild o c → EndsWhole c w → IsOwnWhole o w
whole_own o c (Made r begun) own ends = record {
  job = own.job ∙ ap Some (sym ends.job);
  result = subst (λ (j : Job). IsResultOf j r.made) (sym ends.job) ends.result;
}
whole_own o c (Cut begun) own ends = tt
whole_own o c (Again d) own ends = record { job = own.job ∙ ap Some (sym ends.job); child = ends.child }
