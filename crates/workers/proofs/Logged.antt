-- The log of a run is of its job.
use Rattle.std.proofs.Common.{◌≡◌, ℕ, Option, Some, None, Result, Ok, Err, sym, ap, ◌∙◌, subst}
use Rattle.std.specs.Prelude.{IfErr, IfOk, IfSome}
use Rattle.std.proofs.lemmas.Option.{same_Some}
use Rattle.types.specs.Outcome.{Outcome}
use Rattle.task_run.specs.Jobs.{outcome_of}
use Rattle.task_run.specs.declared.job.Job.{Job}
use Rattle.finish_scope.specs.declared.run_error.RunError.{RunError}
use Rattle.finish_scope.proofs.RunCauses.{run_cause}
use Rattle.tickets.specs.declared.word.Tickets.{Tickets}
use Rattle.event_worlds.specs.declared.job.WeightedJob.{WeightedJob}
use Rattle.trace.specs.Logs.{LeadsToOutcome, Recorded}
use Rattle.finish_scope.specs.RunErrors.{IsRunCause}
use Rattle.finish_scope.specs.declared.run_error.RunError.TheVariants.{OutOfMemory, RefusedPush, RefusedThread}
use Rattle.finish_scope.specs.declared.run_error.RunError.TheVariants.{IssuedTooOften, TooManyTasks, Gather}
use Rattle.finish_scope.specs.declared.run_error.RunError.TheVariants.{NotDue, NoOwner, NoScope, NoReport, Unlogged}
use Rattle.workers.specs.Causes.{IsOfLog, IsReason, IsRunReason}
use Rattle.workers.specs.Logs.{IsLogOfRun, IsOwnLog, weighted}

-- what workers report ends a run with a log too
pub run_reason : (o : Option Job) (t : Tickets) (tasks : ℕ) (HasLog : Type 0) (e : RunError) → IsReason o t tasks e
    → IsRunReason o t tasks HasLog e
run_reason o t tasks HasLog e r =
    record { cause = run_cause tasks HasLog e r.cause; ticket = r.ticket; happened = r.happened }

-- the log ends a run only if the run has one
with_log : (tasks : ℕ) (HasLog : Type 0) (e : RunError) → HasLog → IsRunCause tasks (Unit {0}) e → IsRunCause tasks HasLog e
with_log tasks HasLog Unlogged has cause = has
with_log tasks HasLog OutOfMemory has cause = cause
with_log tasks HasLog (RefusedPush c) has cause = cause
with_log tasks HasLog (RefusedThread c) has cause = cause
with_log tasks HasLog (IssuedTooOften c) has cause = cause
with_log tasks HasLog (TooManyTasks ticket) has cause = cause
with_log tasks HasLog (Gather u) has cause = cause
with_log tasks HasLog (NotDue c) has cause = cause
with_log tasks HasLog (NoOwner c) has cause = cause
with_log tasks HasLog (NoScope c) has cause = cause
with_log tasks HasLog (NoReport c) has cause = cause

pub log_reason : (o : Option Job) (t : Tickets) (tasks : ℕ) (HasLog : Type 0) (e : RunError) → IsOfLog e → HasLog
    → IsRunReason o t tasks HasLog e
log_reason o t tasks HasLog e r has =
    record { cause = with_log tasks HasLog e has (r.cause tasks); ticket = r.ticket t; happened = r.happened o }

-- the same of a call that may end so
pub log_reason_of : {T : Type 0} (o : Option Job) (t : Tickets) (tasks : ℕ) (HasLog Has : Type 0) (r : Result T RunError)
    → IfErr r IsOfLog → IfErr r (λ _. Has) → (Has → HasLog) → IfErr r (IsRunReason o t tasks HasLog)
log_reason_of o t tasks HasLog Has (Ok x) failed has to = tt
log_reason_of o t tasks HasLog Has (Err e) failed has to = log_reason o t tasks HasLog e failed (to has)

module _ (o : Option Job) (w0 : ℕ) (j : Job) (v : ℕ) (of : o ≡ Some j) (weight : w0 ≡ v) (l : Recorded) where
  pub own_log : l.world.job ≡ weighted j v → IsOwnLog o w0 l
  own_log is = record {
    job = of ∙ ap Some (sym (ap (λ (k : WeightedJob). k.job) is));
    weight = weight ∙ sym (ap (λ (k : WeightedJob). k.w0) is);
  }

  same_job : IsOwnLog o w0 l → l.world.job.job ≡ j
  same_job own = same_Some _ _ (sym own.job ∙ of)

  pub job_of_log : IsOwnLog o w0 l → l.world.job ≡ weighted j v
  job_of_log own =
      ap (λ (k : Job). weighted k l.world.job.w0) (same_job own)
      ∙ ap (λ (n : ℕ). weighted j n) (sym own.weight ∙ weight)

  pub told_of_log : IsOwnLog o w0 l → LeadsToOutcome l (outcome_of l.world.job.job) → LeadsToOutcome l (outcome_of j)
  told_of_log own told = subst (λ (k : Job). LeadsToOutcome l (outcome_of k)) (same_job own) told

leads_both : (j : Job) (w0 : ℕ) (x : Outcome) (l : Option Recorded) → x ≡ outcome_of j → IfSome l (IsLogOfRun (Some j) w0)
    → IfSome l (λ y. LeadsToOutcome y x)
leads_both j w0 x None is own = tt
leads_both j w0 x (Some y) is own =
    subst (LeadsToOutcome y) (sym is)
    (subst (λ (k : Job). LeadsToOutcome y (outcome_of k)) (same_Some _ _ (sym own.own.job)) own.told)

-- the log leads to the outcome that is returned with it
pub told_by : {A : Type 0} (j : Job) (w0 : ℕ) (out : A → Outcome) (log : A → Option Recorded) (r : Result A RunError)
    → IfOk r (λ a. out a ≡ outcome_of j) → IfOk r (λ a. IfSome (log a) (IsLogOfRun (Some j) w0))
    → IfOk r (λ a. IfSome (log a) (λ l. LeadsToOutcome l (out a)))
told_by j w0 out log (Ok a) is own = leads_both j w0 (out a) (log a) is own
told_by j w0 out log (Err e) is own = tt
