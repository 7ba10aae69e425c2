-- Why a parallel run has no outcome.
use Rattle.std.proofs.Common.{◌≡◌, subst, refl}
use Rattle.finish_scope.specs.RunErrors.{IsCause}
use Rattle.finish_scope.proofs.RunCauses.{run_cause}
use Rattle.command_line.specs.Requests.{Settings}
use Rattle.command_line.specs.declared.request.Command.TheVariants.{Run}
use Rattle.failures.specs.declared.failure.Failure.{Failure}
use Rattle.failures.specs.declared.failure.Failure.TheVariants.{Run as RunFailed, NoMemory}
use Rattle.files.specs.Held.{Held}
use Rattle.std.proofs.Common.{ℕ, List}
use Rattle.commands.specs.Answers.{Explains, IsExplored}
use Rattle.commands.proofs.Answering.{IsOther}
use Rattle.test_and_bench.specs.Runs.{TellsNoRun}

-- the same cause for the same number of tasks
pub same_tasks : (s t : Settings) → s.spread.tasks ≡ t.spread.tasks → (f : Failure) → TellsNoRun s f → TellsNoRun t f
same_tasks s t same (RunFailed e) told = subst (λ (n : ℕ). IsCause n e) same told
same_tasks s t same NoMemory told = tt
same_tasks s t same _ told = absurd told

-- for a program without a race, on its input
pub no_run_explained : (s : Settings) (held : Held) (text : List ℕ) → IsExplored s held text → (f : Failure) → TellsNoRun s f
    → Explains Run s held text f
no_run_explained s held text run (RunFailed e) told = record { as_tasks = refl; run = run; why = run_cause s.spread.tasks _ e told }
no_run_explained s held text run NoMemory told = tt
no_run_explained s held text run _ told = absurd told

pub no_run_other : (s : Settings) (f : Failure) → TellsNoRun s f → IsOther f
no_run_other s (RunFailed e) told = tt
no_run_other s NoMemory told = tt
no_run_other s _ told = absurd told
