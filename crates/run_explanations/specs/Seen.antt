-- What a second run shows of an outcome.
use Rattle.std.specs.Prelude.{ℤ, ◌≡◌, List, [], Option, None, ⊤, length, map, take}
use Rattle.types.specs.Code.{Program}
use Rattle.types.specs.Outcome.{Budget, Outcome, Ended, outcome}
use Rattle.types.specs.Run.{Fault, Flow, On, Faulted, Stopped}
use Rattle.types.specs.Translation.{fault}
use Rattle.statement_steps.specs.declared.store.Store.{Store}
use Rattle.statement_steps.specs.declared.thread.Thread.{Thread}
use Rattle.cost.specs.Kept.{outcome_at, printed as lines_of}
use Rattle.run_explanations.specs.declared.seen.SeenRun.{SeenRun}

-- the faults of an outcome; a stopped run reports none
abbrev pub faults_of : Outcome → List Fault
faults_of (Ended e) = e.faults
faults_of Outcome.Stopped = []

-- the faults of a run whose thread is this at its end
abbrev pub faults_at : Thread Store → List Fault
faults_at t = faults_of (outcome_at t)

-- the faults that a run with this flow at its end reports
abbrev pub faults_by : Flow → List Fault → List Fault
faults_by Stopped faults = []
faults_by On faults = faults
faults_by Faulted faults = faults

-- something that only a stopped run has
abbrev pub OnlyIfStopped : {A : Type 0} → Outcome → Option A → Type 0
OnlyIfStopped (Ended e) x = x ≡ None
OnlyIfStopped Outcome.Stopped x = ⊤

-- what is seen of the run of a program on an input: the first four of its faults and their number, a task
-- over its budget only if it is stopped, the first ten of its lines and their number
pub record Sees (p : Program) (rows : List (List ℤ)) (b : Budget) (s : SeenRun) : Type 0 where
  pub faults : map fault s.faults.items ≡ take 4 (faults_of (outcome p rows b))
  pub many : s.many ≡ length (faults_of (outcome p rows b))
  pub overrun : OnlyIfStopped (outcome p rows b) s.overrun
  pub lines : map (λ l. l.items) s.lines.items ≡ take 10 (lines_of p rows b)
  pub printed : s.printed ≡ length (lines_of p rows b)
