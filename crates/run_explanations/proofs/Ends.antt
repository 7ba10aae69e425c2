-- The faults of a run at its end.
use Rattle.std.proofs.Common.{◌≡◌, refl}
use Rattle.types.specs.Outcome.{Ending, outcome_by}
use Rattle.types.specs.Run.{Flow, On, Faulted, Stopped}
use Rattle.run_explanations.specs.Seen.{faults_by, faults_of}

-- the faults of the outcome are those that the flow leaves
pub faults_of-outcome_by : (f : Flow) (e : Ending) → faults_of (outcome_by f e) ≡ faults_by f e.faults
faults_of-outcome_by On e = refl
faults_of-outcome_by Faulted e = refl
faults_of-outcome_by Stopped e = refl
