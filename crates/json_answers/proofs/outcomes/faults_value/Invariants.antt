use Rattle.types.specs.Translation.{fault}
use Rattle.json_answers.specs.Faults.{fault_json}
use Rattle.json_answers.proofs.Seen.{SeenFirst}
use Rattle.json_answers.proofs.outcomes.faults_value.Given as goal

-- the values so far represent the first faults
abbrev pub invariant-loop-fault : goal.invariant-loop-fault
invariant-loop-fault l = SeenFirst (λ f. fault_json l.places (fault f)) l.faults l.fault-index l.list.items
