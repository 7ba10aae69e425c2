use Rattle.witness.proofs.HasWays.{leads_in}
use Rattle.witness.proofs.laws.ways_lead_to_what_is_done.Goals as goal

pub returns-clause-done : goal.returns-clause-done
returns-clause-done c = λ p b way x w. leads_in p w

pub returns-clause-pending : goal.returns-clause-pending
returns-clause-pending c = λ p b way x w. leads_in p w
