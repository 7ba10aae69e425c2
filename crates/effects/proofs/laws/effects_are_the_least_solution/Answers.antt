use Rattle.types.specs.Code.{Program}
use Rattle.effects.specs.Effects.{Subject, accesses, labels}
use Rattle.effects.specs.Rows.{IsLeastSolution}
use Rattle.effects.proofs.LeastRows as rows
use Rattle.effects.proofs.laws.effects_are_the_least_solution.Goals as goal

solution : (p : Program) (subject : Subject) → IsLeastSolution p subject
solution p subject = record {
  all_of_statement = rows.all_rows p subject;
  pending_of_statement = rows.pending_rows p subject;
  all_of_list = rows.all_lists p subject;
  pending_of_list = rows.pending_lists p subject;
  nothing = rows.all_none p subject;
  least = λ has solves b x h. rows.least p subject has solves h;
  least_pending = λ has solves b x h. rows.least_pending p subject has solves h;
}

pub returns : goal.returns
returns c = record { accesses = λ p. solution p accesses; labels = λ p. solution p labels }
