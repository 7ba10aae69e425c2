use Rattle.sections.proofs.Overlapping.{left_has_right, right_has_left}
use Rattle.sections.proofs.laws.sides_stand_together.Goals as goal

pub returns : goal.returns
returns c = record {
  left = left_has_right;
  right = right_has_left;
}
