use Rattle.sections.proofs.Covering.{in_window, is_in-from}
use Rattle.sections.proofs.Unique.{same_cover}
use Rattle.sections.proofs.laws.covers_are_unique.Goals as goal

pub returns : goal.returns
returns c = record {
  tested = λ w q. (in_window w q, is_in-from w q);
  unique = same_cover;
}
