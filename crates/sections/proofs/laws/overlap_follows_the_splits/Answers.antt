use Rattle.sections.proofs.Overlapping.{sides-disjoint, side-disjoint, two_splits-overlap}
use Rattle.sections.proofs.laws.overlap_follows_the_splits.Goals as goal

pub returns : goal.returns
returns c = record {
  sides = sides-disjoint;
  inherited = side-disjoint;
  two_splits = two_splits-overlap;
}
