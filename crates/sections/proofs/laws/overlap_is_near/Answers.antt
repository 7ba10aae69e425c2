use Rattle.sections.proofs.Overlapping.{overlap-sym, overlap-self, overlap-side}
use Rattle.sections.proofs.laws.overlap_is_near.Goals as goal

pub returns : goal.returns
returns c = record {
  symmetric = overlap-sym;
  itself = overlap-self;
  parent = overlap-side;
}
