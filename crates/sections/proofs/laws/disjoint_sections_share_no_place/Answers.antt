use Rattle.sections.proofs.Windows.{disjoint-apart}
use Rattle.sections.proofs.laws.disjoint_sections_share_no_place.Goals as goal

pub returns : goal.returns
returns c = disjoint-apart
