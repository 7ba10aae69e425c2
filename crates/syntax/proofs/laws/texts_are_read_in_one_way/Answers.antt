use Rattle.syntax.proofs.Pieces.{one_reading, no_reading, one_place}
use Rattle.syntax.proofs.laws.texts_are_read_in_one_way.Goals as goal

pub returns : goal.returns
returns c = record { one = one_reading; none = no_reading; place = one_place }
