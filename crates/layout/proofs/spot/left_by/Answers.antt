use Rattle.std.proofs.Common.{ap, ◌∙◌, sym}
use Rattle.syntax.specs.Canonical.{left_by}
use Rattle.syntax.specs.Token.{token}
use Rattle.layout.proofs.spot.left_by.Goals as goal

pub returns-in-Word : goal.returns-in-Word
returns-in-Word c = c.left_by_word.ensures c.args.left ∙ sym (ap (λ t. left_by c.args.left (token t)) c.in-Word.is)
