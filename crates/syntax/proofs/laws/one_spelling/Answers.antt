use Rattle.syntax.proofs.SpellingLemmas.{one_spelling}
use Rattle.syntax.proofs.laws.one_spelling.Goals as goal

pub returns : goal.returns
returns c = one_spelling
