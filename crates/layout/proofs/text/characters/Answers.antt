use Rattle.std.proofs.Common.{rules}
use Rattle.std.proofs.lemmas.Str.{chars_from_encodes}
use Rattle.layout.proofs.text.characters.Goals as goal

-- what was collected is encoded by the text's bytes, so it is the text's characters
pub returns : goal.returns
returns c = search (rules, chars_from_encodes)
