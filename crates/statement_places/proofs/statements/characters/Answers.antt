use Rattle.std.proofs.Common.{rules}
use Rattle.std.proofs.lemmas.Str.{chars_from_encodes}
use Rattle.statement_places.proofs.statements.characters.Goals as goal

-- what was collected is encoded by the text's bytes, so it is the text's characters
pub returns-clause-value : goal.returns-clause-value
returns-clause-value c = search (rules, chars_from_encodes)
