use Rattle.std.proofs.Common.{rules}
use Rattle.std.proofs.lemmas.Str.{encodes-IsAscii}
use Rattle.syntax.proofs.LexicalLemmas.{letters_are_ascii}
use Rattle.syntax.proofs.lexer.text_of.Goals as goal

pub returns : goal.returns
returns c =
    let ascii = letters_are_ascii c.args.letters.now c.requires in
    let encoded = encodes-IsAscii c.args.letters.now ascii in
    search (rules, encoded)
