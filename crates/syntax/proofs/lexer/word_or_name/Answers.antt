use Rattle.std.proofs.Common.{[], ◌∷◌, ◌∙◌, ap, sym, refl}
use Rattle.syntax.specs.Lexical.{NamePiece, WordPiece}
use Rattle.syntax.specs.Token.{NameToken}
use Rattle.syntax.proofs.lexer.word_or_name.Goals as goal

pub returns-in-Some : goal.returns-in-Some
returns-in-Some c = record {
  piece = WordPiece c.in-Some.word;
  spelled = sym (c.in-Some.ensures.found ∙ c.as_str.ensures.value ∙ c.in_ok-name.ensures);
  tokens = refl;
  stands = λ rest ends. ends;
}

pub returns-in-None : goal.returns-in-None
returns-in-None c =
    let text = c.as_str.ensures.value ∙ c.in_ok-name.ensures in
    record {
      piece = NamePiece c.args.letters.now;
      spelled = refl;
      tokens = ap (λ cs. NameToken cs ∷ []) (sym c.in_ok-name.ensures);
      stands = λ rest ends. record {
        begins = c.requires.begins;
        in_name = c.requires.in_name;
        ends = ends;
        no_word = λ word same. c.in-None.ensures.absent word (same ∙ sym text);
      };
    }
