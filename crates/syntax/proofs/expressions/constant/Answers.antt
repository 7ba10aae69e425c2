use Rattle.std.proofs.Common.{rules, sym, ◌∙◌}
use Rattle.syntax.specs.Spelling.{atom_then}
use Rattle.syntax.specs.Token.{plain}
use Rattle.syntax_tree.specs.Tree.{atom}
use Rattle.syntax.proofs.ChainLemmas.{behind}
use Rattle.syntax.proofs.RefusalLemmas.{passed_on, same_rest, true_atom, false_atom, number_atom, length_atom, BeginsNoAtom, no_atom}
use Rattle.syntax.proofs.expressions.constant.Goals as goal

pub returns-in-Some-clause-read : goal.returns-in-Some-clause-read
unfolding atom_then atom
returns-in-Some-clause-read c = record {
  spelled = search rules;
  whole = λ a r ends spelled. true_atom a _ r (sym c.in-Some.ensures.found ∙ spelled);
}

pub returns-in-Some-after_word-clause-read : goal.returns-in-Some-after_word-clause-read
unfolding atom_then atom
returns-in-Some-after_word-clause-read c = record {
  spelled = search rules;
  whole = λ a r ends spelled. false_atom a _ r (sym c.in-Some-after_word.ensures.found ∙ spelled);
}

pub returns-in-Some-after_word-2-clause-read : goal.returns-in-Some-after_word-2-clause-read
unfolding atom_then atom
returns-in-Some-after_word-2-clause-read c = record {
  spelled = c.in-Some-after_word-2.ensures.found
      ∙ behind (c.in_ok-rest.ensures.found ∙ behind (c.in_ok-name.ensures.found ∙ behind c.in_ok-rest-2.ensures.found));
  whole = λ a r ends spelled.
      let section = length_atom a _ r (sym c.in-Some-after_word-2.ensures.found ∙ spelled) in
      let paren = same_rest (sym c.in_ok-name.ensures.found ∙ same_rest (sym c.in_ok-rest.ensures.found ∙ section.1)) in
      same_rest (sym c.in_ok-rest-2.ensures.found ∙ paren);
}

pub returns-clause-read : goal.returns-clause-read
unfolding atom_then atom
returns-clause-read c = record {
  spelled = c.in_ok-value.ensures.found;
  whole = λ a r ends spelled. number_atom a _ _ r (sym c.in_ok-value.ensures.found ∙ spelled);
}

pub returns-in_err-rest-clause-refused : goal.returns-in_err-rest-clause-refused
returns-in_err-rest-clause-refused c =
    passed_on _ _ c.from_residual.ensures.1 (λ room no_name no_mark a r ends spelled.
    let section = length_atom a _ r (sym c.in-Some-after_word-2.ensures.found ∙ spelled) in
    c.in_err-rest.ensures.refused _ section.1)

pub returns-in_err-name-clause-refused : goal.returns-in_err-name-clause-refused
returns-in_err-name-clause-refused c =
    passed_on _ _ c.from_residual-in_err-name.ensures.1 (λ room no_name no_mark a r ends spelled.
    let section = length_atom a _ r (sym c.in-Some-after_word-2.ensures.found ∙ spelled) in
    c.in_err-name.ensures.refused room _ _ (same_rest (sym c.in_ok-rest.ensures.found ∙ section.1)))

pub returns-in_err-rest-2-clause-refused : goal.returns-in_err-rest-2-clause-refused
returns-in_err-rest-2-clause-refused c =
    passed_on _ _ c.from_residual-in_err-rest-2.ensures.1 (λ room no_name no_mark a r ends spelled.
    let section = length_atom a _ r (sym c.in-Some-after_word-2.ensures.found ∙ spelled) in
    c.in_err-rest-2.ensures.refused _ (same_rest (sym c.in_ok-name.ensures.found ∙ same_rest (sym c.in_ok-rest.ensures.found ∙ section.1))))

pub returns-in_err-value-clause-refused : goal.returns-in_err-value-clause-refused
returns-in_err-value-clause-refused c =
    passed_on _ _ c.from_residual-in_err-value.ensures.1 (λ room no_name no_mark a r ends.
    let none : BeginsNoAtom (plain c.args.tokens.now) = record {
      number = c.in_err-value.ensures.refused;
      is_true = c.in_default.ensures.absent;
      is_false = c.in_default-after_word.ensures.absent;
      is_length = c.in_default-after_word-2.ensures.absent;
      name = no_name;
      mark = no_mark;
    } in
    no_atom _ none a r)
