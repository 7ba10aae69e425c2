use Rattle.std.proofs.Common.{sym, ◌∙◌}
use Rattle.syntax.specs.Spelling.{stmt_then}
use Rattle.syntax.specs.Token.{plain}
use Rattle.syntax_tree.specs.Tree.{stmt}
use Rattle.syntax.proofs.ChainLemmas.{behind}
use Rattle.syntax.proofs.RefusalLemmas.{passed_on, same_rest}
use Rattle.syntax.proofs.StmtRefusals.{BeginsNoStatement, no_simple, skip_opened, fault_opened}
use Rattle.syntax.proofs.statements.simple.Goals as goal

pub returns-in-Some-clause-read : goal.returns-in-Some-clause-read
unfolding stmt_then stmt
returns-in-Some-clause-read c = record {
  spelled = c.in-Some.ensures.found ∙ behind c.in_ok-rest.ensures.found;
  whole = λ s r ends spelled.
      let mark = skip_opened s _ r (sym c.in-Some.ensures.found ∙ spelled) in
      same_rest (sym c.in_ok-rest.ensures.found ∙ mark);
}

pub returns-clause-read : goal.returns-clause-read
unfolding stmt_then stmt
returns-clause-read c = record {
  spelled = c.in_ok-rest-2.ensures.found ∙ behind c.in_ok-value.ensures.read.spelled;
  whole = λ s r ends spelled.
      let value = fault_opened s _ r (sym c.in_ok-rest-2.ensures.found ∙ spelled) in
      c.in_ok-value.ensures.read.whole value.0 r value.1;
}

pub returns-in_err-rest-clause-refused : goal.returns-in_err-rest-clause-refused
returns-in_err-rest-clause-refused c =
    passed_on _ _ c.from_residual.ensures.1 (λ room word rest is is_if is_while is_split is_parts is_async is_finish s r ends spelled.
    let mark = skip_opened s _ r (sym c.in-Some.ensures.found ∙ spelled) in
    c.in_err-rest.ensures.refused _ mark)

pub returns-in_err-rest-2-clause-refused : goal.returns-in_err-rest-2-clause-refused
returns-in_err-rest-2-clause-refused c =
    passed_on _ _ c.from_residual-in_err-rest-2.ensures.1 (λ room word rest is is_if is_while is_split is_parts is_async is_finish s r ends.
    let none : BeginsNoStatement (plain c.args.tokens.now) = record {
      word = word;
      rest = rest;
      first = is;
      is_if = is_if;
      is_while = is_while;
      is_split = is_split;
      is_parts = is_parts;
      is_async = is_async;
      is_finish = is_finish;
      skip = c.in_default.ensures.absent;
      var = c.in_default-after_word.ensures.absent;
      print = c.in_default-after_word-2.ensures.absent;
      fault = c.in_err-rest-2.ensures.refused;
    } in
    no_simple _ none s r)

pub returns-in_err-value-clause-refused : goal.returns-in_err-value-clause-refused
returns-in_err-value-clause-refused c =
    passed_on _ _ c.from_residual-in_err-value.ensures.1 (λ room word rest is is_if is_while is_split is_parts is_async is_finish s r ends spelled.
    let value = fault_opened s _ r (sym c.in_ok-rest-2.ensures.found ∙ spelled) in
    c.in_err-value.ensures.refused room value.0 r value.1)
