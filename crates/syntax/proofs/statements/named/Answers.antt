use Rattle.std.proofs.Common.{◌∷◌, sym, ◌∙◌, ap}
use Rattle.syntax.specs.Spelling.{expr_then, exprs_then, stmt_then}
use Rattle.syntax_tree.specs.Tree.{expr, exprs, stmt}
use Rattle.syntax.proofs.ChainLemmas.{behind, behind_first}
use Rattle.syntax.specs.declared.token.Mark.TheVariants.{Semicolon}
use Rattle.syntax.specs.Token.{MarkToken}
use Rattle.syntax.proofs.RefusalLemmas.{passed_on, same_rest}
use Rattle.syntax.proofs.StmtRefusals.{no_statement, store_opened, call_opened, assign_opened}
use Rattle.syntax.proofs.statements.named.Goals as goal

pub returns-in-Some-clause-read : goal.returns-in-Some-clause-read
unfolding stmt_then stmt
returns-in-Some-clause-read c = record {
  spelled = c.in_ok-name.ensures.found
      ∙ behind (c.in-Some.ensures.found
      ∙ behind (c.in_ok-index.ensures.read.spelled
      ∙ ap (expr_then (expr c.in_ok-index.index)) (c.in_ok-rest.ensures.found
      ∙ behind (c.in_ok-rest-2.ensures.found ∙ behind c.in_ok-value.ensures.read.spelled))));
  whole = λ s r ends spelled.
      let parts = store_opened s _ _ r (sym (c.in_ok-name.ensures.found ∙ behind c.in-Some.ensures.found) ∙ spelled) in
      let bracket = c.in_ok-index.ensures.read.whole parts.index parts.after parts.ends parts.spelled in
      let mark = behind_first c.in_ok-rest.ensures.found (bracket ∙ parts.closed) in
      c.in_ok-value.ensures.read.whole parts.value r (behind_first c.in_ok-rest-2.ensures.found mark);
}

pub returns-in-Some-after_mark-clause-read : goal.returns-in-Some-after_mark-clause-read
unfolding stmt_then stmt
returns-in-Some-after_mark-clause-read c = record {
  spelled = c.in_ok-name.ensures.found
      ∙ behind (c.in-Some-after_mark.ensures.found
      ∙ behind (c.in_ok-arguments.ensures.read.spelled
      ∙ ap (exprs_then (exprs c.in_ok-arguments.arguments.items)) (behind c.in_ok-rest-3.ensures.found)));
  whole = λ s r ends spelled.
      let parts = call_opened s _ _ r (sym (c.in_ok-name.ensures.found ∙ behind c.in-Some-after_mark.ensures.found) ∙ spelled) in
      let mark = c.in_ok-arguments.ensures.read.whole parts.0 (MarkToken Semicolon ∷ r) parts.1 in
      same_rest (sym c.in_ok-rest-3.ensures.found ∙ mark);
}

pub returns-clause-read : goal.returns-clause-read
unfolding stmt_then stmt
returns-clause-read c = record {
  spelled = c.in_ok-name.ensures.found ∙ behind (c.in_ok-rest-4.ensures.found ∙ behind c.in_ok-value-2.ensures.read.spelled);
  whole = λ s r ends spelled.
      let parts = assign_opened s _ _ r c.in_default.ensures.absent c.in_default-after_mark.ensures.absent
      (sym c.in_ok-name.ensures.found ∙ spelled) in
      let value = same_rest (sym c.in_ok-rest-4.ensures.found ∙ parts.1) in
      c.in_ok-value-2.ensures.read.whole parts.0 r value;
}

pub returns-in_err-name-clause-refused : goal.returns-in_err-name-clause-refused
returns-in_err-name-clause-refused c =
    passed_on _ _ c.from_residual.ensures.1 (λ room no_word s r ends.
    no_statement _ no_word (c.in_err-name.ensures.refused room) s r)

pub returns-in_err-index-clause-refused : goal.returns-in_err-index-clause-refused
returns-in_err-index-clause-refused c =
    passed_on _ _ c.from_residual-in_err-index.ensures.1 (λ room no_word s r ends spelled.
    let parts = store_opened s _ _ r (sym (c.in_ok-name.ensures.found ∙ behind c.in-Some.ensures.found) ∙ spelled) in
    c.in_err-index.ensures.refused room parts.index parts.after parts.ends parts.spelled)

pub returns-in_err-rest-clause-refused : goal.returns-in_err-rest-clause-refused
returns-in_err-rest-clause-refused c =
    passed_on _ _ c.from_residual-in_err-rest.ensures.1 (λ room no_word s r ends spelled.
    let parts = store_opened s _ _ r (sym (c.in_ok-name.ensures.found ∙ behind c.in-Some.ensures.found) ∙ spelled) in
    let bracket = c.in_ok-index.ensures.read.whole parts.index parts.after parts.ends parts.spelled in
    c.in_err-rest.ensures.refused _ (bracket ∙ parts.closed))

pub returns-in_err-rest-2-clause-refused : goal.returns-in_err-rest-2-clause-refused
returns-in_err-rest-2-clause-refused c =
    passed_on _ _ c.from_residual-in_err-rest-2.ensures.1 (λ room no_word s r ends spelled.
    let parts = store_opened s _ _ r (sym (c.in_ok-name.ensures.found ∙ behind c.in-Some.ensures.found) ∙ spelled) in
    let bracket = c.in_ok-index.ensures.read.whole parts.index parts.after parts.ends parts.spelled in
    c.in_err-rest-2.ensures.refused _ (behind_first c.in_ok-rest.ensures.found (bracket ∙ parts.closed)))

pub returns-in_err-value-clause-refused : goal.returns-in_err-value-clause-refused
returns-in_err-value-clause-refused c =
    passed_on _ _ c.from_residual-in_err-value.ensures.1 (λ room no_word s r ends spelled.
    let parts = store_opened s _ _ r (sym (c.in_ok-name.ensures.found ∙ behind c.in-Some.ensures.found) ∙ spelled) in
    let bracket = c.in_ok-index.ensures.read.whole parts.index parts.after parts.ends parts.spelled in
    let mark = behind_first c.in_ok-rest.ensures.found (bracket ∙ parts.closed) in
    c.in_err-value.ensures.refused room parts.value r (behind_first c.in_ok-rest-2.ensures.found mark))

pub returns-in_err-arguments-clause-refused : goal.returns-in_err-arguments-clause-refused
returns-in_err-arguments-clause-refused c =
    passed_on _ _ c.from_residual-in_err-arguments.ensures.1 (λ room no_word s r ends spelled.
    let parts = call_opened s _ _ r (sym (c.in_ok-name.ensures.found ∙ behind c.in-Some-after_mark.ensures.found) ∙ spelled) in
    c.in_err-arguments.ensures.refused room parts.0 (MarkToken Semicolon ∷ r) parts.1)

pub returns-in_err-rest-3-clause-refused : goal.returns-in_err-rest-3-clause-refused
returns-in_err-rest-3-clause-refused c =
    passed_on _ _ c.from_residual-in_err-rest-3.ensures.1 (λ room no_word s r ends spelled.
    let parts = call_opened s _ _ r (sym (c.in_ok-name.ensures.found ∙ behind c.in-Some-after_mark.ensures.found) ∙ spelled) in
    let mark = c.in_ok-arguments.ensures.read.whole parts.0 (MarkToken Semicolon ∷ r) parts.1 in
    c.in_err-rest-3.ensures.refused _ mark)

pub returns-in_err-rest-4-clause-refused : goal.returns-in_err-rest-4-clause-refused
returns-in_err-rest-4-clause-refused c =
    passed_on _ _ c.from_residual-in_err-rest-4.ensures.1 (λ room no_word s r ends spelled.
    let parts = assign_opened s _ _ r c.in_default.ensures.absent c.in_default-after_mark.ensures.absent
    (sym c.in_ok-name.ensures.found ∙ spelled) in
    c.in_err-rest-4.ensures.refused _ parts.1)

pub returns-in_err-value-2-clause-refused : goal.returns-in_err-value-2-clause-refused
returns-in_err-value-2-clause-refused c =
    passed_on _ _ c.from_residual-in_err-value-2.ensures.1 (λ room no_word s r ends spelled.
    let parts = assign_opened s _ _ r c.in_default.ensures.absent c.in_default-after_mark.ensures.absent
    (sym c.in_ok-name.ensures.found ∙ spelled) in
    let value = same_rest (sym c.in_ok-rest-4.ensures.found ∙ parts.1) in
    c.in_err-value-2.ensures.refused room parts.0 r value)
