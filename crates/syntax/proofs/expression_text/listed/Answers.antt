use Rattle.std.proofs.Common.{[], ◌++◌, ap, sym, ◌∙◌, append-nil}
use Rattle.std.proofs.lemmas.List.{nil_from_length}
use Rattle.std.specs.String.{string_bytes}
use Rattle.syntax.specs.Canonical.{in_line}
use Rattle.syntax.specs.Spelling.{exprs_then}
use Rattle.syntax_tree.specs.Tree.{exprs}
use Rattle.syntax.proofs.ExpressionText.{then_ok, ok_adds_equal, listed_none, listed_more}
use Rattle.syntax.proofs.expression_text.listed.Goals as goal

pub returns-in_default : goal.returns-in_default
returns-in_default c =
    let old = string_bytes c.args.out.now in
    let none = nil_from_length c.args.exprs.now c.in_default.ensures.cases in
    sym (append-nil old) ∙ ap (λ l. old ++ l) (sym (ap (λ l. in_line (exprs_then (exprs l) [])) none ∙ listed_none))

pub returns : goal.returns
returns c =
    let old = string_bytes c.args.out.now in
    let is = ap (λ l. in_line (exprs_then (exprs l) [])) c.in-Some.ensures.cases.0 in
    ok_adds_equal _ old _ (then_ok _ old _ _ _ c.in_ok-expr.ensures c.more.ensures)
    (is ∙ listed_more c.in-Some.first.now c.in-Some.rest.now)
