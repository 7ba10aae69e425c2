use Rattle.std.proofs.Common.{◌++◌, refl, ap, sym, ◌∙◌}
use Rattle.std.proofs.lemmas.Bool.{both_ways}
use Rattle.std.specs.String.{string_bytes}
use Rattle.shared_lemmas.proofs.Results.{ok_then}
use Rattle.syntax.specs.declared.token.Left.TheVariants.{Opening}
use Rattle.syntax.specs.Spelling.{stmt_then}
use Rattle.syntax_tree.specs.Tree.{Print, Call, expr, exprs, stmt}
use Rattle.syntax.specs.Writing.{with_rest}
use Rattle.syntax.proofs.ExpressionText.{pushed, then_ok}
use Rattle.syntax.proofs.LineText.{wrote_simple, laid_Skip, laid_Var, laid_Assign, laid_Store, laid_Print}
use Rattle.syntax.proofs.LineText.{laid_Fault, laid_Call}
use Rattle.syntax.proofs.StatementKinds.{stmt_Skip, stmt_Var, stmt_Assign, stmt_Store, stmt_Print, stmt_Fault, stmt_Call, is_simple-false}
use Rattle.syntax.proofs.canonical.simple.Goals as goal

pub returns-in_ok-push_str-in-Var-clause-written : goal.returns-in_ok-push_str-in-Var-clause-written
returns-in_ok-push_str-in-Var-clause-written c =
    let old = c.args.lines.now in
    let text = then_ok c.assignment.result (string_bytes old.text) _ _ _ c.in_ok-push_str-in-Var.ensures.bytes c.assignment.ensures in
    let is = ap stmt c.in-Var.is ∙ stmt_Var c.in-Var.name c.in-Var.value in
    ok_then c.assignment.result text (λ added r. ap (λ s. with_rest old Opening (stmt_then s r)) is
    ∙ wrote_simple old (record old { text = c.assignment.new.out }) _ _ (λ at q. laid_Var at (string_bytes c.in-Var.name) (expr
    c.in-Var.value) q) added refl refl r)

pub returns-in-Assign-clause-written : goal.returns-in-Assign-clause-written
returns-in-Assign-clause-written c =
    let old = c.args.lines.now in
    let text = c.assignment-in-Assign.ensures in
    let is = ap stmt c.in-Assign.is ∙ stmt_Assign c.in-Assign.name c.in-Assign.value in
    ok_then c.assignment-in-Assign.result text (λ added r. ap (λ s. with_rest old Opening (stmt_then s r)) is
    ∙ wrote_simple old (record old { text = c.assignment-in-Assign.new.out }) _ _ (λ at q. laid_Assign at (string_bytes
    c.in-Assign.name) (expr c.in-Assign.value) q) added refl refl r)

pub returns-in-Store-clause-written : goal.returns-in-Store-clause-written
returns-in-Store-clause-written c =
    let old = c.args.lines.now in
    let is = ap stmt c.in-Store.is ∙ stmt_Store c.in-Store.section c.in-Store.index c.in-Store.value in
    ok_then c.store.result c.store.ensures (λ added r. ap (λ s. with_rest old Opening (stmt_then s r)) is
    ∙ wrote_simple old (record old { text = c.store.new.out }) _ _ (λ at q. laid_Store at (string_bytes c.in-Store.section)
    (expr c.in-Store.index) (expr c.in-Store.value) q) added refl refl r)

pub returns-in-Print-clause-written : goal.returns-in-Print-clause-written
returns-in-Print-clause-written c =
    let old = c.args.lines.now in
    let is = ap stmt c.in-Print.is ∙ stmt_Print c.in-Print.first c.in-Print.rest
    ∙ ap (λ l. Print (expr c.in-Print.first) (exprs l)) (sym c.deref.ensures.value) in
    ok_then c.print.result c.print.ensures (λ added r. ap (λ s. with_rest old Opening (stmt_then s r)) is
    ∙ wrote_simple old (record old { text = c.print.new.out }) _ _ (λ at q. laid_Print at (expr c.in-Print.first) (exprs
    c.deref.result.now) q) added refl refl r)

pub returns-in_ok-push_str-in-Fault-clause-written : goal.returns-in_ok-push_str-in-Fault-clause-written
returns-in_ok-push_str-in-Fault-clause-written c =
    let old = c.args.lines.now in
    let text = then_ok c.expr.result (string_bytes old.text) _ _ _ c.in_ok-push_str-in-Fault.ensures.bytes
    c.expr.ensures in
    let is = ap stmt c.in-Fault.is ∙ stmt_Fault c.in-Fault.value in
    ok_then c.expr.result text (λ added r. ap (λ s. with_rest old Opening (stmt_then s r)) is
    ∙ wrote_simple old (record old { text = c.expr.new.out }) _ _ (λ at q. laid_Fault at (expr
    c.in-Fault.value) q) added refl refl r)

pub returns-in_ok-listed-in-Call-clause-written : goal.returns-in_ok-listed-in-Call-clause-written
unfolding lib.Utf8.encode
returns-in_ok-listed-in-Call-clause-written c =
    let old = c.args.lines.now in
    let name = c.in_ok-push_str-in-Call.ensures.bytes ∙ ap (λ l. string_bytes old.text ++ l) c.as_str.ensures.value in
    let inside = then_ok c.push-in-Call.result (string_bytes c.push.new.self) _ _ _ c.in_ok-listed-in-Call.ensures (pushed
    c.push-in-Call.result _ _ _ c.push-in-Call.ensures.bytes) in
    let text = then_ok c.push-in-Call.result (string_bytes old.text) _ _ _ name (then_ok c.push-in-Call.result (string_bytes
    c.push_str-in-Call.new.self) _ _ _ c.in_ok-push-in-Call.ensures.bytes inside) in
    let is = ap stmt c.in-Call.is ∙ stmt_Call c.in-Call.procedure c.in-Call.arguments
    ∙ ap (λ l. Call (string_bytes c.in-Call.procedure) (exprs l)) (sym c.deref-in-Call.ensures.value) in
    ok_then c.push-in-Call.result text (λ added r. ap (λ s. with_rest old Opening (stmt_then s r)) is
    ∙ wrote_simple old (record old { text = c.push-in-Call.new.self }) _ _ (λ at q. laid_Call at (string_bytes
    c.in-Call.procedure) (exprs c.deref-in-Call.result.now) q) added refl refl r)

pub returns-in-Skip-clause-written : goal.returns-in-Skip-clause-written
returns-in-Skip-clause-written c =
    let old = c.args.lines.now in
    ok_then c.push_str.result (pushed c.push_str.result _ _ _ c.push_str.ensures.bytes)
    (λ added r. ap (λ s. with_rest old Opening (stmt_then s r)) (ap stmt c.in-Skip.is ∙ stmt_Skip)
    ∙ wrote_simple old (record old { text = c.push_str.new.self }) _ _ (λ at q. laid_Skip at q) added refl refl r)

pub returns-in-If-clause-written : goal.returns-in-If-clause-written
returns-in-If-clause-written c = absurd (both_ways _ (is_simple-false c.args.statement.now c.in-If.is) c.requires.simple)

pub returns-in-If-2-clause-written : goal.returns-in-If-2-clause-written
returns-in-If-2-clause-written c = absurd (both_ways _ (is_simple-false c.args.statement.now c.in-If.is) c.requires.simple)

pub returns-in-If-3-clause-written : goal.returns-in-If-3-clause-written
returns-in-If-3-clause-written c = absurd (both_ways _ (is_simple-false c.args.statement.now c.in-If.is) c.requires.simple)

pub returns-in-If-4-clause-written : goal.returns-in-If-4-clause-written
returns-in-If-4-clause-written c = absurd (both_ways _ (is_simple-false c.args.statement.now c.in-If.is) c.requires.simple)

pub returns-in-If-5-clause-written : goal.returns-in-If-5-clause-written
returns-in-If-5-clause-written c = absurd (both_ways _ (is_simple-false c.args.statement.now c.in-If.is) c.requires.simple)

pub returns-in-If-6-clause-written : goal.returns-in-If-6-clause-written
returns-in-If-6-clause-written c = absurd (both_ways _ (is_simple-false c.args.statement.now c.in-If.is) c.requires.simple)

pub returns-in-If-7-clause-written : goal.returns-in-If-7-clause-written
returns-in-If-7-clause-written c = absurd (both_ways _ (is_simple-false c.args.statement.now c.in-If.is) c.requires.simple)
