use Rattle.std.proofs.Common.{◌+◌, ◌<◌, ◌≤◌, [], ◌∷◌, ◌++◌, drop, length, map, sym, ap, ◌∙◌, rules, append-nil}
use Rattle.std.proofs.lemmas.List.{at_drop_all}
use Rattle.syntax_tree.specs.Tree.{expr}
use Rattle.types.specs.ExpressionErrors as errors
use Rattle.types.specs.Resolution as resolution
use Rattle.types.specs.Resolving.{names_of}
use Rattle.types.specs.Translation.{number}
use Rattle.types.proofs.Expressions.{one_more_number}
use Rattle.types.proofs.Telling.{at_front, exit_left}
use Rattle.types.proofs.check.expressions.Expressions.numbers.Goals as goal

pub loop-expr-init : goal.loop-expr-init
loop-expr-init c =
    let label = c.args.self.now.label in
    let names = names_of c.args.self.now.names.now in
    let rest = map expr c.args.rest.now in
    record {
      right = ap (λ l. l ++ errors.numbers label names rest) c.in_ok-value.ensures.right;
      code = ap (λ n. n ∷ map (resolution.number names) rest) c.in_ok-value.ensures.code
          ∙ ap (λ vs. map number vs ++ map (resolution.number names) rest)
          (sym (c.in_ok-push.ensures.items ∙ ap (λ vs. vs ++ c.in_ok-value.value ∷ []) c.new-values.ensures.items));
    }

pub returns-in_err-value-2-clause-error : goal.returns-in_err-value-2-clause-error
returns-in_err-value-2-clause-error c =
    let inside : c.loop-expr.expr-index < length c.args.rest.now = search rules in
    let front = at_front (map expr) _ c.loop-expr.expr-index _ inside c.expr-item.is in
    exit_left c.from_residual-in_err-value-2.result c.in_err-value-2.field-0.0
    c.from_residual-in_err-value-2.ensures.1 _ _
    (c.loop-expr.invariant.right ∙ ap (errors.numbers c.args.self.now.label
    (names_of c.args.self.now.names.now)) front) c.in_err-value-2.ensures.error

pub loop-expr-preserved : goal.loop-expr-preserved
loop-expr-preserved c =
    let label = c.args.self.now.label in
    let names = names_of c.args.self.now.names.now in
    let xs = c.args.rest.now in
    let i = c.loop-expr.expr-index in
    let x = c.expr-item.result in
    let inside : i < length xs = search rules in
    let front = at_front (map expr) xs i x inside c.expr-item.is in
    let left = map expr (drop (i + 1) xs) in
    let more = map (resolution.number names) left in
    record {
      right = c.loop-expr.invariant.right ∙ ap (errors.numbers label names) front
          ∙ ap (λ l. l ++ errors.numbers label names left) c.in_ok-value-2.ensures.right;
      code = c.loop-expr.invariant.code
          ∙ ap (λ l. map number c.loop-expr.values.items ++ map (resolution.number names) l) front
          ∙ ap (λ n. map number c.loop-expr.values.items ++ n ∷ more) c.in_ok-value-2.ensures.code
          ∙ sym (one_more_number c.loop-expr.values.items c.in_ok-value-2.value more)
          ∙ ap (λ vs. map number vs ++ more) (sym c.in_ok-push-2.ensures.items);
    }

pub returns-clause-right : goal.returns-clause-right
returns-clause-right c =
    let at_end : length c.args.rest.now ≤ c.loop-expr.expr-index = search rules in
    c.loop-expr.invariant.right
    ∙ ap (errors.numbers c.args.self.now.label (names_of c.args.self.now.names.now))
    (at_drop_all (map expr) _ _ at_end)

pub returns-clause-code : goal.returns-clause-code
returns-clause-code c =
    let names = names_of c.args.self.now.names.now in
    let xs = c.args.rest.now in
    let i = c.loop-expr.expr-index in
    let at_end : length xs ≤ i = search rules in
    c.loop-expr.invariant.code
    ∙ ap (λ l. map number c.loop-expr.values.items ++ map (resolution.number names) l) (at_drop_all (map expr) xs i at_end)
    ∙ append-nil (map number c.loop-expr.values.items)
