use Rattle.std.proofs.Common.{◌≡◌, ◌≤◌, length, map, arith, sym, ap, ◌∙◌, subst, rules}
use Rattle.std.proofs.lemmas.List.{length-map}
use Rattle.syntax_tree.specs.Tree as tree
use Rattle.types.specs.Resolving.{procedures_of, IsWellScoped}
use Rattle.types.specs.Rules.{limit, procedure_errors}
use Rattle.types.specs.Scope.{Scope, empty_scope}
use Rattle.types.specs.Told.{Told}
use Rattle.types.proofs.Scopes.{scoped_parameters, scoped_empty, label_with_parameters}
use Rattle.types.proofs.Telling.{at_exit, told_left}
use Rattle.types.proofs.check.program.resolve_procedure.Goals as goal

pub returns-in_err-limit-clause-error : goal.returns-in_err-limit-clause-error
returns-in_err-limit-clause-error c =
    let ps = c.args.declared.now.parameters.items in
    let e = c.in_err-limit.field-0.0 in
    let same : length c.as_slice-parameters.result.now ≡ length ps = search rules in
    at_exit (Told (procedure_errors (procedures_of c.args.statements.now.procedures) c.args.label.now (tree.procedure c.args.declared.now)))
    c.from_residual.result e c.from_residual.ensures.1
    (told_left (limit 16 (length (map tree.parameter ps))) _ e
    (subst (λ n. Told (limit 16 n) e) (same ∙ sym (length-map ps tree.parameter)) c.in_err-limit.ensures.error))

pub resolved-requires-clause-scoped : goal.resolved-requires-clause-scoped
resolved-requires-clause-scoped c =
    let xs = c.as_slice-parameters.result.now in
    let label = c.args.label.now in
    let few : length xs ≤ 16 = search rules in
    subst IsWellScoped (sym c.in_ok-scope.ensures.place)
    (scoped_parameters (map tree.parameter xs) (empty_scope label) (omega (arith, few, length-map xs tree.parameter)) (scoped_empty label))

pub resolved-requires-clause-same : goal.resolved-requires-clause-same
resolved-requires-clause-same c =
    ap (λ (s : Scope). s.label) c.in_ok-scope.ensures.place
    ∙ label_with_parameters (map tree.parameter c.as_slice-parameters.result.now) (empty_scope c.args.label.now)
