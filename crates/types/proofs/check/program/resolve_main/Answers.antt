use Rattle.std.proofs.Common.{◌≡◌, Some, length, map, sym, ap, ◌∙◌, subst, rules}
use Rattle.std.proofs.lemmas.List.{length-map}
use Rattle.syntax_tree.specs.Tree as tree
use Rattle.types.specs.Resolving.{procedures_of, IsWellScoped}
use Rattle.types.specs.Rules.{limit, main_errors}
use Rattle.types.specs.Scope.{Scope, empty_scope}
use Rattle.types.specs.Told.{Told}
use Rattle.types.proofs.Scopes.{scoped_arrays, scoped_empty, label_with_arrays}
use Rattle.types.proofs.Telling.{at_exit, told_left}
use Rattle.types.proofs.check.program.resolve_main.Goals as goal

pub returns-in_err-limit-clause-error : goal.returns-in_err-limit-clause-error
returns-in_err-limit-clause-error c =
    let xs = c.args.main.now.arrays.items in
    let e = c.in_err-limit.field-0.0 in
    let same : length c.as_slice-declared.result.now ≡ length xs = search rules in
    at_exit (Told (main_errors (procedures_of c.args.statements.now.procedures) c.args.label (Some (tree.main c.args.main.now))))
    c.from_residual.result e c.from_residual.ensures.1
    (told_left (limit 32 (length (map tree.array xs))) _ e
    (subst (λ n. Told (limit 32 n) e) (same ∙ sym (length-map xs tree.array)) c.in_err-limit.ensures.error))

pub resolved-requires-clause-scoped : goal.resolved-requires-clause-scoped
resolved-requires-clause-scoped c =
    let label = c.args.label in
    subst IsWellScoped (sym c.in_ok-scope.ensures.place)
    (scoped_arrays (map tree.array c.as_slice-declared.result.now) (empty_scope label) (scoped_empty label))

pub resolved-requires-clause-same : goal.resolved-requires-clause-same
resolved-requires-clause-same c =
    ap (λ (s : Scope). s.label) c.in_ok-scope.ensures.place
    ∙ label_with_arrays (map tree.array c.as_slice-declared.result.now) (empty_scope c.args.label)
