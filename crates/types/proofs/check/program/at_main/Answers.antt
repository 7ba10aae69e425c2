use Rattle.std.proofs.Common.{◌<◌, ◌+◌, ◌++◌, length, map, drop, ap, sym, ◌∙◌, rules}
use Rattle.syntax_tree.specs.Tree as tree
use Rattle.types.specs.Resolving.{scope_of}
use Rattle.types.specs.Rules.{array_errors}
use Rattle.types.specs.Scope.{with_array, with_arrays}
use Rattle.types.proofs.Telling.{at_front, exit_left}
use Rattle.types.proofs.check.program.at_main.Goals as goal

pub loop-array-preserved : goal.loop-array-preserved
loop-array-preserved c =
    let i = c.loop-array.array-index in
    let rest = map tree.array (drop (i + 1) c.args.arrays.now) in
    let now = scope_of c.loop-array.scope in
    let inside : i < length c.args.arrays.now = search rules in
    let front = at_front (map tree.array) _ i _ inside c.array-item.is in
    let place = c.in_ok-root.ensures.place in
    record {
      place = ap (with_arrays rest) place ∙ ap (λ l. with_arrays l now) (sym front) ∙ c.loop-array.invariant.place;
      right = ap (λ p. array_errors p rest) place
          ∙ ap (λ l. l ++ array_errors (with_array (tree.array c.array-item.result) now) rest) (sym c.in_ok-root.ensures.right)
          ∙ ap (array_errors now) (sym front) ∙ c.loop-array.invariant.right;
    }

pub returns-in_err-root-clause-error : goal.returns-in_err-root-clause-error
returns-in_err-root-clause-error c =
    let inside : c.loop-array.array-index < length c.args.arrays.now = search rules in
    let front = at_front (map tree.array) _ c.loop-array.array-index _ inside c.array-item.is in
    exit_left c.from_residual.result c.in_err-root.field-0.0 c.from_residual.ensures.1 _ _
    (sym c.loop-array.invariant.right ∙ ap (array_errors (scope_of c.loop-array.scope)) front) c.in_err-root.ensures.error
