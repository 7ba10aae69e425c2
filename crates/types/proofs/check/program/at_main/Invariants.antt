use Rattle.std.proofs.Common.{◌≡◌, drop, map}
use Rattle.syntax_tree.specs.Tree as tree
use Rattle.types.specs.Resolving.{scope_of}
use Rattle.types.specs.Rules.{array_errors}
use Rattle.types.specs.Scope.{with_arrays, empty_scope, in_main}
use Rattle.types.proofs.check.program.at_main.Given as goal

-- the arrays so far are declared, and the others lead to the same scope
abbrev pub invariant-loop-array : goal.invariant-loop-array
invariant-loop-array l =
    let left = map tree.array (drop l.array-index l.arrays) in
    record {
      place : with_arrays left (scope_of l.scope) ≡ in_main l.label (map tree.array l.arrays);
      right : array_errors (scope_of l.scope) left ≡ array_errors (empty_scope l.label) (map tree.array l.arrays);
    }
