use Rattle.std.proofs.Common.{◌≡◌, ◌≤◌, drop, map}
use Rattle.syntax_tree.specs.Tree as tree
use Rattle.types.specs.Resolving.{scope_of}
use Rattle.types.specs.Rules.{parameter_errors}
use Rattle.types.specs.Scope.{with_parameters, empty_scope, in_procedure}
use Rattle.types.proofs.check.program.at_procedure.Given as goal

-- the parameters so far are declared, and the others lead to the same scope
abbrev pub invariant-loop-parameter : goal.invariant-loop-parameter
invariant-loop-parameter l =
    let left = map tree.parameter (drop l.parameter-index l.parameters) in
    record {
      place : with_parameters left (scope_of l.scope) ≡ in_procedure l.label (map tree.parameter l.parameters);
      right : parameter_errors (scope_of l.scope) left ≡ parameter_errors (empty_scope l.label) (map tree.parameter l.parameters);
      slots : l.scope.slots ≤ l.parameter-index;
    }
