use Rattle.std.proofs.Common.{◌<◌, ◌+◌, ◌++◌, length, map, drop, arith, ap, sym, ◌∙◌, rules}
use Rattle.syntax_tree.specs.Tree as tree
use Rattle.types.specs.Resolving.{scope_of}
use Rattle.types.specs.Rules.{parameter_errors}
use Rattle.types.specs.Scope.{with_parameter, with_parameters}
use Rattle.types.proofs.Telling.{at_front, exit_left}
use Rattle.types.proofs.check.program.at_procedure.Goals as goal

pub loop-parameter-preserved : goal.loop-parameter-preserved
loop-parameter-preserved c =
    let i = c.loop-parameter.parameter-index in
    let rest = map tree.parameter (drop (i + 1) c.args.parameters.now) in
    let now = scope_of c.loop-parameter.scope in
    let inside : i < length c.args.parameters.now = search rules in
    let front = at_front (map tree.parameter) _ i _ inside c.parameter-item.is in
    let place = c.in_ok-declare.ensures.place in
    record {
      place = ap (with_parameters rest) place ∙ ap (λ l. with_parameters l now) (sym front) ∙ c.loop-parameter.invariant.place;
      right = ap (λ p. parameter_errors p rest) place
          ∙ ap (λ l. l ++ parameter_errors (with_parameter (tree.parameter c.parameter-item.result) now) rest)
          (sym c.in_ok-declare.ensures.right)
          ∙ ap (parameter_errors now) (sym front) ∙ c.loop-parameter.invariant.right;
      slots = omega (arith, c.in_ok-declare.ensures.slots, c.loop-parameter.invariant.slots);
    }

pub returns-in_err-declare-clause-error : goal.returns-in_err-declare-clause-error
returns-in_err-declare-clause-error c =
    let inside : c.loop-parameter.parameter-index < length c.args.parameters.now = search rules in
    let front = at_front (map tree.parameter) _ c.loop-parameter.parameter-index _ inside c.parameter-item.is in
    exit_left c.from_residual.result c.in_err-declare.field-0.0 c.from_residual.ensures.1 _ _
    (sym c.loop-parameter.invariant.right ∙ ap (parameter_errors (scope_of c.loop-parameter.scope)) front)
    c.in_err-declare.ensures.error

pub declare-requires : goal.declare-requires
declare-requires c =
    let within : c.loop-parameter.parameter-index < length c.args.parameters.now = search rules in
    omega (arith, within, c.requires, c.loop-parameter.invariant.slots)
