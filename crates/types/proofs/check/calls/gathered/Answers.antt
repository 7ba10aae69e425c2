use Rattle.std.proofs.Common.{◌≡◌, ◌<◌, ◌+◌, [], ◌∷◌, ◌++◌, drop, length, map, ap, ◌∙◌, rules}
use Rattle.sections.specs.Translation.{section}
use Rattle.syntax_tree.specs.Tree.{expr, parameter}
use Rattle.types.specs.CallErrors as errors
use Rattle.types.specs.Resolution as resolution
use Rattle.types.specs.Resolving.{names_of, scope_of, passed_by}
use Rattle.types.specs.Translation.{number}
use Rattle.types.proofs.Calls.{one_taken, values_more, sections_more, passed_more}
use Rattle.types.proofs.Telling.{at_front, exit_left}
use Rattle.types.proofs.check.calls.gathered.Goals as goal

pub returns-in_err-take-in-Some-clause-error : goal.returns-in_err-take-in-Some-clause-error
returns-in_err-take-in-Some-clause-error c =
    let label = c.args.scope.now.label in
    let here = scope_of c.args.scope.now in
    let xs = c.args.parameters.now in
    let i = c.loop-parameter.parameter-index in
    let x = c.parameter-item.result in
    let left = map parameter (drop (i + 1) xs) in
    let inside : i < length xs = search rules in
    exit_left c.from_residual.result c.in_err-take-in-Some.field-0.0 c.from_residual.ensures.1 _
    (errors.arguments label here left (map expr c.in-Some.others.now))
    (c.loop-parameter.invariant.right
    ∙ ap (λ l. errors.arguments label here l (map expr c.loop-parameter.rest.now))
    (at_front (map parameter) xs i x inside c.parameter-item.is)
    ∙ ap (λ l. errors.arguments label here (parameter x ∷ left) (map expr l)) c.in-Some.ensures.cases.0)
    c.in_err-take-in-Some.ensures.error

pub loop-parameter-preserved : goal.loop-parameter-preserved
loop-parameter-preserved c =
    let label = c.args.scope.now.label in
    let here = scope_of c.args.scope.now in
    let names = names_of c.args.scope.now.names in
    let xs = c.args.parameters.now in
    let i = c.loop-parameter.parameter-index in
    let x = c.parameter-item.result in
    let p = parameter x in
    let left = map parameter (drop (i + 1) xs) in
    let rest = map expr c.loop-parameter.rest.now in
    let a = expr c.in-Some.argument.now in
    let others = map expr c.in-Some.others.now in
    let inside : i < length xs = search rules in
    let front : map parameter (drop i xs) ≡ p ∷ left =
    at_front (map parameter) xs i x inside c.parameter-item.is in
    let given : rest ≡ a ∷ others = ap (map expr) c.in-Some.ensures.cases.0 in
    let so_far = c.loop-parameter.invariant in
    let taken = c.in_ok-take-in-Some.ensures in
    record {
      right = so_far.right ∙ ap (λ l. errors.arguments label here l rest) front
          ∙ ap (errors.arguments label here (p ∷ left)) given ∙ ap (λ l. l ++ errors.arguments label here left others) taken.right;
      values = one_taken (map number c.loop-parameter.given.values.items) (resolution.values_for names (p ∷ []) (a ∷ []))
          (resolution.values_for names left others)
          so_far.values
          (ap (λ l. resolution.values_for names l rest) front ∙ ap (resolution.values_for names (p ∷ left)) given
          ∙ values_more names a others p left) taken.values;
      sections = one_taken (map section c.loop-parameter.given.sections.items) (resolution.sections_for names (p ∷ []) (a ∷ []))
          (resolution.sections_for names left others)
          so_far.sections
          (ap (λ l. resolution.sections_for names l rest) front ∙ ap (resolution.sections_for names (p ∷ left)) given
          ∙ sections_more names a others p left) taken.sections;
      passed = one_taken (map passed_by c.loop-parameter.given.passed.items) (errors.passed names (p ∷ []) (a ∷ []))
          (errors.passed names left others)
          so_far.passed
          (ap (λ l. errors.passed names l rest) front ∙ ap (errors.passed names (p ∷ left)) given
          ∙ passed_more names a others p left) taken.passed;
    }
