use Rattle.std.proofs.Common.{◌≡◌, ◌++◌, drop, map}
use Rattle.sections.specs.Translation.{section}
use Rattle.syntax_tree.specs.Tree.{expr, parameter}
use Rattle.types.specs.CallErrors as errors
use Rattle.types.specs.Resolution as resolution
use Rattle.types.specs.Resolving.{names_of, scope_of, passed_by}
use Rattle.types.specs.Translation.{number}
use Rattle.types.proofs.check.calls.gathered.Given as goal

-- the arguments so far are taken, and have no errors
abbrev pub invariant-loop-parameter : goal.invariant-loop-parameter
invariant-loop-parameter l =
    let names = names_of l.fn.scope.names in
    let ps = map parameter l.fn.parameters in
    let es = map expr l.fn.arguments in
    let left = map parameter (drop l.parameter-index l.parameters) in
    let rest = map expr l.rest in
    record {
      right : errors.arguments l.fn.scope.label (scope_of l.fn.scope) ps es
          ≡ errors.arguments l.fn.scope.label (scope_of l.fn.scope) left rest;
      values : resolution.values_for names ps es ≡ map number l.given.values.items ++ resolution.values_for names left rest;
      sections : resolution.sections_for names ps es ≡ map section l.given.sections.items ++ resolution.sections_for names left rest;
      passed : errors.passed names ps es ≡ map passed_by l.given.passed.items ++ errors.passed names left rest;
    }
