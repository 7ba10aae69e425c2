use Rattle.std.proofs.Common.{◌<◌, length, map, sym, ap, ◌∙◌, subst, All}
use Rattle.sections.specs.Tree.{origins_of}
use Rattle.syntax_tree.specs.Tree.{expr, parameter}
use Rattle.types.specs.Resolving.{names_of, passed_by}
use Rattle.types.proofs.Calls.{passed_are_there}
use Rattle.types.proofs.check.calls.call.Goals as goal

pub overlapping-requires : goal.overlapping-requires
overlapping-requires c =
    let here = c.args.scope.now in
    let n = length (origins_of here.sections) in
    subst (All (λ p. p.0 < n)) (c.in_ok-given.ensures.passed ∙ ap (map passed_by) (sym c.as_slice.ensures.value))
    (passed_are_there n (names_of here.names) c.requires.known (map parameter c.in-Some.parameters.now) (map expr c.args.arguments.now))
