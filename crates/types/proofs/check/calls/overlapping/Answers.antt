use Rattle.std.proofs.Common.{◌||◌, length, map, sym, ap, ◌∙◌}
use Rattle.sections.specs.Tree.{origins_of}
use Rattle.types.specs.CallErrors as errors
use Rattle.types.specs.Resolving.{passed_by}
use Rattle.types.proofs.Calls.{front_passed}
use Rattle.types.proofs.check.calls.overlapping.Goals as goal

pub clashes-requires-clause-one : goal.clashes-requires-clause-one
clashes-requires-clause-one c =
    (front_passed (length (origins_of c.args.sections.now)) c.in-Some.ensures.cases.0
    c.loop-one.invariant.known).0

pub clashes-requires-clause-later : goal.clashes-requires-clause-later
clashes-requires-clause-later c =
    (front_passed (length (origins_of c.args.sections.now)) c.in-Some.ensures.cases.0
    c.loop-one.invariant.known).1

pub loop-one-preserved : goal.loop-one-preserved
loop-one-preserved c =
    let sections = origins_of c.args.sections.now in
    let later = map passed_by c.in-Some.later.now in
    record {
      known = (front_passed (length sections) c.in-Some.ensures.cases.0 c.loop-one.invariant.known).1;
      same =
          c.loop-one.invariant.same ∙ ap (λ ps. errors.overlapping sections (map passed_by ps))
          c.in-Some.ensures.cases.0
          ∙ ap (λ b. b || errors.overlapping sections later) (sym c.clashes.ensures ∙ c.if-clashes.false);
    }
