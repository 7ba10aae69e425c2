use Rattle.std.proofs.Common.{◌≡◌, drop, map}
use Rattle.std.specs.List.{list_any}
use Rattle.sections.specs.Tree.{origins_of}
use Rattle.types.specs.CallErrors as errors
use Rattle.types.specs.Resolving.{passed_by}
use Rattle.types.proofs.check.calls.clashes.Given as goal

-- the arguments so far don't clash
abbrev pub invariant-loop-other : goal.invariant-loop-other
invariant-loop-other l =
    let clash = errors.clash (origins_of l.fn.sections) (passed_by l.fn.one) in
    list_any clash (map passed_by l.fn.later) ≡ list_any clash (map passed_by (drop l.other-index l.later))
