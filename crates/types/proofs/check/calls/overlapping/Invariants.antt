use Rattle.std.proofs.Common.{◌≡◌, ◌<◌, All, length, map}
use Rattle.sections.specs.Tree.{origins_of}
use Rattle.types.specs.CallErrors as errors
use Rattle.types.specs.Resolving.{passed_by}
use Rattle.types.proofs.check.calls.overlapping.Given as goal

-- the arguments so far overlap no later one
abbrev pub invariant-loop-one : goal.invariant-loop-one
invariant-loop-one l =
    let sections = origins_of l.fn.sections in
    record {
      known : All (λ p. p.0 < length sections) (map passed_by l.rest);
      same : errors.overlapping sections (map passed_by l.fn.passed) ≡ errors.overlapping sections (map passed_by l.rest);
    }

abbrev pub decreases-loop-one : goal.decreases-loop-one
decreases-loop-one l = length l.rest
