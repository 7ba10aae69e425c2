use Rattle.std.proofs.Common.{◌≡◌, ◌++◌, drop, map}
use Rattle.types.specs.Contents.{rows}
use Rattle.types.specs.Translation.{array}
use Rattle.task_run.specs.Translation.{contents_of}
use Rattle.gather.proofs.told.shown.Given as goal

-- the lists so far, and those of the arrays that are left
abbrev pub invariant-arrays : goal.invariant-arrays
invariant-arrays l =
    map (λ v. v.items) l.arrays.items ++ rows (contents_of l.holdings) l.number (map array (drop l.number l.declared))
    ≡ rows (contents_of l.holdings) 0 (map array l.declared)
