use Rattle.std.proofs.Common.{◌≡◌, ◌≤◌, ◌+◌, ◌++◌, drop, map, sum_by}
use Rattle.syntax_tree.specs.Tree as tree
use Rattle.types.specs.Resolution as resolution
use Rattle.types.specs.Translation as plain
use Rattle.types.proofs.check.program.resolve_arrays.Given as goal

-- the number of elements that a program may still have; the arrays so far, and the others
abbrev pub invariant-loop-array : goal.invariant-loop-array
invariant-loop-array l = record {
  within : l.left ≤ 4194304;
  counted : l.left + sum_by (λ a. a.length) (map tree.array l.arrays)
      ≡ 4194304 + sum_by (λ a. a.length) (map tree.array (drop l.array-index l.arrays));
  resolved : map plain.array l.resolved.items ++ map resolution.array (map tree.array (drop l.array-index l.arrays))
      ≡ map resolution.array (map tree.array l.arrays);
}
