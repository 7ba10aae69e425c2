use Rattle.std.proofs.Common.{◌≡◌, ◌++◌, drop, map, replicate, pos}
use Rattle.types.specs.Translation.{array}
use Rattle.types.proofs.input.Input.zeros.Given as goal

-- a list for each array so far, and those of the others
abbrev pub invariant-loop-array : goal.invariant-loop-array
invariant-loop-array l =
    map (λ v. v.items) l.arrays.items ++ map (λ a. replicate a.length (pos 0)) (map array (drop l.array-index l.array-items))
    ≡ map (λ a. replicate a.length (pos 0)) (map array l.array-items)
