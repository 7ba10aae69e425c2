use Rattle.std.proofs.Common.{◌≡◌, ◌++◌, drop, map}
use Rattle.types.specs.Translation.{array}
use Rattle.files.specs.Held.{with_bytes}
use Rattle.files.proofs.bytes_input.lists_with.Given as goal

-- a list for each array so far, and those of the others
abbrev pub invariant-loop-array : goal.invariant-loop-array
invariant-loop-array l =
    map (λ v. v.items) l.lists.items ++ with_bytes l.fn.name l.fn.bytes (map array (drop l.array-index l.arrays))
    ≡ with_bytes l.fn.name l.fn.bytes (map array l.arrays)
