use Rattle.std.proofs.Common.{◌≡◌, ℕ, List, ◌++◌, length}
use Rattle.std.specs.Io.KnownBytes.{Appends}
use Rattle.printing.proofs.emit.append.Given as goal

-- what is no longer in the rest was appended
abbrev pub invariant-writes : goal.invariant-writes
invariant-writes g l =
    (done : List ℕ) × (l.bytes ≡ done ++ l.rest) × Appends (g.W.Write.contents l.fn.out) (g.W.Write.contents l.out) done

-- the bytes that are left
abbrev pub decreases-writes : goal.decreases-writes
decreases-writes g l = length l.rest
