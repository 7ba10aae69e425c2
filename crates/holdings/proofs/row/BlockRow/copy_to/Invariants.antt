use Rattle.std.proofs.Common.{◌≡◌, length}
use Rattle.holdings.proofs.CopyingLemmas.{IsCopied}
use Rattle.holdings.proofs.row.BlockRow.copy_to.Given as goal

-- the numbers of the blocks so far are at their places
abbrev pub invariant-loop-at : goal.invariant-loop-at
invariant-loop-at l =
    (length l.row ≡ length l.initial.row) × IsCopied l.self l.at l.initial.row l.row
