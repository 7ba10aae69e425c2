use Rattle.holdings.proofs.MakingLemmas.{IsCutFrom}
use Rattle.holdings.proofs.row.BlockRow.of_numbers.Given as goal

-- the blocks so far have their numbers
abbrev pub invariant-loop-at : goal.invariant-loop-at
invariant-loop-at l = IsCutFrom l.numbers l.blocks.items l.at
