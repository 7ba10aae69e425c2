use Rattle.std.proofs.Common.{map, take}
use Rattle.holdings.proofs.MakingLemmas.{AreListed}
use Rattle.holdings.proofs.rows.BlockRows.of_lists.Given as goal

-- the rows so far have the numbers of their lists
abbrev pub invariant-loop-numbers : goal.invariant-loop-numbers
invariant-loop-numbers l = AreListed l.list.items (map (λ v. v.items) (take l.numbers-index l.lists))
