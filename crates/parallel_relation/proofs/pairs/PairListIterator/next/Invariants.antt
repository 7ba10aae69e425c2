use Rattle.std.proofs.Common.{◌≡◌, ◌-◌, length}
use Rattle.parallel_relation.specs.Pairs.{pairs_left}
use Rattle.parallel_relation.specs.Rows.{rows_of}
use Rattle.parallel_relation.proofs.pairs.PairListIterator.next.Given as goal

-- the same pairs are left
abbrev pub invariant-loop-row : goal.invariant-loop-row
invariant-loop-row l = pairs_left l.self ≡ pairs_left l.initial.self

abbrev pub decreases-loop-row : goal.decreases-loop-row
decreases-loop-row l = length (rows_of l.self.pairs.now.rows) - l.self.first
