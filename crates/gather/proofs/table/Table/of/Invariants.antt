use Rattle.std.proofs.Common.{◌≡◌, ◌++◌, reverse, vec_len}
use Rattle.gather.specs.Unused.{AreChained, FindsFirsts, left_in}
use Rattle.gather.proofs.table.Table.of.Given as goal

abbrev pub invariant-loop-task : goal.invariant-loop-task
invariant-loop-task l = record {
  left : l.results.items ++ left_in (reverse l.places.items) ≡ l.fn.results.items;
  chained : AreChained (reverse l.places.items);
  finds : FindsFirsts l.first (reverse l.places.items);
}

abbrev pub decreases-loop-task : goal.decreases-loop-task
decreases-loop-task l = vec_len l.results
