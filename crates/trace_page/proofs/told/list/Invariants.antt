use Rattle.trace_page.proofs.Seen.{SeenFirst}
use Rattle.trace_page.proofs.told.list.Given as goal

-- the values so far represent the first items
abbrev pub invariant-loop-item : goal.invariant-loop-item
invariant-loop-item g l = SeenFirst g.T.Told.json l.items l.item-index l.list.items
