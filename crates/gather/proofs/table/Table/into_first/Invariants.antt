use Rattle.std.proofs.Common.{◌≡◌, reverse, vec_len}
use Rattle.gather.specs.Left.{left_of}
use Rattle.gather.specs.Unused.{left_in}
use Rattle.gather.proofs.table.Table.into_first.Given as goal

abbrev pub invariant-loop-place : goal.invariant-loop-place
invariant-loop-place l = left_in (reverse l.places.items) ≡ left_of l.fn.self

abbrev pub decreases-loop-place : goal.decreases-loop-place
decreases-loop-place l = vec_len l.places
