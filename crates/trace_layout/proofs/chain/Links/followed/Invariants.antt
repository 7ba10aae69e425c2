use Rattle.std.proofs.Common.{◌≡◌, length}
use Rattle.trace_layout.proofs.chain.Links.followed.Given as goal

abbrev pub invariant-loop-number : goal.invariant-loop-number
invariant-loop-number l = length l.marks.items ≡ length l.self.before.items
