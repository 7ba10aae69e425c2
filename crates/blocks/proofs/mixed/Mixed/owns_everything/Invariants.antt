use Rattle.std.proofs.Common.{◌≡◌, ℕ, ◌<◌, get_or}
use Rattle.blocks.specs.declared.kind.HeldAs.TheVariants.{Absent, Own}
use Rattle.blocks.proofs.mixed.Mixed.owns_everything.Given as goal

-- the numbers so far are owned
abbrev pub invariant-loop-kind : goal.invariant-loop-kind
invariant-loop-kind l = (i : ℕ) → i < l.kind-index → get_or l.self.kinds.items i Absent ≡ Own
