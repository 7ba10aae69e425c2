-- How a tree is dropped.
use Rattle.std.proofs.Common.{ℕ, suc, ◌+◌, Option, Some, None}
use Rattle.std.specs.Prelude.{Box}
use Rattle.std.specs.Global.{Global}
use Rattle.step_trees.specs.declared.tree.Tree.{Tree}
use Rattle.step_trees.specs.declared.tree.Tree.TheVariants.{Single, AndThen', Beside'}

-- two iterations for a pair that isn't the last on the right
abbrev pub turns : Tree → ℕ
turns (Single k) = 1
turns (AndThen' p t w n) = suc (turns t)
turns (Beside' p t q u n d s) = suc (suc (turns t + turns u))

-- and one iteration for a pair that is the last on the right
abbrev pub turns_last : Tree → ℕ
turns_last (Single k) = 1
turns_last (AndThen' p t w n) = suc (turns_last t)
turns_last (Beside' p t q u n d s) = suc (turns t + turns_last u)

-- the iterations for a tree and for the other remaining part
abbrev pub turns_both : Tree → Option (Box Tree Global) → ℕ
turns_both t None = turns_last t
turns_both t (Some b) = turns t + turns_last b.value
