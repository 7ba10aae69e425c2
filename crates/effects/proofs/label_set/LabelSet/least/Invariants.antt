use Rattle.std.proofs.Common.{◌≡◌, ℕ, ◌<◌}
use Rattle.effects.specs.LabelSets.{words_of}
use Rattle.effects.proofs.label_set.LabelSet.least.Given as goal

-- the words so far are zeros
abbrev pub invariant-loop-k : goal.invariant-loop-k
invariant-loop-k l = (i : ℕ) → i < l.k → words_of l.self i ≡ 0
