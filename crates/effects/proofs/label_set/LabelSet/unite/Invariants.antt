use Rattle.std.proofs.Common.{◌≡◌, ℕ, ◌≤◌, false, true, length, vec_len}
use Rattle.effects.specs.LabelSets.{HasBit, HasNew, words_of}
use Rattle.effects.proofs.LabelSetLemmas.{United}
use Rattle.effects.proofs.label_set.LabelSet.unite.Given as goal

-- the words so far are united
abbrev pub invariant-loop-k : goal.invariant-loop-k
invariant-loop-k l = record {
  united : United (words_of l.initial.self) (words_of l.other) (words_of l.self) l.k;
  room : length l.other.words.items ≤ vec_len l.self.words;
  grown : l.grown ≡ false → (i : ℕ) → words_of l.self i ≡ words_of l.initial.self i;
  new : l.grown ≡ true → HasNew (HasBit (words_of l.initial.self)) (HasBit (words_of l.other));
}
