-- The labels of a set: label 64 k + i is bit i of word k.
use Rattle.std.specs.Prelude.{ℕ, ◌≡◌, ◌<◌, ◌/◌, ◌%◌, Bool, nat_eq}
use Rattle.std.specs.Int.{bit_at}
use Rattle.types.specs.Run.{by_number}
use Rattle.effects.specs.declared.label_set.LabelSet.{LabelSet}

-- these words, with zeros after them, have the bit of a label
abbrev pub HasBit : (words : ℕ → ℕ) → (label : ℕ) → Type 0
HasBit words l = bit_at (words (l / 64)) (l % 64) ≡ 1

-- the words of a set by number
abbrev pub words_of : LabelSet → ℕ → ℕ
words_of s = by_number 0 s.words.items

-- the set has a label
unfoldable pub HasLabel : LabelSet → ℕ → Type 0
HasLabel s l = HasBit (words_of s) l

-- one of these labels is not among those
pub record HasNew (those these : ℕ → Type 0) : Type 0 where
  pub label : ℕ
  pub among : these label
  pub missing : those label → ⊥

-- the word has a bit that the old word doesn't have
pub record HasNewBit (old word : ℕ) : Type 0 where
  pub bit : ℕ
  pub below : bit < 64
  pub has : bit_at word bit ≡ 1
  pub missing : bit_at old bit ≡ 0

-- whether the set has a label
unfoldable pub has_label : LabelSet → ℕ → Bool
has_label s l = nat_eq (bit_at (words_of s (l / 64)) (l % 64)) 1
