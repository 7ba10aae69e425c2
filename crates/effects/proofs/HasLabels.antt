-- The test of a set's labels.
use Rattle.std.proofs.Common.{◌≡◌, ◌/◌, ◌%◌, ◌^◌, ◌<◌, ℕ, true, arith}
use Rattle.std.proofs.lemmas.Bool.{eq-eqb, eqb-true}
use Rattle.std.specs.Int.{bit_at}
use Rattle.effects.specs.LabelSets.{HasLabel, has_label, words_of}
use Rattle.effects.proofs.LabelSetLemmas.{bits_end}
use Rattle.effects.specs.declared.label_set.LabelSet.{LabelSet}

pub has_label-true : (s : LabelSet) (l : ℕ) → HasLabel s l → has_label s l ≡ true
unfolding HasLabel has_label
has_label-true s l h = eq-eqb (bit_at (words_of s (l / 64)) (l % 64)) 1 h

pub from_has_label : (s : LabelSet) (l : ℕ) → has_label s l ≡ true → HasLabel s l
unfolding HasLabel has_label
from_has_label s l h = eqb-true (bit_at (words_of s (l / 64)) (l % 64)) 1 h

pub label_within : (s : LabelSet) (l : ℕ) → HasLabel s l → l < 2 ^ 32
unfolding HasLabel
label_within s l h = let k = bits_end s.words.items l h in omega (arith, k, s.within)
