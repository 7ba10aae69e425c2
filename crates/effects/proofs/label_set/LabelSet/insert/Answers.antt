use Rattle.std.proofs.Common.{◌⊎◌, ◌≡◌, ℕ, ◌%◌, subst, arith}
use Rattle.std.specs.Prelude.{◌↔◌}
use Rattle.std.proofs.lemmas.Nat.{one_shl}
use Rattle.effects.specs.LabelSets.{HasBit, HasLabel, words_of}
use Rattle.effects.proofs.LabelSetLemmas.{inserted}
use Rattle.effects.proofs.label_set.LabelSet.insert.Goals as goal

pub returns : goal.returns
unfolding HasLabel
returns c = λ l.
    let label = c.args.label in
    subst (λ (f : ℕ → ℕ). HasBit (words_of c.unite_word-new.new.self) l ↔ (HasBit f l ⊎ (l ≡ label))) c.in_ok-reserve.ensures.same
    (inserted (words_of c.reserve.new.self) (words_of c.unite_word-new.new.self) label _ (one_shl (label % 64) 64 (omega arith))
    c.unite_word-new.ensures.word l)
