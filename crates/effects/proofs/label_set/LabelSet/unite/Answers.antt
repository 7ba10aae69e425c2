use Rattle.std.proofs.Common.{◌≡◌, ◌⊎◌, inr, ℕ, ◌≤◌, List, ap, ◌∙◌, subst, arith, length, bit_or, ◌%◌, ◌/◌}
use Rattle.std.specs.Int.{bit_at}
use Rattle.std.specs.Prelude.{◌↔◌}
use Rattle.types.specs.Run.{by_number, bind}
use Rattle.effects.specs.LabelSets.{HasBit, HasLabel, HasNew, HasNewBit, words_of}
use Rattle.effects.proofs.LabelSetLemmas.{united_more, united_labels, still_unchanged, zeros_behind}
use Rattle.effects.proofs.NewLabels.{new_so_far}
use Rattle.effects.proofs.label_set.LabelSet.unite.Goals as goal

pub loop-k-preserved : goal.loop-k-preserved
loop-k-preserved c =
    let k = c.loop-k.k in
    let now = words_of c.loop-k.self in
    let word : words_of c.unite_word-grown.new.self ≡ bind k (bit_or (now k) (words_of c.args.other.now k)) now =
    c.unite_word-grown.ensures.word
    ∙ ap (λ (xs : List ℕ). bind k (bit_or (now k) (by_number 0 xs k)) now) c.deref-word-items.ensures.value in
    let inv = c.loop-k.invariant in
    record {
      united = united_more (words_of c.reserve.new.self) (words_of c.args.other.now) now _ k inv.united word;
      room = omega (arith, inv.room, c.unite_word-grown.ensures.length);
      grown = still_unchanged (words_of c.reserve.new.self) now _ k _ c.loop-k.grown c.unite_word-grown.result
          c.unite_word-grown.ensures.word c.unite_word-grown.ensures.grown inv.grown;
      new = new_so_far (words_of c.reserve.new.self) (words_of c.args.other.now) now k c.loop-k.grown c.unite_word-grown.result inv.united
          (λ h. subst (λ (xs : List ℕ). HasNewBit (now k) (by_number 0 xs k)) c.deref-word-items.ensures.value
          (c.unite_word-grown.ensures.new h))
          inv.new;
    }

pub returns-clause-both : goal.returns-clause-both
unfolding HasLabel
returns-clause-both c = λ l.
    let k = c.loop-k.k in
    let end : length c.args.other.now.words.items ≤ k = omega (arith, c.loop-k-test.false, ap length c.deref-word-items.ensures.value) in
    subst (λ (f : ℕ → ℕ). HasBit (words_of c.loop-k.self) l ↔ (HasBit f l ⊎ HasLabel c.args.other.now l)) c.in_ok-reserve.ensures.same
    (united_labels (words_of c.reserve.new.self) (words_of c.args.other.now) (words_of c.loop-k.self) k c.loop-k.invariant.united
    (λ i (h : k ≤ i). zeros_behind c.args.other.now.words.items i (omega arith)) l)

pub returns-clause-grown : goal.returns-clause-grown
unfolding HasLabel
returns-clause-grown c = λ none l h.
    let now = (returns-clause-both c l).1 (inr h) in
    subst (λ n. bit_at n (l % 64) ≡ 1) (c.loop-k.invariant.grown none (l / 64) ∙ ap (λ (f : ℕ → ℕ). f (l / 64)) c.in_ok-reserve.ensures.same) now

pub returns-clause-new : goal.returns-clause-new
unfolding HasLabel
returns-clause-new c = λ new.
    subst (λ (f : ℕ → ℕ). HasNew (HasBit f) (HasLabel c.args.other.now)) c.in_ok-reserve.ensures.same (c.loop-k.invariant.new new)
