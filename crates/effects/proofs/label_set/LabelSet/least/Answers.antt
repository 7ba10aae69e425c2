use Rattle.std.proofs.Common.{ℕ, ◌≤◌, List, ap, sym, arith, length}
use Rattle.types.specs.Run.{by_number}
use Rattle.effects.specs.LabelSets.{HasLabel, words_of}
use Rattle.effects.proofs.LabelSetLemmas.{least_bit, no_label, zeros_behind}
use Rattle.effects.proofs.label_set.LabelSet.least.Goals as goal

pub returns-then-word-ne0 : goal.returns-then-word-ne0
unfolding HasLabel
returns-then-word-ne0 c =
    let words = c.deref-word-items.ensures.value in
    least_bit (words_of c.args.self.now) c.loop-k.k (by_number 0 c.deref-word-items.result.now c.loop-k.k)
    (ap (λ (xs : List ℕ). by_number 0 xs c.loop-k.k) (sym words)) c.if-word-ne0.true
    (omega arith) c.loop-k.invariant

pub returns : goal.returns
unfolding HasLabel
returns c =
    let end : length c.args.self.now.words.items ≤ c.loop-k.k =
    omega (arith, c.loop-k-test.false, ap length c.deref-word-items.ensures.value) in
    no_label (words_of c.args.self.now) c.loop-k.k c.loop-k.invariant
    (λ i (h : c.loop-k.k ≤ i). zeros_behind c.args.self.now.words.items i (omega arith))
