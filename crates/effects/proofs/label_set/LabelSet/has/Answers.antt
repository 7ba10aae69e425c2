use Rattle.std.proofs.Common.{◌≡◌, ℕ, List, ◌/◌, ◌%◌, get_or, sym, ◌∙◌, ap, subst, arith}
use Rattle.std.specs.Int.{bit_at}
use Rattle.shared_lemmas.proofs.Truths.{false_true}
use Rattle.effects.specs.LabelSets.{HasLabel}
use Rattle.effects.proofs.LabelSetLemmas.{bit_test, no_bit}
use Rattle.effects.proofs.label_set.LabelSet.has.Goals as goal

pub returns-in-Some : goal.returns-in-Some
unfolding HasLabel
returns-in-Some c =
    let l = c.args.label in
    let word : c.in-Some.word.now ≡ get_or c.args.self.now.words.items (l / 64) 0 =
    c.in-Some.ensures.lookup.3.1 0 ∙ ap (λ (xs : List ℕ). get_or xs (l / 64) 0) c.deref.ensures.value in
    let t = bit_test c.in-Some.word.now (l % 64) in
    (λ h. subst (λ n. bit_at n (l % 64) ≡ 1) word (t.0 h), λ h. t.1 (subst (λ n. bit_at n (l % 64) ≡ 1) (sym word) h))

pub returns-in-None : goal.returns-in-None
unfolding HasLabel
returns-in-None c =
    let l = c.args.label in
    let zero : 0 ≡ get_or c.args.self.now.words.items (l / 64) 0 =
    c.in-None.ensures.lookup.4 (omega arith) 0 ∙ ap (λ (xs : List ℕ). get_or xs (l / 64) 0) c.deref.ensures.value in
    (λ h. false_true h, λ h. absurd (no_bit (l % 64) (subst (λ n. bit_at n (l % 64) ≡ 1) (sym zero) h)))
