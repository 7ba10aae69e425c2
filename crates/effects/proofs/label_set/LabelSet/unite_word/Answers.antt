use Rattle.std.proofs.Common.{◌≡◌, ◌<◌, ◌^◌, ◌∙◌, get_or, length, sym, subst, arith, rules, bit_or}
use Rattle.std.proofs.lemmas.Bool.{eqb-false, not-true}
use Rattle.std.proofs.lemmas.Grind.{get_or_default_zero}
use Rattle.std.proofs.lemmas.Nat.{or_lt}
use Rattle.std.specs.Prelude.{nat_eq}
use Rattle.effects.specs.LabelSets.{HasNewBit, words_of}
use Rattle.effects.proofs.NewLabels.{new_bit}
use Rattle.effects.proofs.label_set.LabelSet.unite_word.Goals as goal

pub returns-clause-new : goal.returns-clause-new
returns-clause-new c = λ changed.
    let mine = c.index-mine.result.now in
    let word = c.args.word in
    let items = c.args.self.now.words.items in
    let read : mine ≡ get_or items c.args.k mine = search rules in
    let within : c.args.k < length items = search rules in
    let same : words_of c.args.self.now c.args.k ≡ mine = sym (read ∙ get_or_default_zero items c.args.k mine within) in
    let mine_fits : mine < 2 ^ 64 = first_of (search rules, grind arith) in
    let word_fits : word < 2 ^ 64 = first_of (search rules, grind arith) in
    let both_fit : bit_or mine word < 2 ^ 64 = or_lt 64 mine word mine_fits word_fits in
    subst (λ w. HasNewBit w word) (sym same)
    (new_bit mine word mine_fits both_fit (eqb-false (bit_or mine word) mine (not-true (nat_eq (bit_or mine word) mine) changed)))
