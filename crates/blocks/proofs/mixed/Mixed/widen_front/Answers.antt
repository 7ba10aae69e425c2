use Rattle.std.proofs.Common.{◌≡◌, ◌≤◌, ◌+◌, ◌-◌, ◌++◌, ℕ, length, replicate, ap, ◌∙◌, arith, rules}
use Rattle.std.proofs.lemmas.List.{length-append}
use Rattle.blocks.specs.declared.kind.HeldAs.TheVariants.{Absent}
use Rattle.blocks.specs.declared.mixed.Mixed.{Mixed}
use Rattle.blocks.proofs.BlockLemmas.{row_from-wider}
use Rattle.blocks.proofs.KindLemmas.{held_row, held_row-front}
use Rattle.blocks.proofs.mixed.Mixed.widen_front.Goals as goal

pub returns-in-Ok-clause-same : goal.returns-in-Ok-clause-same
returns-in-Ok-clause-same c = λ k.
    let m = c.args.self.now in
    let from = c.args.from in
    let count : ℕ = m.numbers.first - from in
    let zeros = c.in_ok-list.list.items in
    let xs = m.numbers.list.items in
    let absent : c.in_ok-kinds.kinds.items ≡ replicate count Absent = search rules in
    let kinds : c.extend_from_slice.new.self.items ≡ replicate count Absent ++ m.kinds.items =
    c.in_ok-extend_from_slice.ensures.items ∙ ap (λ ks. ks ++ c.deref.result.now) absent
    ∙ ap (λ ks. replicate count Absent ++ ks) c.deref.ensures.value in
    let list : c.append.new.self.items ≡ zeros ++ xs =
    c.in-Ok.ensures.items ∙ ap (λ (x : Mixed). zeros ++ x.numbers.list.items) c.replace-old.ensures.value in
    let long : length zeros ≡ count = search rules in
    let at : from + count ≡ m.numbers.first = omega (arith, c.requires) in
    ap (λ ys. held_row from c.extend_from_slice.new.self.items ys k) list
    ∙ ap (λ ks. held_row from ks (zeros ++ xs) k) kinds
    ∙ held_row-front from count zeros m.kinds.items xs long m.paired k
    ∙ ap (λ f. held_row f m.kinds.items xs k) at

pub returns-in-Ok-clause-keeps : goal.returns-in-Ok-clause-keeps
returns-in-Ok-clause-keeps c =
    let m = c.args.self.now in
    let from = c.args.from in
    let count : ℕ = m.numbers.first - from in
    let zeros = c.in_ok-list.list.items in
    let xs = m.numbers.list.items in
    let list : c.append.new.self.items ≡ zeros ++ xs =
    c.in-Ok.ensures.items ∙ ap (λ (x : Mixed). zeros ++ x.numbers.list.items) c.replace-old.ensures.value in
    let long : length zeros ≡ count = search rules in
    let whole : length c.append.new.self.items ≡ count + length xs =
    ap length list ∙ length-append zeros xs ∙ ap (λ n. n + length xs) long in
    let low : from ≤ m.numbers.first = omega (arith, c.requires) in
    let high : m.numbers.first + length xs ≤ from + length c.append.new.self.items = omega (arith, whole, low) in
    row_from-wider m.numbers.first xs from c.append.new.self.items low high
