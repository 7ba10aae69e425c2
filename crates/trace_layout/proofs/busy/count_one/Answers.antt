use Rattle.std.proofs.Common.{◌≡◌, ℕ, ◌+◌, ◌<◌, ◌≤◌, Bool, true, false, ap, ◌∙◌, arith, refl, get_or}
use Rattle.std.specs.Prelude.{◌&&◌, if◌then◌else◌, max, nat_le, nat_lt}
use Rattle.std.proofs.lemmas.Bool.{leb-false, leb-true, ltb-false, ltb-true}
use Rattle.trace_layout.proofs.busy.count_one.Goals as goal

-- at the end the tests agree
same_tests : (p q r : Bool) (first last number end n : ℕ) → nat_le first n ≡ p → nat_lt n number ≡ q → nat_le n last ≡ r
    → end ≤ number → number ≤ max first end → (n ≤ last → n < end) → (n < end → n ≤ last) → (p && q) ≡ (p && r)
same_tests false q r first last number end n e f g past within before behind = refl
same_tests true true true first last number end n e f g past within before behind = refl
same_tests true false false first last number end n e f g past within before behind = refl
same_tests true true false first last number end n e f g past within before behind =
    let a = leb-true first n e in
    let b = ltb-true n number f in
    let c = leb-false n last g in
    absurd (omega arith)
same_tests true false true first last number end n e f g past within before behind =
    let a = leb-true first n e in
    let b = ltb-false n number f in
    let c = leb-true n last g in
    absurd (omega arith)

pub returns : goal.returns
returns c n there =
    let last = c.args.last in
    let end = c.min-number-end.result in
    c.loop-number.invariant.one n (omega arith)
    ∙ ap (λ (b : Bool). get_or c.args.counts.now n 0 + (if b then 1 else 0))
    (same_tests (nat_le c.args.first n) (nat_lt n c.loop-number.number) (nat_le n last) c.args.first last c.loop-number.number end n refl refl refl
    c.loop-number-test.false c.loop-number.invariant.within (λ h. omega arith) (λ h. omega arith))
