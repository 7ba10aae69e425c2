-- A store of a constant that doesn't fit always faults.
use Rattle.std.proofs.Common.{◌≡◌, ℕ, zero, suc, Ok, Err, refl, sym, ap, ◌∙◌, true≢false}
use Rattle.std.specs.Prelude.{Bool, true, false, not, ℤ, pos, negsuc, neg_ℤ, int_lt, if◌then◌else◌}
use Rattle.sections.specs.Place.{Place}
use Rattle.syntax_tree.specs.declared.tree.ElementType.{ElementType}
use Rattle.syntax_tree.specs.declared.tree.ElementType.TheVariants.{Byte, Int}
use Rattle.types.specs.declared.fault.FaultKind.TheVariants.{Overflow}
use Rattle.types.specs.Code.{Number, Literal, Scalar, Element, Length, Negative, Chain, Store, Program}
use Rattle.types.specs.Value.{Valued, element_of, fits_64_bits, holds_number, within_64_bits}
use Rattle.types.specs.Run.{Faulted, State, array_of, number_at, primitive, put, window_at, with_value}
use Rattle.types.proofs.Bindings.{element_in}
use Rattle.warnings.specs.Warnings.{cannot_hold}
use Rattle.warnings.proofs.Stopping.{both_first, both_second}

abbrev S : Type 0
S = State (Unit {0})

not_true : (a : Bool) → not a ≡ true → a ≡ false
not_true true unfit = absurd (true≢false (sym unfit))
not_true false unfit = refl

same_value : (v w : ℤ) → (let r : Valued ℤ = Ok v in r) ≡ Ok w → v ≡ w
same_value v w is = cc

-- ---- the value of such a constant doesn't fit

negative : (v w : ℤ) → int_lt (pos 0) v ≡ true → within_64_bits (neg_ℤ v) ≡ Ok w → holds_number Byte w ≡ false
negative (pos zero) w positive is = absurd (true≢false (sym positive))
negative (negsuc n) w positive is = absurd (true≢false (sym positive))
negative (pos (suc n)) w positive is = by (fits_64_bits (negsuc n)) is
  where
    by : (b : Bool) → (if b then Ok (negsuc n) else Err Overflow) ≡ Ok w → holds_number Byte w ≡ false
    by true same = ap (holds_number Byte) (sym (same_value (negsuc n) w same))
    by false same = cc

unfit_value : (t : ElementType) (e : Number) (v : ℤ) (l : ℕ) (st : S) → cannot_hold t e ≡ true → number_at st e ≡ Ok v
    → holds_number t v ≡ false
unfit_value t (Literal n) v l st unfit is =
    ap (holds_number t) (sym (same_value n v is)) ∙ not_true (holds_number t n) unfit
unfit_value Byte (Negative (Literal n)) v l st unfit is =
    negative n v (both_first (int_lt (pos 0) n) (not (holds_number Byte (negsuc zero))) unfit) is
unfit_value Int (Negative (Literal n)) v l st unfit is =
    absurd (true≢false (sym (both_second (int_lt (pos 0) n) (not (holds_number Int (negsuc zero))) unfit)))
unfit_value t (Negative (Scalar x)) v l st unfit is = absurd (true≢false (sym unfit))
unfit_value t (Negative (Element s i)) v l st unfit is = absurd (true≢false (sym unfit))
unfit_value t (Negative (Length s)) v l st unfit is = absurd (true≢false (sym unfit))
unfit_value t (Negative (Negative e)) v l st unfit is = absurd (true≢false (sym unfit))
unfit_value t (Negative (Chain e rest)) v l st unfit is = absurd (true≢false (sym unfit))
unfit_value t (Scalar x) v l st unfit is = absurd (true≢false (sym unfit))
unfit_value t (Element s i) v l st unfit is = absurd (true≢false (sym unfit))
unfit_value t (Length s) v l st unfit is = absurd (true≢false (sym unfit))
unfit_value t (Chain e rest) v l st unfit is = absurd (true≢false (sym unfit))

-- ---- the store faults

value_faults : {A : Type 0} (l : ℕ) (v : Valued A) (go : A → S → S) (st : S)
    → ((a : A) → v ≡ Ok a → (go a st).flow ≡ Faulted) → (with_value l v go st).flow ≡ Faulted
value_faults l (Ok a) go st h = h a refl
value_faults l (Err f) go st h = refl

put_faults : (l : ℕ) (fits : Bool) (q : Place) (v : ℤ) (st : S) → fits ≡ false → (put l fits q v st).flow ≡ Faulted
put_faults l true q v st is = absurd (true≢false is)
put_faults l false q v st is = refl

pub store_faults : (p : Program) (l s : ℕ) (i e : Number) (st : S)
    → cannot_hold (array_of p (window_at st s).array).element e ≡ true → (primitive p l (Store s i e) st).flow ≡ Faulted
store_faults p l s i e st unfit =
    value_faults l (number_at st i) _ st (λ at _.
    value_faults l (number_at st e) _ st (λ v is.
    value_faults l (element_of (window_at st s) at) _ st (λ q here.
    let inside = element_in (window_at st s) at q here in
    put_faults l (holds_number (array_of p q.array).element v) q v st
    (ap (λ (a : ℕ). holds_number (array_of p a).element v) inside.array
    ∙ unfit_value (array_of p (window_at st s).array).element e v l st unfit is))))
