-- Which event it is: a take or resume, a park or end, or another.
use Rattle.std.proofs.Common.{◌≡◌, ℕ, List, Some, Bool, true, false, ap, sym, ◌∙◌, refl}
use Rattle.std.specs.Prelude.{slice_get, option_and_then}
use Rattle.std.proofs.lemmas.Option.{none-some, option_and_then_some, same_Some}
use Rattle.shared_lemmas.proofs.Truths.{not_both}
use Rattle.events.specs.declared.event.Event.{Event}
use Rattle.events.specs.declared.event.Event.TheVariants.{Take, Park, End, Resume}
use Rattle.trace_layout.specs.Spells.{Hold, IsLeaving, ended, is_taking, parked, taken, taken_at}
use Rattle.trace_layout.specs.declared.spells.SpellEnd.{SpellEnd}
use Rattle.trace_layout.specs.declared.spells.SpellEnd.TheVariants.{Parked, Ended, Left, Going}

-- the event with a number, and whether it is a take or resume
pub record IsAtNumber (es : List Event) (n : ℕ) (b : Bool) : Type 0 where
  pub event : Event
  pub at : slice_get es n ≡ Some event
  pub is : is_taking event ≡ b

taken_is : (e : Event) (y : Hold) → taken e ≡ Some y → is_taking e ≡ true
taken_is (Take worker path) y h = refl
taken_is (Resume worker path faults) y h = refl
taken_is _ y h = absurd (none-some y h)

-- a park or end
abbrev pub is_leaving : Event → Bool
is_leaving (Park path) = true
is_leaving (End path) = true
is_leaving _ = false

parked_leaves : (e : Event) (y : List ℕ) → parked e ≡ Some y → is_leaving e ≡ true
parked_leaves (Park path) y h = refl
parked_leaves _ y h = absurd (none-some y h)

ended_leaves : (e : Event) (y : List ℕ) → ended e ≡ Some y → is_leaving e ≡ true
ended_leaves (End path) y h = refl
ended_leaves _ y h = absurd (none-some y h)

-- it takes nothing
leaving_takes_none : (e : Event) → is_leaving e ≡ true → is_taking e ≡ false
leaving_takes_none (Take worker path) h = absurd (not_both {b = false} h refl)
leaving_takes_none (Resume worker path faults) h = absurd (not_both {b = false} h refl)
leaving_takes_none _ h = refl

pub taking_at : (es : List Event) (n : ℕ) (y : Hold) → taken_at es n ≡ Some y → IsAtNumber es n true
taking_at es n y h = option_and_then_some {P = IsAtNumber es n true} taken (slice_get es n) y h
    (λ e at is. record { event = e; at = at; is = taken_is e y is })

pub leaving_at : (es : List Event) (n : ℕ) (path : List ℕ) (e : SpellEnd) → IsLeaving es n path e → IsAtNumber es n false
leaving_at es n path Parked h = option_and_then_some {P = IsAtNumber es n false} parked (slice_get es n) path h
    (λ e at is. record { event = e; at = at; is = leaving_takes_none e (parked_leaves e path is) })
leaving_at es n path Ended h = option_and_then_some {P = IsAtNumber es n false} ended (slice_get es n) path h
    (λ e at is. record { event = e; at = at; is = leaving_takes_none e (ended_leaves e path is) })
leaving_at es n path Left h = absurd h
leaving_at es n path Going h = absurd h

pub never_going : (es : List Event) (n : ℕ) (path : List ℕ) (e : SpellEnd) → IsLeaving es n path e → e ≡ Going → ⊥
never_going es n path Parked h is = cc
never_going es n path Ended h is = cc
never_going es n path Left h is = h
never_going es n path Going h is = h

-- an event that is no take or resume takes nothing
pub takes_none : (es : List Event) (n : ℕ) (e : Event) (y : Hold) → slice_get es n ≡ Some e → is_taking e ≡ false → taken_at es n ≡ Some y → ⊥
takes_none es n e y at never takes =
    let does : is_taking e ≡ true = taken_is e y (ap (option_and_then taken) (sym at) ∙ takes) in
    let both : true ≡ false = sym does ∙ never in
    cc

-- ---- parks and ends
taken_stays : (e : Event) (y : Hold) → taken e ≡ Some y → is_leaving e ≡ false
taken_stays (Take worker path) y h = refl
taken_stays (Resume worker path faults) y h = refl
taken_stays _ y h = absurd (none-some y h)

-- at an event that is no park or end no task leaves its worker's hand
pub leaves_none : (es : List Event) (n : ℕ) (x : Event) (path : List ℕ) (e : SpellEnd) → slice_get es n ≡ Some x → is_leaving x ≡ false
    → IsLeaving es n path e → ⊥
leaves_none es n x path Parked at never h = not_both (parked_leaves x path (ap (option_and_then parked) (sym at) ∙ h)) never
leaves_none es n x path Ended at never h = not_both (ended_leaves x path (ap (option_and_then ended) (sym at) ∙ h)) never
leaves_none es n x path Left at never h = h
leaves_none es n x path Going at never h = h

pub taking_leaves_none : (es : List Event) (n : ℕ) (y : Hold) (path : List ℕ) (e : SpellEnd) → taken_at es n ≡ Some y → IsLeaving es n path e → ⊥
taking_leaves_none es n y path e takes leaves =
    let x = taking_at es n y takes in
    leaves_none es n x.event path e x.at (taken_stays x.event y (ap (option_and_then taken) (sym x.at) ∙ takes)) leaves

-- one event is not both
parks_or_ends : (x : Event) (p q : List ℕ) → parked x ≡ Some p → ended x ≡ Some q → ⊥
parks_or_ends (Park path) p q a b = none-some q b
parks_or_ends _ p q a b = none-some p a

parks_and_ends : (es : List Event) (n : ℕ) (p q : List ℕ) → IsLeaving es n p Parked → IsLeaving es n q Ended → ⊥
parks_and_ends es n p q a b = option_and_then_some {P = ⊥} parked (slice_get es n) p a
    (λ x at is. parks_or_ends x p q is (ap (option_and_then ended) (sym at) ∙ b))

-- at one event only one task leaves its worker's hand, in one way
pub leaves_one : (es : List Event) (n : ℕ) (p q : List ℕ) (e f : SpellEnd) → IsLeaving es n p e → IsLeaving es n q f → (p ≡ q) × (e ≡ f)
leaves_one es n p q Parked Parked a b = (same_Some p q (sym a ∙ b), refl)
leaves_one es n p q Parked Ended a b = absurd (parks_and_ends es n p q a b)
leaves_one es n p q Parked Left a b = absurd b
leaves_one es n p q Parked Going a b = absurd b
leaves_one es n p q Ended Parked a b = absurd (parks_and_ends es n q p b a)
leaves_one es n p q Ended Ended a b = (same_Some p q (sym a ∙ b), refl)
leaves_one es n p q Ended Left a b = absurd b
leaves_one es n p q Ended Going a b = absurd b
leaves_one es n p q Left f a b = absurd a
leaves_one es n p q Going f a b = absurd a
