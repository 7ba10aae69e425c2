-- The meaning of a bound number, and the place of an element.
use Rattle.std.proofs.Common.{◌≡◌, ℕ, ◌+◌, ◌≢◌, Some, None, Ok, Err, Bool, true, false, refl, ap, subst, arith}
use Rattle.std.proofs.lemmas.Bool.{ltb-true, eq-eqb, ne_eqb}
use Rattle.std.specs.Prelude.{ℤ, pos, negsuc, nat_lt, ok_or, if◌then◌else◌}
use Rattle.sections.specs.Place.{Place, Window, In}
use Rattle.types.specs.declared.fault.FaultKind.TheVariants.{Index}
use Rattle.types.specs.Run.{bind}
use Rattle.types.specs.Value.{Valued, element_of}

pub bind_here : {A : Type 0} (x : ℕ) (v : A) (f : ℕ → A) → bind x v f x ≡ v
bind_here x v f = ap (λ b. if b then v else f x) (eq-eqb x x refl)

pub bind_other : {A : Type 0} (x y : ℕ) (v : A) (f : ℕ → A) → x ≢ y → bind x v f y ≡ f y
bind_other x y v f ne = ap (λ b. if b then v else f y) (ne_eqb x y ne)

-- an element's place is in its window
pub element_in : (w : Window) (v : ℤ) (q : Place) → element_of w v ≡ Ok q → In w q
element_in w (negsuc n) q e = cc
element_in w (pos n) q e = by (nat_lt n w.length) refl e
  where
    at : Place
    at = record { array = w.array; index = w.at + n }

    place_or : Place → Valued Place → Place
    place_or d (Ok q) = q
    place_or d (Err f) = d

    by : (b : Bool) → nat_lt n w.length ≡ b → ok_or (if b then Some at else None) Index ≡ Ok q → In w q
    by true h e = subst (In w) (ap (place_or q) e) (let lt = ltb-true n w.length h in record { array = refl; low = omega arith; high = omega (arith, lt) })
    by false h e = cc
