-- Numbers of a map written over what is held, one place more at a time.
use Rattle.std.proofs.Common.{◌≡◌, ℕ, ◌+◌, ◌≤◌, Option, Some, None, Bool, true, false, refl, sym, ap, ◌∙◌, arith}
use Rattle.std.proofs.lemmas.Bool.Decides.{nat_tests}
use Rattle.std.specs.Prelude.{ℤ, ◌&&◌, ◌||◌, nat_eq, nat_le, nat_lt, if◌then◌else◌}
use Rattle.sections.specs.Place.{Place, same_place}
use Rattle.sections.proofs.Windows.{places_same}
use Rattle.blocks.specs.Held.{Held, Owned, Shared, Map, in_place_of, only, put, put_all, written_over}

-- a number written over itself
again_at : (v : Option ℤ) (h : Option Held) → written_over v (written_over v h) ≡ written_over v h
again_at None h = refl
again_at (Some z) None = refl
again_at (Some z) (Some (Owned w)) = refl
again_at (Some z) (Some (Shared w)) = refl

both_at : (a b c : Bool) (v : Option ℤ) (h : Option Held) → c ≡ (a || b)
    → written_over (if b then v else None) (written_over (if a then v else None) h) ≡ written_over (if c then v else None) h
both_at true true c v h e = again_at v h ∙ ap (λ t. written_over (if t then v else None) h) (sym e)
both_at true false c v h e = ap (λ t. written_over (if t then v else None) h) (sym e)
both_at false b c v h e = ap (λ t. written_over (if t then v else None) h) (sym e)

-- at some places, and then at others
pub put_all-both : (first second both : Place → Bool) (n : Map ℤ) (m : Map Held) → ((q : Place) → both q ≡ (first q || second q))
    → put_all (only second n) (put_all (only first n) m) ≡ put_all (only both n) m
put_all-both first second both n m says = λ t q. both_at (first q) (second q) (both q) (n q) (m q) (says q) t

-- ---- at one place
put_at_place : (n : Map ℤ) (m : Map Held) (p q : Place) (z : ℤ) → n p ≡ Some z → (b : Bool) → same_place p q ≡ b
    → (if b then Some (in_place_of (m p) z) else m q) ≡ written_over (if b then n q else None) (m q)
put_at_place n m p q z is false e = refl
put_at_place n m p q z is true e =
    let same = places_same p q e in
    ap (λ (x : Place). Some (in_place_of (m x) z)) same
    ∙ ap (λ (v : Option ℤ). written_over v (m q)) (sym (ap n (sym same) ∙ is))

pub put-is : (n : Map ℤ) (m : Map Held) (p : Place) (z : ℤ) → n p ≡ Some z
    → put p (in_place_of (m p) z) m ≡ put_all (only (same_place p) n) m
put-is n m p z is = λ t q. put_at_place n m p q z is (same_place p q) refl t

none_at_place : (n : Map ℤ) (m : Map Held) (p q : Place) → n p ≡ None → (b : Bool) → same_place p q ≡ b
    → m q ≡ written_over (if b then n q else None) (m q)
none_at_place n m p q none false e = refl
none_at_place n m p q none true e =
    ap (λ (v : Option ℤ). written_over v (m q)) (sym (ap n (sym (places_same p q e)) ∙ none))

pub none-is : (n : Map ℤ) (m : Map Held) (p : Place) → n p ≡ None → m ≡ put_all (only (same_place p) n) m
none-is n m p none = λ t q. none_at_place n m p q none (same_place p q) refl t

-- ---- the places of an array so far
abbrev pub up_to : (array at to : ℕ) → Place → Bool
up_to a at to q = nat_eq q.array a && (nat_le at q.index && nat_lt q.index to)

pub up_to-more : (a at to : ℕ) → at ≤ to → (q : Place)
    → up_to a at (to + 1) q ≡ (up_to a at to q || same_place (record { array = a; index = to }) q)
up_to-more a at to le q = grind (arith, nat_tests)

-- ---- the next place
module _ (n : Map ℤ) (m now : Map Held) (a at i : ℕ) (le : at ≤ i) (so_far : now ≡ put_all (only (up_to a at i) n) m) where
  abbrev next : Place
  next = record { array = a; index = i }

  with_next : put_all (only (same_place next) n) now ≡ put_all (only (up_to a at (i + 1)) n) m
  with_next =
      ap (put_all (only (same_place next) n)) so_far
      ∙ put_all-both (up_to a at i) (same_place next) (up_to a at (i + 1)) n m (up_to-more a at i le)

  pub next-put : (z : ℤ) → n next ≡ Some z → (after : Map Held) → after ≡ put next (in_place_of (now next) z) now
      → after ≡ put_all (only (up_to a at (i + 1)) n) m
  next-put z is after e = e ∙ put-is n now next z is ∙ with_next

  pub next-none : n next ≡ None → now ≡ put_all (only (up_to a at (i + 1)) n) m
  next-none none = none-is n now next none ∙ with_next
