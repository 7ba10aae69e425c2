-- Windows cut at the ends of blocks, and maps that take places from other maps.
use Rattle.std.proofs.Common.{◌≡◌, ℕ, ◌+◌, ◌-◌, ◌%◌, ◌<◌, ◌≤◌}
use Rattle.std.proofs.Common.{Option, Bool, true, false, refl, sym, ap, ◌∙◌, arith}
use Rattle.std.proofs.lemmas.Bool.Decides.{nat_tests}
use Rattle.std.specs.Prelude.{◌&&◌, ◌||◌, nat_eq, nat_le, nat_lt, if◌then◌else◌}
use Rattle.sections.specs.Covers.{is_in}
use Rattle.sections.specs.Place.{Place, Window, first_places, places_behind}
use Rattle.blocks.specs.Held.{Map}
use Rattle.holdings.specs.Pieces.{piece_length, piece, behind_piece, taking}
use Rattle.shared_lemmas.proofs.Truths.{if_false}

-- ---- a window and its two parts

interval-split : (at n m i : ℕ) → n ≤ m
    → (nat_le at i && nat_lt i (at + m))
    ≡ ((nat_le at i && nat_lt i (at + n)) || (nat_le (at + n) i && nat_lt i (at + n + (m - n))))
interval-split at n m i le = grind (arith, nat_tests)

and-or : (a b c : Bool) → (a && (b || c)) ≡ ((a && b) || (a && c))
and-or true b c = refl
and-or false b c = refl

is_in-split : (w : Window) (n : ℕ) → n ≤ w.length → (q : Place)
    → is_in w q ≡ (is_in (first_places n w) q || is_in (places_behind n w) q)
is_in-split w n le q =
    ap (λ b. nat_eq q.array w.array && b) (interval-split w.at n w.length q.index le)
    ∙ and-or (nat_eq q.array w.array) _ _

pub is_in-cut : (w : Window) (q : Place) → is_in w q ≡ (is_in (piece w) q || is_in (behind_piece w) q)
is_in-cut w q = is_in-split w (piece_length w) (omega arith) q

-- a window of no place
pub is_in-empty : (w : Window) (q : Place) → w.length ≡ 0 → is_in w q ≡ false
is_in-empty w q e = by_array (nat_eq q.array w.array)
  where
    none : (nat_le w.at q.index && nat_lt q.index (w.at + w.length)) ≡ false
    none = grind (arith, nat_tests)

    by_array : (b : Bool) → (b && (nat_le w.at q.index && nat_lt q.index (w.at + w.length))) ≡ false
    by_array true = none
    by_array false = refl

-- a piece lies in one block
pub piece_fits : (w : Window) → (piece w).at % 256 + (piece w).length ≤ 256
piece_fits w = omega arith

pub piece_less : (w : Window) → 0 < w.length → (behind_piece w).length < w.length
piece_less w some = omega arith

-- ---- maps that take places from others, part after part

taking_at : {A : Type 0} (a b c : Bool) (x y : Option A) → c ≡ (a || b)
    → (if b then x else (if a then x else y)) ≡ (if c then x else y)
taking_at true true c x y e = ap (λ k. if k then x else y) (sym e)
taking_at true false c x y e = ap (λ k. if k then x else y) (sym e)
taking_at false true c x y e = ap (λ k. if k then x else y) (sym e)
taking_at false false c x y e = ap (λ k. if k then x else y) (sym e)

pub taking-both : {A : Type 0} (a b c : Place → Bool) (from into : Map A)
    → ((q : Place) → c q ≡ (a q || b q)) → taking b from (taking a from into) ≡ taking c from into
taking-both a b c from into e = λ t q. taking_at (a q) (b q) (c q) (from q) (into q) (e q) t

pub taking-none : {A : Type 0} (c : Place → Bool) (from into : Map A)
    → ((q : Place) → c q ≡ false) → taking c from into ≡ into
taking-none c from into e = λ t q. if_false (c q) (from q) (into q) (e q) t
