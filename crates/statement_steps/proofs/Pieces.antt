-- A piece has a small number.
use Rattle.std.proofs.Common.{◌≡◌, ◌⊎◌, inl, inr, ℕ, zero, suc, ◌+◌, ◌*◌, ◌<◌, ◌≤◌, Option, None, Some, refl, arith, le_refl}
use Rattle.std.proofs.lemmas.Bool.{and_from, cases_lt, lt-ltb}
use Rattle.std.proofs.lemmas.Nat.{mul-le}
use Rattle.std.specs.Prelude.{◌↔◌, Bool, true, false, IsNone, IfSome, if◌then◌else◌}
use Rattle.sections.specs.Place.{Window, has_piece, piece_at, piece_of}
use Rattle.sections.proofs.Pieces.{is_piece}

-- the pieces before one have at least one place each
below_length : (size turn len : ℕ) → (size ≡ 0 → ⊥) → size * turn < len → turn < len
below_length zero turn len some h = absurd (some refl)
below_length (suc n) turn len some h = omega (arith, h, mul-le 1 turn (suc n) turn (omega arith) (le_refl turn))

never : true ≡ false → ⊥
never e = absurd cc

-- a window with a piece of that number has more places than the number
pub few_pieces : {W : Type 0} (piece : Option W) (at len size turn : ℕ) → at + len ≤ 4194304
    → IsNone piece ↔ ((size ≡ 0) ⊎ (len ≤ size * turn)) → IfSome piece (λ w. turn < 4194304)
few_pieces None at len size turn small none = tt
few_pieces (Some w) at len size turn small none = elim (cases_lt (size * turn) len) [
  | inl h ↦ (let few = below_length size turn len (λ e. never (none.1 (inl e))) h in omega (arith, few, small))
  | inr h ↦ absurd (never (none.1 (inr h)))
]

-- whether there is a piece of that number
pub has_one : (w piece : Window) (size turn : ℕ) → piece_of w size turn ≡ Some piece → has_piece w size turn ≡ true
has_one w piece size turn is =
    let it = is_piece w piece size turn is in
    and_from _ _ (lt-ltb 0 size it.size) (lt-ltb (size * turn) w.length it.starts)

pub has_none : (w : Window) (size turn : ℕ) → piece_of w size turn ≡ None → has_piece w size turn ≡ false
has_none w size turn is = by (has_piece w size turn) refl is
  where
    by : (b : Bool) → has_piece w size turn ≡ b
        → if◌then◌else◌ {A = Option Window} b (Some (piece_at size turn w)) None ≡ None → has_piece w size turn ≡ false
    by true e none = absurd cc
    by false e none = e
