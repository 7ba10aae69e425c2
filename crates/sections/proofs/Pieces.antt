-- Pieces of a window: each place of the window is in exactly one of them.
use Rattle.std.proofs.Common.{◌≡◌, ◌≢◌, ◌⊎◌, inl, inr, ℕ, ◌+◌, ◌-◌, ◌*◌, ◌/◌, ◌<◌, ◌≤◌, Option, Some, None}
use Rattle.std.proofs.Common.{refl, sym, ap, ◌∙◌, subst, arith, min}
use Rattle.std.proofs.lemmas.Bool.{ltb-true, lt-ltb, le-ltb, and_parts, and_from, cases_order}
use Rattle.std.proofs.lemmas.Option.{same_Some}
use Rattle.std.proofs.Math.Bool.{and-false}
use Rattle.std.proofs.Math.Nat.{mul-le-mul_left, mul-div-le, mul-add, lt-mul-div-succ}
use Rattle.std.specs.Prelude.{Bool, true, false, ◌&&◌, nat_lt, if◌then◌else◌}
use Rattle.sections.specs.Place.{Place, Window, In, has_piece, piece_at, piece_of}
use Rattle.sections.specs.Placed.{Apart}

-- a piece that a window has
pub record IsPiece (w v : Window) (n k : ℕ) : Type 0 where
  pub size : 0 < n
  pub starts : n * k < w.length
  pub is : v ≡ piece_at n k w

pub is_piece : (w v : Window) (n k : ℕ) → piece_of w n k ≡ Some v → IsPiece w v n k
is_piece w v n k h = go (has_piece w n k) refl h
  where
    go : (b : Bool) → has_piece w n k ≡ b → if◌then◌else◌ {A = Option Window} b (Some (piece_at n k w)) None ≡ Some v
        → IsPiece w v n k
    go true e h =
        let c = and_parts (nat_lt 0 n) (nat_lt (n * k) w.length) e in
        record { size = ltb-true 0 n c.0; starts = ltb-true (n * k) w.length c.1; is = sym (same_Some _ _ h) }
    go false e h = absurd cc

pub piece_of-some : (w : Window) (n k : ℕ) → 0 < n → n * k < w.length → piece_of w n k ≡ Some (piece_at n k w)
piece_of-some w n k h i =
    ap (λ b. if◌then◌else◌ {A = Option Window} b (Some (piece_at n k w)) None)
    (and_from (nat_lt 0 n) (nat_lt (n * k) w.length) (lt-ltb 0 n h) (lt-ltb (n * k) w.length i))

-- a piece starts after the places of the pieces before it
pub record InPiece (w : Window) (n k : ℕ) (q : Place) : Type 0 where
  pub array : q.array ≡ w.array
  pub low : w.at + n * k ≤ q.index
  pub high : q.index < w.at + n * k + n
  pub end : q.index < w.at + w.length

pub in_piece : (w v : Window) (n k : ℕ) (q : Place) → piece_of w n k ≡ Some v → In v q → InPiece w n k q
in_piece w v n k q h i = by (subst (λ v. In v q) p.is i)
  where
    p : IsPiece w v n k
    p = is_piece w v n k h

    by : In (piece_at n k w) q → InPiece w n k q
    by j =
        let low : w.at + n * k ≤ q.index = j.low in
        let high : q.index < w.at + n * k + min n (w.length - n * k) = j.high in
        let starts : n * k < w.length = p.starts in
        record { array = j.array; low = low; high = omega (arith, high); end = omega (arith, high, starts) }

-- its places are places of the window
pub piece_inside : (w v : Window) (n k : ℕ) → piece_of w n k ≡ Some v → (q : Place) → In v q → In w q
piece_inside w v n k h q i =
    let p = in_piece w v n k q h i in
    let low : w.at + n * k ≤ q.index = p.low in
    record { array = p.array; low = omega (arith, low); high = p.end }

-- the pieces of two turns share none
later_apart : (w : Window) (n j k : ℕ) (q : Place) → j < k → InPiece w n j q → InPiece w n k q → ⊥
later_apart w n j k q h a b =
    let next : n * (j + 1) ≤ n * k = mul-le-mul_left n (omega (arith, h)) in
    let one : n * (j + 1) ≡ n * j + n * 1 = mul-add n j 1 in
    let high : q.index < w.at + n * j + n = a.high in
    let low : w.at + n * k ≤ q.index = b.low in
    omega (arith, next, one, high, low)

pub pieces_apart : (w v u : Window) (n j k : ℕ) → j ≢ k → piece_of w n j ≡ Some v → piece_of w n k ≡ Some u → Apart v u
pieces_apart w v u n j k ne f g q a b = elim (cases_order j k) [
  | inl e ↦ ne e
  | inr (inl h) ↦ later_apart w n j k q h (in_piece w v n j q f a) (in_piece w u n k q g b)
  | inr (inr h) ↦ later_apart w n k j q h (in_piece w u n k q g b) (in_piece w v n j q f a)
]

-- a place of the window in one of its pieces
pub record HasPiece (w : Window) (n : ℕ) (q : Place) : Type 0 where
  pub turn : ℕ
  pub piece : Window
  pub cut : piece_of w n turn ≡ Some piece
  pub inside : In piece q

pub piece_with : (w : Window) (n : ℕ) (q : Place) → 0 < n → In w q → HasPiece w n q
piece_with w n q h i =
    let k = (q.index - w.at) / n in
    let low : w.at ≤ q.index = i.low in
    let high : q.index < w.at + w.length = i.high in
    let before : n * k ≤ q.index - w.at = mul-div-le (q.index - w.at) n in
    let behind : q.index - w.at < n * k + n = below (q.index - w.at) in
    record {
      turn = k;
      piece = piece_at n k w;
      cut = piece_of-some w n k h (omega (arith, low, high, before));
      inside = record {
        array = i.array;
        low = omega (arith, low, before);
        high = omega (arith, low, high, before, behind);
      };
    }
  where
    below : (d : ℕ) → d < n * (d / n) + n
    below d =
        let k : d < n * (d / n + 1) = lt-mul-div-succ d h in
        let one : n * (d / n + 1) ≡ n * (d / n) + n * 1 = mul-add n (d / n) 1 in
        omega (arith, k, one)

-- where a window has no piece
pub piece_of-none : (w : Window) (n k : ℕ) → (n ≡ 0) ⊎ (w.length ≤ n * k) → piece_of w n k ≡ None
piece_of-none w n k h = ap (λ b. if◌then◌else◌ {A = Option Window} b (Some (piece_at n k w)) None) (by h)
  where
    by : (n ≡ 0) ⊎ (w.length ≤ n * k) → has_piece w n k ≡ false
    by (inl e) = ap (λ m. nat_lt 0 m && nat_lt (n * k) w.length) e
    by (inr h) = ap (λ b. nat_lt 0 n && b) (le-ltb (n * k) w.length h) ∙ and-false (nat_lt 0 n)
