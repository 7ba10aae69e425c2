-- One step of the walk up: from the section with the larger number to its parent.
use Rattle.std.proofs.Common.{◌≡◌, ℕ, ◌+◌, ◌-◌, ◌<◌, ◌≤◌, List, inl, inr, sym, ap, ◌∙◌, subst, arith}
use Rattle.std.proofs.lemmas.Bool.{false_from_ne_true, or_left, cases_lt}
use Rattle.std.proofs.Common.{min, max}
use Rattle.std.specs.Prelude.{true, false}
use Rattle.sections.specs.Origins.{Origin, Root, Left, Right, Piece, origin_of, IsNumbered, left, right, piece}
use Rattle.sections.specs.Overlap.{are_sides, are_opposite, overlap}
use Rattle.sections.proofs.Overlapping.{opposite_cases, opposite-disjoint, are_sides-from, root-disjoint}
use Rattle.sections.proofs.Overlapping.{overlap-walks, overlap-sym, overlap-self}

module _ (origins : List Origin) (numbered : IsNumbered origins) (low high : ℕ) (order : low < high) where
  pub above_root : origin_of origins high ≡ Root → overlap origins low high ≡ false
  above_root e = root-disjoint origins numbered low high order e

  pub above_left : (s : ℕ) → origin_of origins high ≡ Left s → overlap origins low high ≡ overlap origins low s
  above_left s e = overlap-walks origins numbered low high s order (left e) (false_from_ne_true (are_opposite origins low high) (λ h.
      elim (opposite_cases origins low high h) [
        | inl o ↦ (let f : origin_of origins high ≡ Right o.parent = o.right_of in absurd cc)
        | inr o ↦ (let n : low ≡ high + 1 = o.turn in omega (arith, order, n))
      ]))

  -- no piece is the side of a split
  pub above_piece : (s : ℕ) → origin_of origins high ≡ Piece s → overlap origins low high ≡ overlap origins low s
  above_piece s e = overlap-walks origins numbered low high s order (piece e) (false_from_ne_true (are_opposite origins low high) (λ h.
      elim (opposite_cases origins low high h) [
        | inl o ↦ (let f : origin_of origins high ≡ Right o.parent = o.right_of in absurd cc)
        | inr o ↦ (let f : origin_of origins high ≡ Left o.parent = o.left_of in absurd cc)
      ]))

  -- a right side and the section before it
  pub above_beside : (s : ℕ) → origin_of origins high ≡ Right s → low + 1 ≡ high → overlap origins low high ≡ false
  above_beside s e h =
      let before : high - 1 ≡ low = omega (arith, h) in
      opposite-disjoint origins low high (or_left (are_sides origins low high) (are_sides origins high low)
      (are_sides-from origins low high (record {
        turn = sym h;
        parent = s;
        left_of = subst (λ a. origin_of origins a ≡ Left s) before (numbered.left_before high s e);
        right_of = e;
      })))

  pub above_right : (s : ℕ) → origin_of origins high ≡ Right s → (low + 1 ≡ high → ⊥)
      → overlap origins low high ≡ overlap origins low s
  above_right s e ne = overlap-walks origins numbered low high s order (right e) (false_from_ne_true (are_opposite origins low high) (λ h.
      elim (opposite_cases origins low high h) [
        | inl o ↦ ne (sym o.turn)
        | inr o ↦ (let n : low ≡ high + 1 = o.turn in omega (arith, order, n))
      ]))

-- two numbers in order
pub overlap-ordered : (origins : List Origin) (a b low high : ℕ) → low ≡ min a b → high ≡ max a b
    → overlap origins a b ≡ overlap origins low high
overlap-ordered origins a b low high e f = elim (cases_lt a b) [
  | inl h ↦
      (let x : a ≡ low = omega (arith, e, h) in
      let y : b ≡ high = omega (arith, f, h) in
      ap (λ x. overlap origins x b) x ∙ ap (overlap origins low) y)
  | inr h ↦
      (let x : a ≡ high = omega (arith, f, h) in
      let y : b ≡ low = omega (arith, e, h) in
      overlap-sym origins a b ∙ ap (λ y. overlap origins y a) y ∙ ap (overlap origins low) x)
]

-- if the two sections that are reached are the same, they overlap
pub met-overlap : (origins : List Origin) → IsNumbered origins → (low high : ℕ) → low ≤ high → high ≤ low
    → overlap origins low high ≡ true
met-overlap origins numbered low high h k =
    let e : high ≡ low = omega (arith, h, k) in ap (overlap origins low) e ∙ overlap-self origins numbered low
