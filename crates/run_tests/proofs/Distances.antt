-- Worked rows: how far windows are from the first place of their array's row, and which places a row reaches.
use Rattle.std.proofs.Common.{◌≡◌, ℕ, [], ◌∷◌, ap, length, arith, refl, sym}
use Rattle.std.proofs.lemmas.Option.{same_Some}
use Rattle.sections.specs.Place.{Window}
use Rattle.holdings.specs.Reach.{LiesFrom, LiesNowhere, ReachesTo}
use Rattle.holdings.specs.declared.row.BlockRow.{BlockRow}

abbrev window : (array at length : ℕ) → Window
window array at length = record { array = array; at = at; length = length }

-- array 0 has a row of two blocks from block 1 on: the places 256 to 767
module _ (r : BlockRow) (first : r.first ≡ 1) (two : length r.blocks.items ≡ 2) where
  -- the first place, a part of the first block, the border of the blocks, and the last places
  first_place : LiesFrom (r ∷ []) (window 0 256 1) 0
  first_place = record { row = r; there = refl; begins = omega (arith, first); reaches = omega (arith, two) }

  part : LiesFrom (r ∷ []) (window 0 300 10) 44
  part = record { row = r; there = refl; begins = omega (arith, first); reaches = omega (arith, two) }

  border : LiesFrom (r ∷ []) (window 0 511 2) 255
  border = record { row = r; there = refl; begins = omega (arith, first); reaches = omega (arith, two) }

  last_places : LiesFrom (r ∷ []) (window 0 758 10) 502
  last_places = record { row = r; there = refl; begins = omega (arith, first); reaches = omega (arith, two) }

  -- a place before the row, one behind it, and an array without a row
  before : LiesNowhere (r ∷ []) (window 0 255 2)
  before at l =
      let same : l.row ≡ r = sym (same_Some _ _ l.there) in
      absurd (omega (arith, first, l.begins, ap (λ (x : BlockRow). x.first) same))

  behind : LiesNowhere (r ∷ []) (window 0 758 11)
  behind at l =
      let same : l.row ≡ r = sym (same_Some _ _ l.there) in
      absurd (omega (
        arith,
        first,
        two,
        l.begins,
        l.reaches,
        ap (λ (x : BlockRow). x.first) same,
        ap (λ (x : BlockRow). length x.blocks.items) same,
      ))

  elsewhere : LiesNowhere (r ∷ []) (window 1 256 1)
  elsewhere at l = absurd (let e = l.there in cc)

  -- the row reaches to the distance 511, and no further
  last_distance : ReachesTo (r ∷ []) 0 511
  last_distance = record { row = r; there = refl; reaches = omega (arith, two) }

  past : ReachesTo (r ∷ []) 0 512 → ⊥
  past l =
      let same : l.row ≡ r = sym (same_Some _ _ l.there) in
      absurd (omega (arith, two, l.reaches, ap (λ (x : BlockRow). length x.blocks.items) same))
