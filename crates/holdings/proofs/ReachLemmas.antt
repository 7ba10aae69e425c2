-- Places by their distance from the first place of a row.
use Rattle.std.proofs.Common.{◌≡◌, ℕ, ◌+◌, ◌*◌, ◌/◌, ◌%◌, ◌<◌, ◌≤◌, List, length, get_or, set}
use Rattle.std.proofs.Common.{Some, None, Bool, true, false, refl, sym, ap, ap₂, ◌∙◌, arith, rules, ◌⊎◌, inl, inr}
use Rattle.std.proofs.lemmas.Bool.{eqb-true, ltb-true}
use Rattle.std.proofs.lemmas.Option.{same_Some, slice_get_past, slice_get_read}
use Rattle.std.specs.Prelude.{IfNone, Option, nat_eq, nat_lt, slice_get, if◌then◌else◌}
use Rattle.sections.specs.Place.{Window}
use Rattle.holdings.specs.Reach.{LieAsBefore, LiesFrom, LiesNowhere, begins_at, place_at}
use Rattle.holdings.specs.Rows.{block_in, block_of, held_in_list, held_of}
use Rattle.holdings.specs.declared.row.BlockRow.{BlockRow}
use Rattle.holdings.proofs.WritingLemmas.{block_of-item, slice_get-set}

-- a list has the elements that can be read
pub within-list : {A : Type 0} (xs : List A) (i : ℕ) (x : A) → slice_get xs i ≡ Some x → i < length xs
within-list xs i x is = by_test (nat_lt i (length xs)) refl
  where
    by_test : (t : Bool) → nat_lt i (length xs) ≡ t → i < length xs
    by_test true e = ltb-true _ _ e
    by_test false e =
        let le : length xs ≤ i = search rules in
        absurd (let f = sym is ∙ slice_get_past xs i le in cc)

-- what holds without a value, from what does
pub if-none : {A : Type 0} (o : Option A) {P Q : Type 0} → IfNone o P → (P → Q) → IfNone o Q
if-none None h f = f h
if-none (Some x) h f = tt

-- a window of an array that has no row
pub lies-in-no-row : (rs : List BlockRow) (w : Window) → length rs ≤ w.array → LiesNowhere rs w
lies-in-no-row rs w le at l = let e = sym (slice_get_past rs w.array le) ∙ l.there in cc

-- ---- the row of an array

module _ (rs : List BlockRow) (a : ℕ) (r : BlockRow) (lt : a < length rs) (is : r ≡ get_or rs a r) where
  pub row-there : slice_get rs a ≡ Some r
  row-there = slice_get_read rs (length rs) a r refl lt is

  pub place-block : (at : ℕ) → (begins_at (slice_get rs a) + at) / 256 ≡ r.first + at / 256
  place-block at = let e : begins_at (slice_get rs a) ≡ 256 * r.first = ap begins_at row-there in omega (arith, e)

  pub place-offset : (at : ℕ) → (begins_at (slice_get rs a) + at) % 256 ≡ at % 256
  place-offset at = let e : begins_at (slice_get rs a) ≡ 256 * r.first = ap begins_at row-there in omega (arith, e)

  pub place-held : (at : ℕ) → held_in_list rs (place_at rs a at) ≡ held_of (block_in r (r.first + at / 256)) (at % 256)
  place-held at =
      ap₂ (λ m k. held_of (block_of rs a m) k) (place-block at) (place-offset at)
      ∙ ap (λ o. held_of o (at % 256)) (block_of-item rs a r lt is (r.first + at / 256))

  -- a window that the row of its array doesn't have blocks for
  pub lies-out-of-row : (w : Window) → w.array ≡ a
      → (w.at < 256 * r.first) ⊎ (256 * (r.first + length r.blocks.items) < w.at + w.length) → LiesNowhere rs w
  lies-out-of-row w of out at l = by_end out
    where
      same : l.row ≡ r
      same = same_Some _ _ (sym l.there ∙ ap (slice_get rs) of ∙ row-there)

      by_end : (w.at < 256 * r.first) ⊎ (256 * (r.first + length r.blocks.items) < w.at + w.length) → ⊥
      by_end (inl lt) = omega (arith, lt, l.begins, ap (λ (x : BlockRow). x.first) same)
      by_end (inr lt) =
          omega (arith, lt, l.begins, l.reaches, ap (λ (x : BlockRow). x.first) same, ap (λ (x : BlockRow). length x.blocks.items) same)

  -- a row that begins and ends where the old one does
  lies-set : (s : BlockRow) → s.first ≡ r.first → length s.blocks.items ≡ length r.blocks.items
      → (w : Window) (d : ℕ) → LiesFrom rs w d → LiesFrom (set rs a s) w d
  lies-set s first long w d l = by_eq (nat_eq w.array a) refl
    where
      by_eq : (t : Bool) → nat_eq w.array a ≡ t → LiesFrom (set rs a s) w d
      by_eq true e =
          let same : l.row ≡ r = same_Some _ _ (sym l.there ∙ ap (slice_get rs) (eqb-true _ _ e) ∙ row-there) in
          record {
            row = s;
            there = slice_get-set rs a s lt w.array ∙ ap (λ b. if b then Some s else slice_get rs w.array) e;
            begins = ap (λ n. 256 * n + d) (first ∙ ap (λ (x : BlockRow). x.first) (sym same)) ∙ l.begins;
            reaches = omega (arith, l.reaches, long, ap (λ (x : BlockRow). length x.blocks.items) same);
          }
      by_eq false e = record {
        row = l.row;
        there = slice_get-set rs a s lt w.array ∙ ap (λ b. if b then Some s else slice_get rs w.array) e ∙ l.there;
        begins = l.begins;
        reaches = l.reaches;
      }

  lies-unset : (s : BlockRow) → s.first ≡ r.first → length s.blocks.items ≡ length r.blocks.items
      → (w : Window) (d : ℕ) → LiesFrom (set rs a s) w d → LiesFrom rs w d
  lies-unset s first long w d l = by_eq (nat_eq w.array a) refl
    where
      at : (t : Bool) → nat_eq w.array a ≡ t → (if t then Some s else slice_get rs w.array) ≡ Some l.row
      at t e = ap (λ b. if b then Some s else slice_get rs w.array) (sym e) ∙ sym (slice_get-set rs a s lt w.array) ∙ l.there

      by_eq : (t : Bool) → nat_eq w.array a ≡ t → LiesFrom rs w d
      by_eq true e =
          let same : l.row ≡ s = sym (same_Some _ _ (at true e)) in
          record {
            row = r;
            there = ap (slice_get rs) (eqb-true _ _ e) ∙ row-there;
            begins = ap (λ n. 256 * n + d) (sym first ∙ ap (λ (x : BlockRow). x.first) (sym same)) ∙ l.begins;
            reaches = omega (arith, l.reaches, long, ap (λ (x : BlockRow). length x.blocks.items) same);
          }
      by_eq false e = record { row = l.row; there = at false e; begins = l.begins; reaches = l.reaches }

  pub lie-set : (s : BlockRow) → s.first ≡ r.first → length s.blocks.items ≡ length r.blocks.items → LieAsBefore rs (set rs a s)
  lie-set s first long w d = (lies-set s first long w d, lies-unset s first long w d)
