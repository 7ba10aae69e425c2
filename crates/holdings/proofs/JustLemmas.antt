-- What is owned at the places of windows, and nowhere else.
use Rattle.std.proofs.Common.{◌≡◌, ℕ, ◌+◌, ◌*◌, ◌/◌, ◌%◌, ◌<◌, ◌≤◌, List, [], ◌∷◌, length, get_or, map}
use Rattle.std.proofs.Common.{Option, Some, None, Bool, true, false, is_some, inl, inr, refl, sym, ap, ◌∙◌, arith, rules, subst}
use Rattle.std.proofs.lemmas.Bool.{and_from, and_parts, eq-eqb, eqb-true, false≢true, le-leb, leb-true, ltb-true, or_cases, or_left, or_right}
use Rattle.std.specs.List.{list_any}
use Rattle.std.specs.Prelude.{ℤ, ◌&&◌, nat_eq, nat_le, nat_lt}
use Rattle.sections.specs.Covers.{has, is_in}
use Rattle.sections.specs.Place.{Place}
use Rattle.sections.specs.Translation.{window as window_of}
use Rattle.sections.specs.declared.window.Window.{Window as rWindow}
use Rattle.sections.proofs.Covering.{in_window, is_in-from}
use Rattle.blocks.specs.Blocks.{held_at, owned_at}
use Rattle.blocks.specs.Held.{IsOnlyAt, owned, owned_number}
use Rattle.blocks.specs.declared.block.Block.{Block}
use Rattle.holdings.specs.Rows.{StandsIn, block_in, block_of, held_in_list, held_of, place_at}
use Rattle.holdings.specs.declared.row.BlockRow.{BlockRow}
use Rattle.holdings.proofs.RoomLemmas.{held_behind}
use Rattle.holdings.proofs.WritingLemmas.{block_of-item, block_of-past}

-- ---- windows that have all places of a row

-- whether a window has all places of an array from one on, and to before another
abbrev pub has_all_of : (array from to : ℕ) → rWindow → Bool
has_all_of a from to w = nat_eq w.array.number a && (nat_le w.at from && nat_le to (w.at + w.len))

spans-is_in : (a from to : ℕ) (w : rWindow) → has_all_of a from to w ≡ true → (i : ℕ) → from ≤ i → i < to
    → is_in (window_of w) (record { array = a; index = i }) ≡ true
spans-is_in a from to w e i low high =
    let p = and_parts (nat_eq w.array.number a) (nat_le w.at from && nat_le to (w.at + w.len)) e in
    let r = and_parts (nat_le w.at from) (nat_le to (w.at + w.len)) p.1 in
    let begins = leb-true _ _ r.0 in
    let ends = leb-true _ _ r.1 in
    is_in-from (window_of w) (record { array = a; index = i })
    (record { array = sym (eqb-true _ _ p.0); low = omega (arith, low, begins); high = omega (arith, high, ends) })

pub spans-has : (a from to : ℕ) (ws : List rWindow) → list_any (has_all_of a from to) ws ≡ true → (i : ℕ) → from ≤ i → i < to
    → has (map window_of ws) (record { array = a; index = i }) ≡ true
spans-has a from to [] e i low high = absurd (false≢true e)
spans-has a from to (w ∷ ws) e i low high =
    let q : Place = record { array = a; index = i } in
    elim (or_cases (has_all_of a from to w) (list_any (has_all_of a from to) ws) e) [
      | inl here ↦ or_left (is_in (window_of w) q) (has (map window_of ws) q) (spans-is_in a from to w here i low high)
      | inr rest ↦ or_right (is_in (window_of w) q) (has (map window_of ws) q) (spans-has a from to ws rest i low high)
    ]

is_in-spans : (a i : ℕ) (w : rWindow) → is_in (window_of w) (record { array = a; index = i }) ≡ true → has_all_of a i (i + 1) w ≡ true
is_in-spans a i w e =
    let at = in_window (window_of w) (record { array = a; index = i }) e in
    let low = at.low in
    let high = at.high in
    and_from (nat_eq w.array.number a) (nat_le w.at i && nat_le (i + 1) (w.at + w.len)) (eq-eqb _ _ (sym at.array))
    (and_from (nat_le w.at i) (nat_le (i + 1) (w.at + w.len)) (le-leb _ _ low) (le-leb _ _ (omega (arith, high))))

pub has-spans : (a i : ℕ) (ws : List rWindow) → has (map window_of ws) (record { array = a; index = i }) ≡ true
    → list_any (has_all_of a i (i + 1)) ws ≡ true
has-spans a i [] e = absurd (false≢true e)
has-spans a i (w ∷ ws) e =
    let q : Place = record { array = a; index = i } in
    elim (or_cases (is_in (window_of w) q) (has (map window_of ws) q) e) [
      | inl here ↦ or_left (has_all_of a i (i + 1) w) (list_any (has_all_of a i (i + 1)) ws) (is_in-spans a i w here)
      | inr rest ↦ or_right (has_all_of a i (i + 1) w) (list_any (has_all_of a i (i + 1)) ws) (has-spans a i ws rest)
    ]

-- ---- a block
module _ (a n : ℕ) (ws : List rWindow) (b : Block) where
  abbrev pub stands_at : ℕ → Type 0
  stands_at k = (owned_at b k ≡ None → ⊥) → has (map window_of ws) (place_at a n k) ≡ true

  -- one window has all that it may hold
  pub block_stands : (low high : ℕ) → ((k : ℕ) → k < low → held_at b k ≡ None) → ((k : ℕ) → high ≤ k → held_at b k ≡ None)
      → list_any (has_all_of a (n * 256 + low) (n * 256 + high)) ws ≡ true → StandsIn (has (map window_of ws)) a n (owned_at b)
  block_stands low high before behind e k some =
      let from = begins (nat_lt k low) refl in
      let to = ends (nat_lt k high) refl in
      spans-has a (n * 256 + low) (n * 256 + high) ws e (256 * n + k) (omega (arith, from)) (omega (arith, to))
    where
      begins : (t : Bool) → nat_lt k low ≡ t → low ≤ k
      begins true t = absurd (some (ap owned_number (before k (ltb-true _ _ t))))
      begins false t = search rules

      ends : (t : Bool) → nat_lt k high ≡ t → k < high
      ends true t = ltb-true _ _ t
      ends false t =
          let le : high ≤ k = search rules in
          absurd (some (ap owned_number (behind k le)))

  -- a window has an offset that is owned
  pub offset_stands : (k : ℕ) → list_any (has_all_of a (n * 256 + k) (n * 256 + k + 1)) ws ≡ true → stands_at k
  offset_stands k e some = spans-has a (n * 256 + k) (n * 256 + k + 1) ws e (256 * n + k) (omega arith) (omega arith)

  pub offset_had : (k : ℕ) → StandsIn (has (map window_of ws)) a n (owned_at b) → is_some (owned_at b k) ≡ true
      → list_any (has_all_of a (n * 256 + k) (n * 256 + k + 1)) ws ≡ true
  offset_had k all some =
      let same : 256 * n + k ≡ n * 256 + k = omega arith in
      subst (λ (i : ℕ). list_any (has_all_of a i (i + 1)) ws ≡ true) same
      (has-spans a (256 * n + k) ws (all k (λ none. false≢true (sym (ap is_some none) ∙ some))))

  pub offset_free : (k : ℕ) → is_some (owned_at b k) ≡ false → stands_at k
  offset_free k none some = absurd (by_case (owned_at b k) none some)
    where
      by_case : (o : Option ℤ) → is_some o ≡ false → (o ≡ None → ⊥) → ⊥
      by_case None e h = h refl
      by_case (Some x) e h = false≢true (sym e)

-- ---- blocks

-- what a block that there may be owns
abbrev pub owned_of : Option Block → ℕ → Option ℤ
owned_of o k = owned_number (held_of o k)

pub stands-none : (set : Place → Bool) (a j : ℕ) → StandsIn set a j (owned_of None)
stands-none set a j k some = absurd (some refl)

-- ---- rows of all arrays
module _ (rs : List BlockRow) (set : Place → Bool) where
  -- what the blocks of an array own is at places of the set
  abbrev pub RowStandsIn : ℕ → Type 0
  RowStandsIn i = (j : ℕ) → StandsIn set i j (owned_of (block_of rs i j))

  pub row_stands-item : (i : ℕ) (r : BlockRow) → i < length rs → r ≡ get_or rs i r
      → ((j : ℕ) → StandsIn set i j (owned_of (block_in r j))) → RowStandsIn i
  row_stands-item i r lt is all j = subst (λ o. StandsIn set i j (owned_of o)) (sym (block_of-item rs i r lt is j)) (all j)

  pub item-row_stands : (i : ℕ) (r : BlockRow) → i < length rs → r ≡ get_or rs i r → RowStandsIn i
      → (j : ℕ) → StandsIn set i j (owned_of (block_in r j))
  item-row_stands i r lt is all j = subst (λ o. StandsIn set i j (owned_of o)) (block_of-item rs i r lt is j) (all j)

  pub rows_stand-done : (n : ℕ) → length rs ≤ n → ((i : ℕ) → i < n → RowStandsIn i) → IsOnlyAt set (owned (held_in_list rs))
  rows_stand-done n all before q some = by_test (nat_lt q.array n) refl
    where
      back : 256 * (q.index / 256) + q.index % 256 ≡ q.index
      back = omega arith

      by_test : (t : Bool) → nat_lt q.array n ≡ t → set q ≡ true
      by_test true e =
          ap (λ (i : ℕ). set (record { array = q.array; index = i })) (sym back)
          ∙ before q.array (ltb-true _ _ e) (q.index / 256) (q.index % 256) some
      by_test false e =
          let ge : n ≤ q.array = search rules in
          absurd (some (ap (λ o. owned_of o (q.index % 256)) (block_of-past rs q.array (q.index / 256) (omega (arith, ge, all)))))

  pub places-row_stands : (i : ℕ) → IsOnlyAt set (owned (held_in_list rs)) → RowStandsIn i
  places-row_stands i lies j k some = by_place (nat_lt k 256) refl
    where
      here : k < 256 → set (place_at i j k) ≡ true
      here lt =
          let n : ℕ = 256 * j + k in
          let block : n / 256 ≡ j = omega (arith, lt) in
          let offset : n % 256 ≡ k = omega (arith, lt) in
          lies (place_at i j k) (λ none. some
          (sym (ap (λ m. owned_of (block_of rs i m) (n % 256)) block ∙ ap (λ m. owned_of (block_of rs i j) m) offset) ∙ none))

      by_place : (t : Bool) → nat_lt k 256 ≡ t → set (place_at i j k) ≡ true
      by_place true e = here (ltb-true _ _ e)
      by_place false e =
          let le : 256 ≤ k = search rules in
          absurd (some (ap owned_number (held_behind (block_of rs i j) k le)))
