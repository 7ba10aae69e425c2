-- What is held of a row whose elements have kinds of their own.
use Rattle.std.proofs.Common.{◌≡◌, ℕ, ◌+◌, ◌-◌, ◌<◌, ◌≤◌, List, [], ◌∷◌, ◌++◌, length, get_or, replicate, set}
use Rattle.std.proofs.Common.{Option, Some, None, Bool, true, false, refl, sym, ap, ◌∙◌, arith, ◌⊎◌, inl, inr}
use Rattle.std.proofs.Common.{w64, of_z, to_z, FitsSigned}
use Rattle.std.proofs.lemmas.Int.{to_z-of_z}
use Rattle.std.proofs.lemmas.Bool.{cases_lt, eqb-true, eqb-false}
use Rattle.std.proofs.lemmas.Grind.{get_or-set_at}
use Rattle.std.proofs.lemmas.List.{get_or_append_left, get_or-append_right, get_or-replicate, get_or-set_other}
use Rattle.std.proofs.lemmas.List.{length-append, length-replicate, length-set}
use Rattle.std.proofs.Math.ListN.{get_or-append}
use Rattle.std.proofs.Math.Seq.{get_or-append_seam}
use Rattle.std.specs.Prelude.{ℤ, pos, nat_eq, option_map, if◌then◌else◌}
use borrow.Rule.Slice.PartMut.{put_mid}
use Rattle.blocks.proofs.RowLemmas.{get_or-mid_before, get_or-mid_behind, get_or-mid_in, length-mid}
use Rattle.blocks.proofs.RowLemmas.{row_from-before, row_from-behind, row_from-cases, row_from-in, row_from-push, row_from-set, row_from-there}
use Rattle.blocks.proofs.WalkLemmas.{in_range-cases}
use Rattle.blocks.specs.Numbers.{row_from}
use Rattle.blocks.specs.declared.kind.HeldAs.{HeldAs}
use Rattle.blocks.specs.declared.kind.HeldAs.TheVariants.{Absent, Own, Copied}
use Rattle.blocks.specs.Blocks.{held_as}
use Rattle.blocks.specs.Held.{Held, Owned, first_of}
use Rattle.blocks.specs.Offsets.{in_range}

-- what is held of a row whose elements have kinds of their own
abbrev pub held_row : (first : ℕ) → List HeldAs → List ℤ → ℕ → Option Held
held_row first kinds xs k = held_as (get_or kinds (k - first) Absent) (row_from first xs k)

held_as-none : (kind : HeldAs) → held_as kind None ≡ None
held_as-none Absent = refl
held_as-none Own = refl
held_as-none Copied = refl

-- nothing is held where there is no element
pub held_row-none : (first : ℕ) (kinds : List HeldAs) (xs : List ℤ) (k : ℕ) → row_from first xs k ≡ None → held_row first kinds xs k ≡ None
held_row-none first kinds xs k e =
    ap (held_as (get_or kinds (k - first) Absent)) e ∙ held_as-none (get_or kinds (k - first) Absent)

get_or-other : (kinds : List HeldAs) (i j : ℕ) (kind : HeldAs) → (j ≡ i → ⊥) → get_or (set kinds i kind) j Absent ≡ get_or kinds j Absent
get_or-other kinds i j kind ne = get_or-set_other kinds i j kind Absent ne

-- a kind written
pub held_row-kind : (first : ℕ) (kinds : List HeldAs) (xs : List ℤ) (o : ℕ) (kind : HeldAs) → length kinds ≡ length xs
    → first ≤ o → o < first + length xs → (k : ℕ)
    → held_row first (set kinds (o - first) kind) xs k ≡ (if nat_eq o k then held_as kind (row_from first xs k) else held_row first kinds xs k)
held_row-kind first kinds xs o kind same low high k = by_eq (nat_eq o k) refl
  where
    by_eq : (b : Bool) → nat_eq o k ≡ b
        → held_row first (set kinds (o - first) kind) xs k ≡ (if b then held_as kind (row_from first xs k) else held_row first kinds xs k)
    by_eq true e =
        let is : o ≡ k = eqb-true _ _ e in
        ap (λ d. held_as d (row_from first xs k)) (get_or-set_at kinds (o - first) (k - first) kind Absent (omega arith) (omega arith))
    by_eq false e =
        let ne : o ≡ k → ⊥ = eqb-false _ _ e in
        elim (row_from-cases first xs k (pos 0)) [
          | inl w ↦ (let other : (k - first ≡ o - first → ⊥) = omega arith in
              ap (λ d. held_as d (row_from first xs k)) (get_or-other kinds (o - first) (k - first) kind other))
          | inr w ↦ held_row-none first (set kinds (o - first) kind) xs k w.1 ∙ sym (held_row-none first kinds xs k w.1)
        ]

-- a number written, and its kind
held_row-written : (first : ℕ) (kinds : List HeldAs) (xs : List ℤ) (o : ℕ) (kind : HeldAs) (v : ℤ)
    → length kinds ≡ length xs → first ≤ o → o < first + length xs → (k : ℕ)
    → held_row first (set kinds (o - first) kind) (set xs (o - first) v) k
    ≡ (if nat_eq o k then held_as kind (Some v) else held_row first kinds xs k)
held_row-written first kinds xs o kind v same low high k =
    let long : length kinds ≡ length (set xs (o - first) v) = simp length-set same in
    let lt : o < first + length (set xs (o - first) v) = simp length-set (omega arith) in
    held_row-kind first kinds (set xs (o - first) v) o kind long low lt k ∙ by_eq (nat_eq o k) refl
  where
    by_eq : (b : Bool) → nat_eq o k ≡ b
        → (if b then held_as kind (row_from first (set xs (o - first) v) k)
        else held_row first kinds (set xs (o - first) v) k)
        ≡ (if b then held_as kind (Some v) else held_row first kinds xs k)
    by_eq true e = ap (held_as kind)
        (row_from-set first xs o v low high k ∙ ap (λ b. if b then Some v else row_from first xs k) e)
    by_eq false e = ap (held_as (get_or kinds (k - first) Absent))
        (row_from-set first xs o v low high k ∙ ap (λ b. if b then Some v else row_from first xs k) e)

-- a machine integer written, and its kind
pub held_row-put : (first : ℕ) (kinds : List HeldAs) (xs : List ℤ) (o : ℕ) (kind : HeldAs) (v : ℤ)
    → length kinds ≡ length xs → (row_from first xs o ≡ None → ⊥) → FitsSigned w64 v → (k : ℕ)
    → held_row first (set kinds (o - first) kind) (set xs (o - first) (to_z w64 (of_z w64 v))) k
    ≡ (if nat_eq o k then held_as kind (Some v) else held_row first kinds xs k)
held_row-put first kinds xs o kind v same there fits k =
    let w = row_from-there first xs o there in
    ap (λ x. held_row first (set kinds (o - first) kind) (set xs (o - first) x) k) (to_z-of_z w64 v fits)
    ∙ held_row-written first kinds xs o kind v same w.0 w.1 k

-- one more number and its kind
pub held_row-push : (first : ℕ) (kinds : List HeldAs) (xs : List ℤ) (kind : HeldAs) (v : ℤ) (o : ℕ) → length kinds ≡ length xs
    → first + length xs ≡ o → (k : ℕ)
    → held_row first (kinds ++ kind ∷ []) (xs ++ v ∷ []) k ≡ (if nat_eq o k then held_as kind (Some v) else held_row first kinds xs k)
held_row-push first kinds xs kind v o same at k =
    ap (held_as (get_or (kinds ++ kind ∷ []) (k - first) Absent)) (row_from-push first xs v o at k) ∙ by_eq (nat_eq o k) refl
  where
    by_eq : (b : Bool) → nat_eq o k ≡ b
        → held_as (get_or (kinds ++ kind ∷ []) (k - first) Absent) (if b then Some v else row_from first xs k)
        ≡ (if b then held_as kind (Some v) else held_row first kinds xs k)
    by_eq true e =
        let is : o ≡ k = eqb-true _ _ e in
        let i : k - first ≡ length kinds = omega arith in
        ap (λ j. held_as (get_or (kinds ++ kind ∷ []) j Absent) (Some v)) i
        ∙ ap (λ d. held_as d (Some v)) (get_or-append_seam kinds kind [] Absent)
    by_eq false e =
        let ne : o ≡ k → ⊥ = eqb-false _ _ e in
        elim (row_from-cases first xs k (pos 0)) [
          | inl w ↦ ap (λ d. held_as d (row_from first xs k)) (get_or-append kinds (kind ∷ []) Absent (k - first) (omega (arith, w.0, w.1, same)))
          | inr w ↦ ap (held_as (get_or (kinds ++ kind ∷ []) (k - first) Absent)) w.1
              ∙ held_as-none (get_or (kinds ++ kind ∷ []) (k - first) Absent) ∙ sym (held_row-none first kinds xs k w.1)
        ]

-- room for one more number
pub held_row-room : (first : ℕ) (kinds : List HeldAs) (xs : List ℤ) (v : ℤ) → length kinds ≡ length xs → (k : ℕ)
    → held_row first (kinds ++ Absent ∷ []) (xs ++ v ∷ []) k ≡ held_row first kinds xs k
held_row-room first kinds xs v same k =
    held_row-push first kinds xs Absent v (first + length xs) same refl k ∙ by_eq (nat_eq (first + length xs) k) refl
  where
    by_eq : (b : Bool) → nat_eq (first + length xs) k ≡ b → (if b then None else held_row first kinds xs k) ≡ held_row first kinds xs k
    by_eq false e = refl
    by_eq true e =
        let is : first + length xs ≡ k = eqb-true _ _ e in
        sym (held_row-none first kinds xs k (row_from-behind first xs k (omega (arith, is))))

-- all numbers are of one kind
pub held_row-alike : (first : ℕ) (kind : HeldAs) (xs : List ℤ) (k : ℕ)
    → held_row first (replicate (length xs) kind) xs k ≡ held_as kind (row_from first xs k)
held_row-alike first kind xs k = elim (row_from-cases first xs k (pos 0)) [
  | inl w ↦ ap (λ d. held_as d (row_from first xs k)) (get_or-replicate (length xs) (k - first) kind Absent (omega (arith, w.0, w.1)))
  | inr w ↦ held_row-none first (replicate (length xs) kind) xs k w.1
      ∙ sym (ap (held_as kind) w.1 ∙ held_as-none kind)
]

-- room before the first number
pub held_row-front : (start count : ℕ) (zeros : List ℤ) (kinds : List HeldAs) (xs : List ℤ) → length zeros ≡ count
    → length kinds ≡ length xs → (k : ℕ)
    → held_row start (replicate count Absent ++ kinds) (zeros ++ xs) k ≡ held_row (start + count) kinds xs k
held_row-front start count zeros kinds xs long same k = elim (row_from-cases (start + count) xs k (pos 0)) [
  | inl w ↦ (let low : count ≤ k - start = omega (arith, w.0) in
      let lt : k < start + length (zeros ++ xs) = omega (arith, w.1, long, length-append zeros xs) in
      let at : k - start - count ≡ k - (start + count) = omega arith in
      ap (λ d. held_as d (row_from start (zeros ++ xs) k)) (kind_at low ∙ ap (λ i. get_or kinds i Absent) at)
      ∙ ap (held_as (get_or kinds (k - (start + count)) Absent))
      (row_from-in start (zeros ++ xs) k (pos 0) (omega (arith, w.0)) lt
      ∙ ap Some (number_at low ∙ ap (λ i. get_or xs i (pos 0)) at) ∙ sym w.2))
  | inr w ↦ none w.0 ∙ sym (held_row-none (start + count) kinds xs k w.1)
]
  where
    kind_at : count ≤ k - start → get_or (replicate count Absent ++ kinds) (k - start) Absent ≡ get_or kinds (k - start - count) Absent
    kind_at low =
        let l = length-replicate count Absent in
        get_or-append_right (replicate count Absent) kinds count (k - start) Absent l low

    number_at : count ≤ k - start → get_or (zeros ++ xs) (k - start) (pos 0) ≡ get_or xs (k - start - count) (pos 0)
    number_at low =
        get_or-append_right zeros xs count (k - start) (pos 0) long low

    absent : (k - start) < count → held_row start (replicate count Absent ++ kinds) (zeros ++ xs) k ≡ None
    absent lt =
        let l = length-replicate count Absent in
        ap (λ d. held_as d (row_from start (zeros ++ xs) k))
        (get_or_append_left (replicate count Absent) kinds Absent (k - start) (omega (arith, l, lt))
        ∙ get_or-replicate count (k - start) Absent Absent lt)

    by_start : (k < start) ⊎ (start ≤ k) → k < start + count → held_row start (replicate count Absent ++ kinds) (zeros ++ xs) k ≡ None
    by_start (inr le) lt = absent (omega (arith, le, lt))
    by_start (inl below) lt = held_row-none start (replicate count Absent ++ kinds) (zeros ++ xs) k (row_from-before start (zeros ++ xs) k below)

    none : (k < start + count) ⊎ (start + count + length xs ≤ k) → held_row start (replicate count Absent ++ kinds) (zeros ++ xs) k ≡ None
    none (inr ge) = held_row-none start (replicate count Absent ++ kinds) (zeros ++ xs) k
        (row_from-behind start (zeros ++ xs) k (omega (arith, ge, long, length-append zeros xs)))
    none (inl lt) = by_start (cases_lt k start) lt

-- ---- n kinds written, from an offset on

-- an offset beside them has the kind that it had
kind-beside : (first : ℕ) (kinds news : List HeldAs) (from n k : ℕ) → length news ≡ n → first ≤ from → from + n ≤ first + length kinds
    → first ≤ k → (k < from) ⊎ (from + n ≤ k)
    → get_or (put_mid (from - first) n kinds news) (k - first) Absent ≡ get_or kinds (k - first) Absent
kind-beside first kinds news from n k long low fits there (inl lt) =
    get_or-mid_before (from - first) n kinds news (k - first) Absent (omega (arith, low, fits)) (omega (arith, lt, low, there))
kind-beside first kinds news from n k long low fits there (inr le) =
    get_or-mid_behind (from - first) n kinds news (k - first) Absent long (omega (arith, low, fits)) (omega (arith, le, low, there))

-- each of them has the new kind
kind-among : (first : ℕ) (kinds : List HeldAs) (kind : HeldAs) (from n k : ℕ) → first ≤ from → from + n ≤ first + length kinds
    → from ≤ k → k < from + n → get_or (put_mid (from - first) n kinds (replicate n kind)) (k - first) Absent ≡ kind
kind-among first kinds kind from n k low fits le lt =
    get_or-mid_in (from - first) n kinds (replicate n kind) (k - first) Absent (length-replicate n kind) (omega (arith, low, fits))
    (omega (arith, low, le)) (omega (arith, low, le, lt))
    ∙ get_or-replicate n (k - first - (from - first)) kind Absent (omega (arith, low, le, lt))

-- nothing is held any more at the offsets of a range, of which those from `low` to `high` are in the row
pub held_row-cleared : (first : ℕ) (kinds : List HeldAs) (xs : List ℤ) (from to low n : ℕ) → length kinds ≡ length xs
    → first ≤ low → low + n ≤ first + length xs → from ≤ low → low + n ≤ to
    → ((k : ℕ) → first ≤ k → k < first + length xs → from ≤ k → k < to → (low ≤ k) × (k < low + n)) → (k : ℕ)
    → held_row first (put_mid (low - first) n kinds (replicate n Absent)) xs k
    ≡ (if in_range from to k then None else held_row first kinds xs k)
held_row-cleared first kinds xs from to low n same there fits begins ends among k = elim (row_from-cases first xs k (pos 0)) [
  | inl w ↦ (let has = row_from first xs k in elim (in_range-cases from to k) [
    | inl r ↦ (let at = among k w.0 w.1 r.1 r.2 in
        ap (λ d. held_as d has) (kind-among first kinds Absent low n k there (omega (arith, same, fits)) at.0 at.1)
        ∙ sym (ap (λ b. if b then None else held_row first kinds xs k) r.0))
    | inr r ↦ ap (λ d. held_as d has)
        (kind-beside first kinds (replicate n Absent) low n k (length-replicate n Absent) there (omega (arith, same, fits)) w.0 (beside r.1))
        ∙ sym (ap (λ b. if b then None else held_row first kinds xs k) r.0)
  ])
  | inr w ↦ held_row-none first (put_mid (low - first) n kinds (replicate n Absent)) xs k w.1
      ∙ sym (either (in_range from to k) (held_row-none first kinds xs k w.1))
]
  where
    beside : (k < from) ⊎ (to ≤ k) → (k < low) ⊎ (low + n ≤ k)
    beside (inl lt) = inl (omega (arith, lt, begins))
    beside (inr le) = inr (omega (arith, le, ends))

    either : (b : Bool) → held_row first kinds xs k ≡ None → (if b then None else held_row first kinds xs k) ≡ None
    either true e = refl
    either false e = e

-- a row of owned numbers written over a part of the row
module _ (first : ℕ) (kinds : List HeldAs) (xs : List ℤ) (from n : ℕ) (ys : List ℤ) (same : length kinds ≡ length xs)
    (many : length ys ≡ n) (low : first ≤ from) (fits : from + n ≤ first + length xs) where
  abbrev news : List ℤ
  news = put_mid (from - first) n xs ys

  abbrev owns : List HeldAs
  owns = put_mid (from - first) n kinds (replicate n Own)

  long : length news ≡ length xs
  long = length-mid (from - first) n xs ys many (omega (arith, low, fits))

  number-beside : (k : ℕ) → first ≤ k → (k < from) ⊎ (from + n ≤ k) → get_or news (k - first) (pos 0) ≡ get_or xs (k - first) (pos 0)
  number-beside k there (inl lt) =
      get_or-mid_before (from - first) n xs ys (k - first) (pos 0) (omega (arith, low, fits)) (omega (arith, lt, low, there))
  number-beside k there (inr le) =
      get_or-mid_behind (from - first) n xs ys (k - first) (pos 0) many (omega (arith, low, fits)) (omega (arith, le, low, there))

  outside : (k : ℕ) → (k < first) ⊎ (first + length xs ≤ k) → row_from first news k ≡ None
  outside k (inl lt) = row_from-before first news k lt
  outside k (inr le) = row_from-behind first news k (omega (arith, le, long))

  among : (k : ℕ) → from ≤ k → k < from + n → row_from first news k ≡ Some (get_or ys (k - from) (pos 0))
  among k le lt =
      row_from-in first news k (pos 0) (omega (arith, low, le)) (omega (arith, long, fits, lt))
      ∙ ap Some
      (get_or-mid_in (from - first) n xs ys (k - first) (pos 0) many (omega (arith, low, fits)) (omega (arith, low, le))
      (omega (arith, low, le, lt))
      ∙ ap (λ (j : ℕ). get_or ys j (pos 0)) (omega (arith, low, le)))

  beside : (k : ℕ) → (k < from) ⊎ (from + n ≤ k) → held_row first owns news k ≡ held_row first kinds xs k
  beside k out = elim (row_from-cases first xs k (pos 0)) [
    | inl v ↦ ap (λ d. held_as d (row_from first news k))
        (kind-beside first kinds (replicate n Own) from n k (length-replicate n Own) low (omega (arith, same, fits)) v.0 out)
        ∙ ap (held_as (get_or kinds (k - first) Absent))
        (row_from-in first news k (pos 0) v.0 (omega (arith, v.1, long)) ∙ ap Some (number-beside k v.0 out) ∙ sym v.2)
    | inr v ↦ held_row-none first owns news k (outside k v.0) ∙ sym (held_row-none first kinds xs k v.1)
  ]

  pub held_row-row : (k : ℕ) → held_row first owns news k ≡ first_of (option_map Owned (row_from from ys k)) (held_row first kinds xs k)
  held_row-row k = elim (row_from-cases from ys k (pos 0)) [
    | inl w ↦ ap (λ d. held_as d (row_from first news k))
        (kind-among first kinds Own from n k low (omega (arith, same, fits)) w.0 (omega (arith, w.1, many)))
        ∙ ap (held_as Own) (among k w.0 (omega (arith, w.1, many)))
        ∙ sym (ap (λ (o : Option ℤ). first_of (option_map Owned o) (held_row first kinds xs k)) w.2)
    | inr w ↦ beside k (apart w.0) ∙ sym (ap (λ (o : Option ℤ). first_of (option_map Owned o) (held_row first kinds xs k)) w.1)
  ]
    where
      apart : (k < from) ⊎ (from + length ys ≤ k) → (k < from) ⊎ (from + n ≤ k)
      apart (inl lt) = inl lt
      apart (inr le) = inr (omega (arith, le, many))
