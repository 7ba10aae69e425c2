-- Rows of elements that start at an offset.
use Rattle.std.proofs.Common.{◌≡◌, ℕ, ◌+◌, ◌-◌, ◌<◌, ◌≤◌, List, [], ◌∷◌, ◌++◌, length, get_or, set}
use Rattle.std.proofs.Common.{Option, Some, None, Bool, true, false, refl, sym, ap, ◌∙◌, arith, rules, ◌⊎◌, inl, inr}
use Rattle.std.proofs.lemmas.Bool.{eqb-true, eqb-false, leb-true, leb-false, ltb-true, le-leb, lt-leb}
use Rattle.std.proofs.lemmas.Grind.{common_steps, get_or-set_at}
use Rattle.std.proofs.lemmas.List.{get_or-append_right, get_or-drop, get_or-set_other, get_or-take, length-append, length-drop}
use Rattle.std.proofs.lemmas.List.{length-set, length-take-le}
use Rattle.std.proofs.Math.ListN.{get_or-append}
use Rattle.std.proofs.Math.Seq.{get_or-append_seam}
use Rattle.std.proofs.lemmas.Option.{slice_get_past, slice_get-get_or}
use Rattle.std.specs.Prelude.{◌&&◌, drop, nat_eq, nat_le, nat_lt, slice_get, slice_range, take, if◌then◌else◌}
use borrow.Rule.Slice.PartMut.{put_mid}
use Rattle.blocks.specs.Numbers.{row_from}
use Rattle.blocks.specs.Offsets.{inside}

-- an offset of a row
pub row_from-in : {A : Type 0} (first : ℕ) (xs : List A) (k : ℕ) (d : A) → first ≤ k → k < first + length xs
    → row_from first xs k ≡ Some (get_or xs (k - first) d)
row_from-in first xs k d low high =
    let lt : k - first < length xs = omega arith in
    ap (λ b. if b then slice_get xs (k - first) else None) (le-leb first k low) ∙ slice_get-get_or xs (k - first) d lt

-- an offset before the row
pub row_from-before : {A : Type 0} (first : ℕ) (xs : List A) (k : ℕ) → k < first → row_from first xs k ≡ None
row_from-before first xs k lt = ap (λ b. if b then slice_get xs (k - first) else None) (lt-leb first k lt)

-- an offset after the row
pub row_from-behind : {A : Type 0} (first : ℕ) (xs : List A) (k : ℕ) → first + length xs ≤ k → row_from first xs k ≡ None
row_from-behind first xs k le =
    either (nat_le first k) _ (slice_get_past xs (k - first) (omega arith))
  where
    either : {A : Type 0} (b : Bool) (x : Option A) → x ≡ None → (if b then x else None) ≡ None
    either true x e = e
    either false x e = refl

-- the offsets at which a row has something
pub row_from-there : {A : Type 0} (first : ℕ) (xs : List A) (k : ℕ) → (row_from first xs k ≡ None → ⊥)
    → (first ≤ k) × (k < first + length xs)
row_from-there first xs k some = (by_first (nat_le first k) refl, by_end (nat_lt k (first + length xs)) refl)
  where
    by_end : (b : Bool) → nat_lt k (first + length xs) ≡ b → k < first + length xs
    by_end true e = ltb-true _ _ e
    by_end false e = absurd (some (row_from-behind first xs k (search rules)))

    by_first : (b : Bool) → nat_le first k ≡ b → first ≤ k
    by_first true e = leb-true _ _ e
    by_first false e = absurd (some (row_from-before first xs k (leb-false _ _ e)))

-- an offset is in the row, or has no element
pub row_from-cases : {A : Type 0} (first : ℕ) (xs : List A) (k : ℕ) (d : A)
    → ((first ≤ k) × (k < first + length xs) × (row_from first xs k ≡ Some (get_or xs (k - first) d)))
    ⊎ (((k < first) ⊎ (first + length xs ≤ k)) × (row_from first xs k ≡ None))
row_from-cases first xs k d = by_first (nat_le first k) refl
  where
    by_end : first ≤ k → (b : Bool) → nat_lt k (first + length xs) ≡ b
        → ((first ≤ k) × (k < first + length xs) × (row_from first xs k ≡ Some (get_or xs (k - first) d)))
        ⊎ (((k < first) ⊎ (first + length xs ≤ k)) × (row_from first xs k ≡ None))
    by_end low true e = let lt = ltb-true _ _ e in inl (low, lt, row_from-in first xs k d low lt)
    by_end low false e = let le : first + length xs ≤ k = search rules in inr (inr le, row_from-behind first xs k le)

    by_first : (b : Bool) → nat_le first k ≡ b
        → ((first ≤ k) × (k < first + length xs) × (row_from first xs k ≡ Some (get_or xs (k - first) d)))
        ⊎ (((k < first) ⊎ (first + length xs ≤ k)) × (row_from first xs k ≡ None))
    by_first true e = by_end (leb-true _ _ e) (nat_lt k (first + length xs)) refl
    by_first false e = let lt = leb-false _ _ e in inr (inl lt, row_from-before first xs k lt)

-- one element written
pub row_from-set : {A : Type 0} (first : ℕ) (xs : List A) (o : ℕ) (v : A) → first ≤ o → o < first + length xs → (k : ℕ)
    → row_from first (set xs (o - first) v) k ≡ (if nat_eq o k then Some v else row_from first xs k)
row_from-set first xs o v low high k = by_eq (nat_eq o k) refl
  where
    by_eq : (b : Bool) → nat_eq o k ≡ b → row_from first (set xs (o - first) v) k ≡ (if b then Some v else row_from first xs k)
    by_eq true e =
        let is : o ≡ k = eqb-true _ _ e in
        let lt : k < first + length (set xs (o - first) v) = simp length-set (omega arith) in
        row_from-in first (set xs (o - first) v) k v (omega arith) lt
        ∙ ap Some (get_or-set_at xs (o - first) (k - first) v v (omega arith) (omega arith))
    by_eq false e =
        let ne : o ≡ k → ⊥ = eqb-false _ _ e in
        elim (row_from-cases first xs k v) [
          | inl w ↦ (let lt : k < first + length (set xs (o - first) v) = simp length-set (omega arith) in
              let other : (k - first ≡ o - first → ⊥) = omega arith in
              row_from-in first (set xs (o - first) v) k v w.0 lt
              ∙ ap Some (get_or-set_other xs (o - first) (k - first) v v other) ∙ sym w.2)
          | inr w ↦ elim w.0 [
            | inl lt ↦ row_from-before first (set xs (o - first) v) k lt ∙ sym w.1
            | inr le ↦ (let past : first + length (set xs (o - first) v) ≤ k = simp length-set (omega arith) in
                row_from-behind first (set xs (o - first) v) k past ∙ sym w.1)
          ]
        ]

-- one element added
pub row_from-push : {A : Type 0} (first : ℕ) (xs : List A) (x : A) (o : ℕ) → first + length xs ≡ o → (k : ℕ)
    → row_from first (xs ++ x ∷ []) k ≡ (if nat_eq o k then Some x else row_from first xs k)
row_from-push first xs x o at k = by_eq (nat_eq o k) refl
  where
    long : length (xs ++ x ∷ []) ≡ length xs + 1
    long = grind (arith, common_steps)

    by_eq : (b : Bool) → nat_eq o k ≡ b → row_from first (xs ++ x ∷ []) k ≡ (if b then Some x else row_from first xs k)
    by_eq true e =
        let is : o ≡ k = eqb-true _ _ e in
        let i : k - first ≡ length xs = omega arith in
        row_from-in first (xs ++ x ∷ []) k x (omega arith) (omega (arith, long))
        ∙ ap (λ j. Some (get_or (xs ++ x ∷ []) j x)) i ∙ ap Some (get_or-append_seam xs x [] x)
    by_eq false e =
        let ne : o ≡ k → ⊥ = eqb-false _ _ e in
        elim (row_from-cases first xs k x) [
          | inl w ↦ row_from-in first (xs ++ x ∷ []) k x w.0 (omega (arith, long, w.1))
              ∙ ap Some (get_or-append xs (x ∷ []) x (k - first) (omega (arith, w.0, w.1))) ∙ sym w.2
          | inr w ↦ elim w.0 [
            | inl lt ↦ row_from-before first (xs ++ x ∷ []) k lt ∙ sym w.1
            | inr le ↦ row_from-behind first (xs ++ x ∷ []) k (omega (arith, long, le, ne, at)) ∙ sym w.1
          ]
        ]

-- the number of elements of a range
pub length-range : {A : Type 0} (xs : List A) (a b : ℕ) → b ≤ length xs → length (slice_range xs a b) ≡ b - a
length-range xs a b le = length-take-le (b - a) (drop a xs) (omega (arith, le, length-drop a xs))

-- the elements at the offsets of a range
pub row_from-range : {A : Type 0} (first : ℕ) (xs : List A) (from to : ℕ) (d : A) → first ≤ from → from < to
    → to ≤ first + length xs → (k : ℕ)
    → row_from from (slice_range xs (from - first) (to - first)) k ≡ inside from to (row_from first xs) k
row_from-range first xs from to d low some high k = by_tests (nat_le from k) (nat_lt k to) refl refl
  where
    long : length (slice_range xs (from - first) (to - first)) ≡ to - first - (from - first)
    long = length-range xs (from - first) (to - first) (omega (arith, high))

    by_tests : (b c : Bool) → nat_le from k ≡ b → nat_lt k to ≡ c
        → row_from from (slice_range xs (from - first) (to - first)) k ≡ (if b && c then row_from first xs k else None)
    by_tests false c e f = row_from-before from (slice_range xs (from - first) (to - first)) k (leb-false _ _ e)
    by_tests true false e f =
        let past : to ≤ k = search rules in
        row_from-behind from (slice_range xs (from - first) (to - first)) k (omega (arith, long, past, low, some))
    by_tests true true e f =
        let le = leb-true _ _ e in let lt = ltb-true _ _ f in
        row_from-in from (slice_range xs (from - first) (to - first)) k d le (omega (arith, long, lt, low, some))
        ∙ ap Some (get_or-take (to - first - (from - first)) (drop (from - first) xs) (k - from) d (omega (arith, le, lt, low))
        ∙ get_or-drop (from - first) xs (k - from) d
        ∙ ap (λ (j : ℕ). get_or xs j d) (omega (arith, le, low)))
        ∙ sym (row_from-in first xs k d (omega (arith, le, low)) (omega (arith, lt, high)))

-- ---- n elements of a list written, from an index on

pub length-mid : {A : Type 0} (at n : ℕ) (xs ys : List A) → length ys ≡ n → at + n ≤ length xs → length (put_mid at n xs ys) ≡ length xs
length-mid at n xs ys long fits =
    let whole = length-append (take at xs) (ys ++ drop n (drop at xs)) in
    let part = length-append ys (drop n (drop at xs)) in
    let front = length-take-le at xs (omega (arith, fits)) in
    omega (arith, whole, part, front, length-drop n (drop at xs), length-drop at xs, long, fits)

pub get_or-mid_before : {A : Type 0} (at n : ℕ) (xs ys : List A) (i : ℕ) (d : A) → at + n ≤ length xs → i < at
    → get_or (put_mid at n xs ys) i d ≡ get_or xs i d
get_or-mid_before at n xs ys i d fits lt =
    let front = length-take-le at xs (omega (arith, fits)) in
    get_or-append (take at xs) (ys ++ drop n (drop at xs)) d i (omega (arith, front, lt)) ∙ get_or-take at xs i d lt

pub get_or-mid_in : {A : Type 0} (at n : ℕ) (xs ys : List A) (i : ℕ) (d : A) → length ys ≡ n → at + n ≤ length xs → at ≤ i → i < at + n
    → get_or (put_mid at n xs ys) i d ≡ get_or ys (i - at) d
get_or-mid_in at n xs ys i d long fits low high =
    let front = length-take-le at xs (omega (arith, fits)) in
    get_or-append_right (take at xs) (ys ++ drop n (drop at xs)) at i d front low
    ∙ get_or-append ys (drop n (drop at xs)) d (i - at) (omega (arith, low, high, long))

pub get_or-mid_behind : {A : Type 0} (at n : ℕ) (xs ys : List A) (i : ℕ) (d : A) → length ys ≡ n → at + n ≤ length xs → at + n ≤ i
    → get_or (put_mid at n xs ys) i d ≡ get_or xs i d
get_or-mid_behind at n xs ys i d long fits le =
    let front = length-take-le at xs (omega (arith, fits)) in
    get_or-append_right (take at xs) (ys ++ drop n (drop at xs)) at i d front (omega (arith, le))
    ∙ get_or-append_right ys (drop n (drop at xs)) n (i - at) d long (omega (arith, le))
    ∙ get_or-drop n (drop at xs) (i - at - n) d
    ∙ get_or-drop at xs (n + (i - at - n)) d
    ∙ ap (λ (j : ℕ). get_or xs j d) (omega (arith, le))
