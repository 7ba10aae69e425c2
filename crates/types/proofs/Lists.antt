-- Contents and environments as lists.
use Rattle.std.proofs.Common.{◌≡◌, ℕ, zero, suc, ◌+◌, ◌<◌, List, [], ◌∷◌, ◌++◌, length, Some, refl, sym}
use Rattle.std.proofs.Common.{ap, ◌∙◌, arith}
use Rattle.std.proofs.lemmas.Bool.{eqb-true, eqb-false}
use Rattle.std.proofs.lemmas.Option.{unwrap_or-slice_get, none-some, same_Some}
use Rattle.std.proofs.lemmas.List.{get_or-set_same, get_or-set_other}
use Rattle.std.specs.Prelude.{ℤ, pos, Bool, true, false, ◌&&◌, nat_eq, slice_get, slice_index_or, slice_set, replicate, if◌then◌else◌}
use Rattle.types.specs.Code.{Array}
use Rattle.sections.specs.Place.{Place, nowhere}
use Rattle.types.specs.Contents.{Contents, read, write, held_by, row, rows, shown, FitsArrays, no_more, also}
use Rattle.types.specs.Run.{bind, by_number}
use Rattle.types.specs.Outcome.{whole_arrays}

row_is : (c : Contents) (a at : ℕ) (xs : List ℤ)
    → ((k : ℕ) → read c (record { array = a; index = at + k }) ≡ slice_index_or xs k (pos 0)) → row c a at (length xs) ≡ xs
row_is c a at [] h = refl
row_is c a at (x ∷ xs) h =
    let here : at + 0 ≡ at = omega arith in
    let first : read c (record { array = a; index = at }) ≡ x = ap (λ k. read c (record { array = a; index = k })) (sym here) ∙ h 0 in
    let rest = row_is c a (at + 1) xs
    (λ k. let e : at + 1 + k ≡ at + suc k = omega arith in ap (λ k. read c (record { array = a; index = k })) e ∙ h (suc k)) in
    ap (λ y. y ∷ row c a (at + 1) (length xs)) first ∙ ap (λ ys. x ∷ ys) rest

rows_are : (c : Contents) (a : ℕ) (arrays : List Array) (lists : List (List ℤ)) → FitsArrays arrays lists
    → ((j k : ℕ) → read c (record { array = a + j; index = k }) ≡ slice_index_or (slice_index_or lists j []) k (pos 0))
    → rows c a arrays ≡ lists
rows_are c a [] [] no_more h = refl
rows_are c a [] (l ∷ ls) fits h = elim fits [ ]
rows_are c a (x ∷ xs) [] fits h = elim fits [ ]
rows_are c a (x ∷ xs) (l ∷ ls) (also e fits) h =
    let here : a + 0 ≡ a = omega arith in
    let first : row c a 0 x.length ≡ l =
    ap (row c a 0) (sym e)
    ∙ row_is c a 0 l (λ k. let z : 0 + k ≡ k = omega arith in ap (λ k. read c (record { array = a; index = k })) z
    ∙ ap (λ b. read c (record { array = b; index = k })) (sym here) ∙ h 0 k) in
    let rest = rows_are c (a + 1) xs ls fits
    (λ j k. let e : a + 1 + j ≡ a + suc j = omega arith in ap (λ b. read c (record { array = b; index = k })) e ∙ h (suc j) k) in
    ap (λ y. y ∷ rows c (a + 1) xs) first ∙ ap (λ ys. l ∷ ys) rest

-- lists that fit the arrays are the lists of their contents
pub shown-held_by : (arrays : List Array) (lists : List (List ℤ)) → FitsArrays arrays lists → shown arrays (held_by lists) ≡ lists
shown-held_by arrays lists fits =
    rows_are (held_by lists) 0 arrays lists fits (λ j k. let z : 0 + j ≡ j = omega arith in
    unwrap_or-slice_get (slice_index_or lists (0 + j) []) k (pos 0) ∙ ap (λ j. slice_index_or (slice_index_or lists j []) k (pos 0)) z)

-- a list after a write, by number
set_by_number : {A : Type 0} (d : A) (xs : List A) (i : ℕ) (v : A) → i < length xs → (k : ℕ)
    → slice_index_or (slice_set xs i v) k d ≡ bind i v (by_number d xs) k
set_by_number d xs i v lt k = by_test (nat_eq i k) refl
  where
    by_test : (b : Bool) → nat_eq i k ≡ b → slice_index_or (slice_set xs i v) k d ≡ (if b then v else slice_index_or xs k d)
    by_test true e = ap (λ k. slice_index_or (slice_set xs i v) k d) (sym (eqb-true i k e)) ∙ get_or-set_same xs i v d lt
    by_test false e = get_or-set_other xs i k v d (λ same. eqb-false i k e (sym same))

-- a write to a slot of a list is a write to that slot
pub by_number-slice_set : {A : Type 0} (d : A) (xs : List A) (i : ℕ) (v : A) → i < length xs
    → by_number d (slice_set xs i v) ≡ bind i v (by_number d xs)
by_number-slice_set d xs i v lt = λ t k. set_by_number d xs i v lt k t

get_same : {A : Type 0} (xs : List A) (i : ℕ) (v : A) → i < length xs → slice_get (slice_set xs i v) i ≡ Some v
get_same [] i v lt = absurd (omega (arith, lt))
get_same (x ∷ xs) zero v lt = refl
get_same (x ∷ xs) (suc i) v lt = get_same xs i v (omega (arith, lt))

get_other : {A : Type 0} (xs : List A) (i k : ℕ) (v : A) → (i ≡ k → ⊥) → slice_get (slice_set xs i v) k ≡ slice_get xs k
get_other [] i k v ne = refl
get_other (x ∷ xs) zero zero v ne = absurd (ne refl)
get_other (x ∷ xs) zero (suc k) v ne = refl
get_other (x ∷ xs) (suc i) zero v ne = refl
get_other (x ∷ xs) (suc i) (suc k) v ne = get_other xs i k v (λ e. ne (ap suc e))

-- an array that has an element exists
array_is_there : (lists : List (List ℤ)) (a i : ℕ) → i < length (slice_index_or lists a []) → a < length lists
array_is_there [] a i lt = absurd (omega (arith, lt))
array_is_there (l ∷ ls) zero i lt = omega arith
array_is_there (l ∷ ls) (suc a) i lt = let h = array_is_there ls a i lt in omega (arith, h)

-- a write to an element of a list is a write to its place
pub held_by-slice_set : (lists : List (List ℤ)) (a i : ℕ) (v : ℤ) → i < length (slice_index_or lists a [])
    → held_by (slice_set lists a (slice_set (slice_index_or lists a []) i v)) ≡ write (record { array = a; index = i }) v (held_by lists)
held_by-slice_set lists a i v lt = λ t q. by_array q (nat_eq a q.array) refl t
  where
    new : List ℤ
    new = slice_set (slice_index_or lists a []) i v

    there : a < length lists
    there = array_is_there lists a i lt

    by_index : (k : ℕ) (b : Bool) → nat_eq i k ≡ b → slice_get new k ≡ (if b then Some v else slice_get (slice_index_or lists a []) k)
    by_index k true e = ap (slice_get new) (sym (eqb-true i k e)) ∙ get_same (slice_index_or lists a []) i v lt
    by_index k false e = get_other (slice_index_or lists a []) i k v (eqb-false i k e)

    by_array : (q : Place) (b : Bool) → nat_eq a q.array ≡ b
        → held_by (slice_set lists a new) q ≡ (if b && nat_eq i q.index then Some v else held_by lists q)
    by_array q true e =
        let same : a ≡ q.array = eqb-true a q.array e in
        ap (λ b. slice_get (slice_index_or (slice_set lists a new) b []) q.index) (sym same)
        ∙ ap (λ l. slice_get l q.index) (get_or-set_same lists a new [] there)
        ∙ by_index q.index (nat_eq i q.index) refl
        ∙ ap (λ b. if nat_eq i q.index then Some v else slice_get (slice_index_or lists b []) q.index) same
    by_array q false e = ap (λ l. slice_get l q.index) (get_or-set_other lists a q.array new [] (λ same. eqb-false a q.array e (sym same)))

default_there : {A : Type 0} (d : A) (n k : ℕ) → slice_index_or (replicate n d) k d ≡ d
default_there d zero k = refl
default_there d (suc n) zero = refl
default_there d (suc n) (suc k) = default_there d n k

padded_by_number : {A : Type 0} (d : A) (xs : List A) (n k : ℕ) → slice_index_or (xs ++ replicate n d) k d ≡ slice_index_or xs k d
padded_by_number d [] n k = default_there d n k
padded_by_number d (x ∷ xs) n zero = refl
padded_by_number d (x ∷ xs) n (suc k) = padded_by_number d xs n k

-- slots with the default value after those of a list change nothing
pub by_number-append-replicate : {A : Type 0} (d : A) (xs : List A) (n : ℕ) → by_number d (xs ++ replicate n d) ≡ by_number d xs
by_number-append-replicate d xs n = λ t k. padded_by_number d xs n k t

-- the windows of all arrays, by number
whole_by_number : (n : ℕ) (arrays : List Array) (k : ℕ) (x : Array) → slice_get arrays k ≡ Some x
    → by_number nowhere (whole_arrays n arrays) k ≡ record { array = n + k; at = 0; length = x.length }
whole_by_number n [] k x e = absurd (none-some x e)
whole_by_number n (y ∷ ys) zero x e =
    let here : n ≡ n + 0 = omega arith in
    ap (λ (z : Array). record { array = n; at = 0; length = z.length }) (same_Some _ _ e)
    ∙ ap (λ m. record { array = m; at = 0; length = x.length }) here
whole_by_number n (y ∷ ys) (suc k) x e =
    let there : n + 1 + k ≡ n + suc k = omega arith in
    whole_by_number (n + 1) ys k x e ∙ ap (λ m. record { array = m; at = 0; length = x.length }) there

-- the first sections of `main` are the arrays
pub whole_array-by_number : (arrays : List Array) (k : ℕ) (x : Array) → slice_get arrays k ≡ Some x
    → by_number nowhere (whole_arrays 0 arrays) k ≡ record { array = k; at = 0; length = x.length }
whole_array-by_number arrays k x e =
    let z : 0 + k ≡ k = omega arith in whole_by_number 0 arrays k x e ∙ ap (λ m. record { array = m; at = 0; length = x.length }) z
