-- Windows stay in their arrays.
use Rattle.std.proofs.Common.{◌≡◌, ℕ, zero, suc, ◌+◌, ◌-◌, ◌*◌, min, ◌<◌, ◌≤◌, List, [], ◌∷◌, length, Ok, Err, Some, None, refl, sym, ap, ◌∙◌, subst, arith}
use Rattle.std.proofs.lemmas.Bool.{leb-true, ltb-true}
use Rattle.std.specs.Prelude.{ℤ, pos, negsuc, Bool, true, false, map, nat_eq, nat_le, nat_lt, slice_index_or, ok_or, if◌then◌else◌}
use Rattle.types.specs.declared.fault.FaultKind.TheVariants.{Index, SplitPoint}
use Rattle.types.specs.Code.{Array, Number, Primitive, Skip, Assign, Store as StoreTo, Print, Raise, Program}
use Rattle.types.specs.Contents.{FitsArrays, no_more, also}
use Rattle.types.specs.Outcome.{whole_arrays}
use Rattle.sections.specs.Place.{Place, Window, nowhere, piece_of, sides_of}
use Rattle.sections.proofs.Pieces.{is_piece}
use Rattle.types.specs.Run.{State, array_of, no_array, bind, entry, with_piece, with_sides, number_at}
use Rattle.types.specs.Value.{Environment, Valued, then_try, element_of, holds_number}
use Rattle.statement_steps.specs.declared.store.Store.{Store}
use Rattle.statement_steps.specs.declared.thread.Thread.{Thread}
use Rattle.statement_steps.specs.Bounds.{LiesInArray, LiesInArrays, HasPlace, IsInBounds}
use Rattle.statement_steps.specs.Standing.{KeepsTask, state_of}
use Rattle.statement_steps.specs.Lists.{lengths_of, lists_of}
use Rattle.statement_steps.specs.Primitive.{CanStore, fitting, halves, target}
use Rattle.statement_steps.proofs.Ends.{fits_too}

-- a list that represents an array has its length
pub length-row : (arrays : List Array) (lists : List (List ℤ)) → FitsArrays arrays lists
    → (a : ℕ) → length (slice_index_or lists a []) ≡ (slice_index_or arrays a no_array).length
length-row [] [] no_more a = refl
length-row [] (l ∷ ls) fits a = elim fits [ ]
length-row (x ∷ xs) [] fits a = elim fits [ ]
length-row (x ∷ xs) (l ∷ ls) (also e fits) zero = e
length-row (x ∷ xs) (l ∷ ls) (also e fits) (suc a) = length-row xs ls fits a

module _ (p : Program) where
  nowhere_lies : LiesInArray p nowhere
  nowhere_lies k lt = absurd (omega (arith, lt))

  some_sides_lie : (w : Window) (n : ℕ) (b : Bool) (ws : Window × Window) → nat_le n w.length ≡ b → LiesInArray p w
      → Ok ws ≡ ok_or (if b then Some (record w { length = n }, record w { at = w.at + n; length = w.length - n }) else None) SplitPoint
      → LiesInArray p ws.0 × LiesInArray p ws.1
  some_sides_lie w n true ws enough lies e =
      let is : ws ≡ (record w { length = n }, record w { at = w.at + n; length = w.length - n }) = cc in
      let long : n ≤ w.length = leb-true n w.length enough in
      subst (λ (v : Window × Window). LiesInArray p v.0 × LiesInArray p v.1) (sym is)
      ((λ k lt. lies k (omega (arith, lt, long))), λ k lt. omega (arith, lies (n + k) (omega (arith, lt, long))))
  some_sides_lie w n false ws enough lies e = absurd (let bad : ⊥ = cc in bad)

  sides_lie : (w : Window) (v : ℤ) (ws : Window × Window) → LiesInArray p w → Ok ws ≡ ok_or (sides_of w v) SplitPoint
      → LiesInArray p ws.0 × LiesInArray p ws.1
  sides_lie w (negsuc n) ws lies e = absurd (let bad : ⊥ = cc in bad)
  sides_lie w (pos n) ws lies e = some_sides_lie w n (nat_le n w.length) ws refl lies e

  -- both sides of a section lie in the array of the section
  pub halves_lie : (st : State (Unit {0})) (s : ℕ) (e : Number) (ws : Window × Window) → LiesInArrays p st.environment
      → Ok ws ≡ halves st s e → LiesInArray p ws.0 × LiesInArray p ws.1
  halves_lie st s e ws lies is = by_value (number_at st e) is
    where
      by_value : (r : Valued ℤ) → Ok ws ≡ then_try r (λ v. ok_or (sides_of (st.environment.windows s) v) SplitPoint)
          → LiesInArray p ws.0 × LiesInArray p ws.1
      by_value (Ok v) is = sides_lie (st.environment.windows s) v ws (lies s) is
      by_value (Err f) is = absurd (let bad : ⊥ = cc in bad)

  bind_lies : (x : ℕ) (w : Window) (ws : ℕ → Window) → LiesInArray p w → ((s : ℕ) → LiesInArray p (ws s))
      → (s : ℕ) → LiesInArray p (bind x w ws s)
  bind_lies x w ws here others s = by_test (nat_eq x s)
    where
      by_test : (b : Bool) → LiesInArray p (if b then w else ws s)
      by_test true = here
      by_test false = others s

  -- an environment that names both sides
  pub with_sides_lies : (x y : ℕ) (ws : Window × Window) (env : Environment) → LiesInArray p ws.0 × LiesInArray p ws.1
      → LiesInArrays p env → LiesInArrays p (with_sides x y ws env)
  with_sides_lies x y ws env sides lies =
      bind_lies x ws.0 (bind y ws.1 env.windows) sides.0 (bind_lies y ws.1 env.windows sides.1 lies)

  -- a piece of a section lies in the array of the section
  pub piece_lies : (w v : Window) (n k : ℕ) → LiesInArray p w → piece_of w n k ≡ Some v → LiesInArray p v
  piece_lies w v n k lies h =
      let piece = is_piece w v n k h in
      let starts : n * k < w.length = piece.starts in
      subst (LiesInArray p) (sym piece.is) (λ j lt.
      let inside : j < min n (w.length - n * k) = lt in
      omega (arith, lies (n * k + j) (omega (arith, inside, starts))))

  -- an environment that names a piece
  pub with_piece_lies : (x i : ℕ) (v : Window) (k : ℕ) (env : Environment) → LiesInArray p v → LiesInArrays p env
      → LiesInArrays p (with_piece x i v k env)
  with_piece_lies x i v k env here others = bind_lies x v env.windows here others

  -- the environment in which a procedure starts, on sections of its caller
  pub entry_lies : (values : List ℤ) (env : Environment) (ss : List ℕ) → LiesInArrays p env
      → LiesInArrays p (entry values (map env.windows ss))
  entry_lies values env ss lies = listed ss
    where
      listed : (ss : List ℕ) (s : ℕ) → LiesInArray p (slice_index_or (map env.windows ss) s nowhere)
      listed [] s = nowhere_lies
      listed (x ∷ ss) zero = lies x
      listed (x ∷ ss) (suc s) = listed ss s

  whole_lies : (a : ℕ) (xs : List Array) → ((s : ℕ) → (slice_index_or xs s no_array).length ≤ (array_of p (a + s)).length)
      → (s : ℕ) → LiesInArray p (slice_index_or (whole_arrays a xs) s nowhere)
  whole_lies a [] h s = nowhere_lies
  whole_lies a (x ∷ xs) h zero =
      let same : a + 0 ≡ a = omega arith in
      λ k lt. omega (arith, lt, h zero, ap (λ i. (array_of p i).length) same)
  whole_lies a (x ∷ xs) h (suc s) =
      whole_lies (a + 1) xs (λ j. let same : a + 1 + j ≡ a + suc j = omega arith in
      omega (arith, h (suc j), ap (λ i. (array_of p i).length) same)) s

  -- the environment of `main`
  pub main_lies : LiesInArrays p (entry [] (whole_arrays 0 p.arrays))
  main_lies = whole_lies 0 p.arrays (λ s. let same : 0 + s ≡ s = omega arith in omega (arith, ap (λ i. (array_of p i).length) same))

  some_element_lies : (w : Window) (i : ℕ) (b : Bool) (q : Place) → nat_lt i w.length ≡ b → LiesInArray p w
      → Ok q ≡ ok_or (if b then Some (record { array = w.array; index = w.at + i }) else None) Index
      → q.index < (array_of p q.array).length
  some_element_lies w i true q inside lies e =
      let is : q ≡ record { array = w.array; index = w.at + i } = cc in
      subst (λ (q : Place). q.index < (array_of p q.array).length) (sym is) (lies i (ltb-true i w.length inside))
  some_element_lies w i false q inside lies e = absurd (let bad : ⊥ = cc in bad)

  element_lies : (w : Window) (v : ℤ) (q : Place) → LiesInArray p w → Ok q ≡ element_of w v → q.index < (array_of p q.array).length
  element_lies w (negsuc n) q lies e = absurd (let bad : ⊥ = cc in bad)
  element_lies w (pos i) q lies e = some_element_lies w i (nat_lt i w.length) q refl lies e

  -- a store writes to an element of its section
  pub target_of : (st : State (Unit {0})) (s : ℕ) (i e : Number) (q : Place) (v : ℤ) → Ok (q, v) ≡ target p st s i e
      → (at : ℤ) × (Ok q ≡ element_of (st.environment.windows s) at)
  target_of st s i e q v is = by_index (number_at st i) is
    where
      by_fit : (b : Bool) (r : Place) (x : ℤ) → Ok (q, v) ≡ fitting b r x → q ≡ r
      by_fit true r x is =
          let written : Place × ℤ = (q, v) in
          let given : Place × ℤ = (r, x) in
          let same : written ≡ given = cc in
          ap (λ (t : Place × ℤ). t.0) same
      by_fit false r x is = absurd (let bad : ⊥ = cc in bad)

      by_element : (at x : ℤ) (r : Valued Place) → r ≡ element_of (st.environment.windows s) at
          → Ok (q, v) ≡ then_try r (λ q. fitting (holds_number (array_of p q.array).element x) q x)
          → (at : ℤ) × (Ok q ≡ element_of (st.environment.windows s) at)
      by_element at x (Ok r) from is =
          let same = by_fit (holds_number (array_of p r.array).element x) r x is in
          (at, ap Ok same ∙ from)
      by_element at x (Err f) from is = absurd (let bad : ⊥ = cc in bad)

      by_number : (at : ℤ) (r : Valued ℤ) → Ok (q, v) ≡ then_try r (λ x. then_try (element_of (st.environment.windows s) at)
          (λ q. fitting (holds_number (array_of p q.array).element x) q x))
          → (at : ℤ) × (Ok q ≡ element_of (st.environment.windows s) at)
      by_number at (Ok x) is = by_element at x (element_of (st.environment.windows s) at) refl is
      by_number at (Err f) is = absurd (let bad : ⊥ = cc in bad)

      by_index : (r : Valued ℤ) → Ok (q, v) ≡ then_try r (λ at. then_try (number_at st e) (λ x.
          then_try (element_of (st.environment.windows s) at)
          (λ q. fitting (holds_number (array_of p q.array).element x) q x)))
          → (at : ℤ) × (Ok q ≡ element_of (st.environment.windows s) at)
      by_index (Ok at) is = by_number at (number_at st e) is
      by_index (Err f) is = absurd (let bad : ⊥ = cc in bad)

  -- an array has each place that a store writes
  pub target_lies : (st : State (Unit {0})) (s : ℕ) (i e : Number) (q : Place) (v : ℤ) → LiesInArrays p st.environment
      → Ok (q, v) ≡ target p st s i e → q.index < (array_of p q.array).length
  target_lies st s i e q v lies is =
      let element = target_of st s i e q v is in element_lies (st.environment.windows s) element.0 q (lies s) element.1

  -- such a place is a place of the store
  pub store_has_place : (t : Thread Store) (q : Place) → IsInBounds p t → q.index < (array_of p q.array).length → HasPlace t.store q
  store_has_place t q bounds lies = omega (arith, lies, length-row p.arrays (lists_of t.store) bounds.store q.array)

  -- a task that keeps its windows and the lengths stays in bounds
  pub bounds_kept : (old new : Thread Store) → KeepsTask lengths_of old new → IsInBounds p old → IsInBounds p new
  bounds_kept old new kept bounds = record {
    store = fits_too p.arrays (lists_of old.store) (lists_of new.store) bounds.store kept.memory;
    windows = subst (λ (ws : ℕ → Window). (s : ℕ) → LiesInArray p (ws s)) (sym kept.windows) bounds.windows;
  }

  -- so a statement of one step writes to a place that the store has
  pub can_store : (t : Thread Store) (s : Primitive) → IsInBounds p t → CanStore p (HasPlace t.store) (state_of t) s
  can_store t Skip bounds = tt
  can_store t (Assign x e) bounds = tt
  can_store t (StoreTo s i e) bounds = λ q v is.
      store_has_place t q bounds (target_lies (state_of t) s i e q v bounds.windows is)
  can_store t (Print es) bounds = tt
  can_store t (Raise e) bounds = tt
