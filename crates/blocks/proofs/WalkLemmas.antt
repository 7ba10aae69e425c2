-- Maps that a loop changes, offset by offset.
use Rattle.std.proofs.Common.{◌≡◌, ℕ, zero, suc, ◌+◌, ◌<◌, ◌≤◌, Option, Some, None, Bool, true, false, refl, sym, ap, ◌∙◌, arith, rules, ◌⊎◌, inl, inr}
use Rattle.std.proofs.Math.Bool.{and-false}
use Rattle.std.proofs.lemmas.Bool.{eqb-true, eqb-false, leb-true, leb-false, ltb-true, lt-ltb, le-ltb, le-leb, lt-leb}
use Rattle.std.specs.Prelude.{◌&&◌, nat_eq, nat_le, nat_lt, is_some, if◌then◌else◌}
use Rattle.blocks.specs.Counts.{how_many}
use Rattle.blocks.specs.Offsets.{Offsets, Agree, in_range, inside}

-- ---- ranges

pub in_range-true : (from to k : ℕ) → from ≤ k → k < to → in_range from to k ≡ true
in_range-true from to k low high = ap (λ b. b && nat_lt k to) (le-leb from k low) ∙ lt-ltb k to high

pub in_range-below : (from to k : ℕ) → k < from → in_range from to k ≡ false
in_range-below from to k lt = ap (λ b. b && nat_lt k to) (lt-leb from k lt)

pub in_range-behind : (from to k : ℕ) → to ≤ k → in_range from to k ≡ false
in_range-behind from to k le = ap (λ b. nat_le from k && b) (le-ltb k to le) ∙ and-false (nat_le from k)

pub in_range-cases : (from to k : ℕ)
    → ((in_range from to k ≡ true) × (from ≤ k) × (k < to)) ⊎ ((in_range from to k ≡ false) × ((k < from) ⊎ (to ≤ k)))
in_range-cases from to k = by_low (nat_le from k) refl
  where
    by_high : from ≤ k → (b : Bool) → nat_lt k to ≡ b
        → ((in_range from to k ≡ true) × (from ≤ k) × (k < to)) ⊎ ((in_range from to k ≡ false) × ((k < from) ⊎ (to ≤ k)))
    by_high low true e = let lt = ltb-true _ _ e in inl (in_range-true from to k low lt, low, lt)
    by_high low false e = let le : to ≤ k = search rules in inr (in_range-behind from to k le, inr le)

    by_low : (b : Bool) → nat_le from k ≡ b
        → ((in_range from to k ≡ true) × (from ≤ k) × (k < to)) ⊎ ((in_range from to k ≡ false) × ((k < from) ⊎ (to ≤ k)))
    by_low true e = by_high (leb-true _ _ e) (nat_lt k to) refl
    by_low false e = let lt = leb-false _ _ e in inr (in_range-below from to k lt, inl lt)

pub in_range-low : (from to k : ℕ) → in_range from to k ≡ true → from ≤ k
in_range-low from to k e = elim (in_range-cases from to k) [ inl w ↦ w.1 | inr w ↦ absurd (let f = sym e ∙ w.0 in cc) ]

pub in_range-high : (from to k : ℕ) → in_range from to k ≡ true → k < to
in_range-high from to k e = elim (in_range-cases from to k) [ inl w ↦ w.2 | inr w ↦ absurd (let f = sym e ∙ w.0 in cc) ]

-- ---- a map that is new before an offset, and old from it on

abbrev pub so_far : {A : Type 0} → ℕ → (new old : Offsets A) → Offsets A
so_far i new old k = if nat_lt k i then new k else old k

pub so_far-before : {A : Type 0} (i : ℕ) (new old : Offsets A) (k : ℕ) → k < i → so_far i new old k ≡ new k
so_far-before i new old k lt = ap (λ b. if b then new k else old k) (lt-ltb k i lt)

pub so_far-behind : {A : Type 0} (i : ℕ) (new old : Offsets A) (k : ℕ) → i ≤ k → so_far i new old k ≡ old k
so_far-behind i new old k le = ap (λ b. if b then new k else old k) (le-ltb k i le)

-- nothing has to be done before an offset
pub so_far-begun : {A : Type 0} (i : ℕ) (new old : Offsets A) → ((k : ℕ) → k < i → new k ≡ old k) → Agree old (so_far i new old)
so_far-begun i new old same = λ k. by_test k (nat_lt k i) refl
  where
    by_test : (k : ℕ) (b : Bool) → nat_lt k i ≡ b → old k ≡ (if b then new k else old k)
    by_test k true e = sym (same k (ltb-true _ _ e))
    by_test k false e = refl

-- nothing remains to be done from an offset on
pub so_far-done : {A : Type 0} (i : ℕ) (new old s : Offsets A) → ((k : ℕ) → i ≤ k → new k ≡ old k)
    → Agree s (so_far i new old) → Agree s new
so_far-done i new old s same h = λ k. h k ∙ by_test k (nat_lt k i) refl
  where
    by_test : (k : ℕ) (b : Bool) → nat_lt k i ≡ b → (if b then new k else old k) ≡ new k
    by_test k true e = refl
    by_test k false e = let le : i ≤ k = search rules in sym (same k le)

-- one more offset, at which something is written
pub so_far-more : {A : Type 0} (i : ℕ) (new old s t : Offsets A) (x : Option A) → new i ≡ x → Agree s (so_far i new old)
    → Agree t (λ k. if nat_eq i k then x else s k) → Agree t (so_far (i + 1) new old)
so_far-more i new old s t x is h step = λ k. step k ∙ by_eq k (nat_eq i k) refl
  where
    by_lt : (k : ℕ) → (i ≡ k → ⊥) → (b : Bool) → nat_lt k i ≡ b → so_far i new old k ≡ so_far (i + 1) new old k
    by_lt k ne true e =
        let lt = ltb-true _ _ e in
        so_far-before i new old k lt ∙ sym (so_far-before (i + 1) new old k (omega arith))
    by_lt k ne false e =
        let le : i ≤ k = search rules in
        so_far-behind i new old k le ∙ sym (so_far-behind (i + 1) new old k (omega arith))

    by_eq : (k : ℕ) (b : Bool) → nat_eq i k ≡ b → (if b then x else s k) ≡ so_far (i + 1) new old k
    by_eq k true e =
        let same : i ≡ k = eqb-true _ _ e in
        sym is ∙ ap new same ∙ sym (so_far-before (i + 1) new old k (omega arith))
    by_eq k false e = h k ∙ by_lt k (eqb-false _ _ e) (nat_lt k i) refl

-- one more offset, at which nothing has to be done
pub so_far-kept : {A : Type 0} (i : ℕ) (new old s : Offsets A) → new i ≡ old i → Agree s (so_far i new old)
    → Agree s (so_far (i + 1) new old)
so_far-kept i new old s same h =
    so_far-more i new old s s (s i) (same ∙ sym (so_far-behind i new old i (omega arith)) ∙ sym (h i)) h (λ k. by_eq k (nat_eq i k) refl)
  where
    by_eq : (k : ℕ) (b : Bool) → nat_eq i k ≡ b → s k ≡ (if b then s i else s k)
    by_eq k true e = ap s (sym (eqb-true _ _ e))
    by_eq k false e = refl

-- ---- a map inside a range that grows

pub inside-there : {A : Type 0} (from to : ℕ) (m : Offsets A) (k : ℕ) → from ≤ k → k < to → inside from to m k ≡ m k
inside-there from to m k low high = ap (λ b. if b then m k else None) (in_range-true from to k low high)

pub inside-out : {A : Type 0} (from to : ℕ) (m : Offsets A) (k : ℕ) → (k < from) ⊎ (to ≤ k) → inside from to m k ≡ None
inside-out from to m k (inl lt) = ap (λ b. if b then m k else None) (in_range-below from to k lt)
inside-out from to m k (inr le) = ap (λ b. if b then m k else None) (in_range-behind from to k le)

pub inside-more : {A : Type 0} (from i : ℕ) (m s t : Offsets A) (x : Option A) → from ≤ i → m i ≡ x → Agree s (inside from i m)
    → Agree t (λ k. if nat_eq i k then x else s k) → Agree t (inside from (i + 1) m)
inside-more from i m s t x le is h step = λ k. step k ∙ by_eq k (nat_eq i k) refl
  where
    by_range : (k : ℕ) → (i ≡ k → ⊥)
        → ((in_range from i k ≡ true) × (from ≤ k) × (k < i)) ⊎ ((in_range from i k ≡ false) × ((k < from) ⊎ (i ≤ k)))
        → inside from i m k ≡ inside from (i + 1) m k
    by_range k ne (inl w) = inside-there from i m k w.1 w.2 ∙ sym (inside-there from (i + 1) m k w.1 (omega (arith, w.2)))
    by_range k ne (inr (w, inl lt)) = inside-out from i m k (inl lt) ∙ sym (inside-out from (i + 1) m k (inl lt))
    by_range k ne (inr (w, inr ge)) = inside-out from i m k (inr ge) ∙ sym (inside-out from (i + 1) m k (inr (omega (arith, ge, ne))))

    by_eq : (k : ℕ) (b : Bool) → nat_eq i k ≡ b → (if b then x else s k) ≡ inside from (i + 1) m k
    by_eq k true e =
        let same : i ≡ k = eqb-true _ _ e in
        sym is ∙ ap m same ∙ sym (inside-there from (i + 1) m k (omega arith) (omega arith))
    by_eq k false e = h k ∙ by_range k (eqb-false _ _ e) (in_range-cases from i k)

-- ---- counts

how_many-suc : {A : Type 0} (m : Offsets A) (n : ℕ) → how_many m (n + 1) ≡ how_many m n + (if is_some (m n) then 1 else 0)
unfolding how_many
how_many-suc m n = let e : n + 1 ≡ suc n = omega arith in rw e refl

how_many-zero : {A : Type 0} (m : Offsets A) → how_many m 0 ≡ 0
unfolding how_many
how_many-zero m = refl

pub how_many-some : {A : Type 0} (m : Offsets A) (n : ℕ) (x : A) → m n ≡ Some x → how_many m (n + 1) ≡ how_many m n + 1
how_many-some m n x e = how_many-suc m n ∙ ap (λ (o : Option _). how_many m n + (if is_some o then 1 else 0)) e

pub how_many-skip : {A : Type 0} (m : Offsets A) (n : ℕ) → m n ≡ None → how_many m (n + 1) ≡ how_many m n
how_many-skip m n e =
    let z : how_many m n + 0 ≡ how_many m n = omega arith in
    how_many-suc m n ∙ ap (λ (o : Option _). how_many m n + (if is_some o then 1 else 0)) e ∙ z

pub how_many-none : {A : Type 0} (m : Offsets A) (n : ℕ) → ((k : ℕ) → k < n → m k ≡ None) → how_many m n ≡ 0
how_many-none m zero none = how_many-zero m
how_many-none m (suc n) none =
    let e : suc n ≡ n + 1 = omega arith in
    ap (how_many m) e ∙ how_many-skip m n (none n (omega arith)) ∙ how_many-none m n (λ k lt. none k (omega (arith, lt)))

pub how_many-rest : {A : Type 0} (m : Offsets A) (i n : ℕ) → i ≤ n → ((k : ℕ) → i ≤ k → m k ≡ None) → how_many m n ≡ how_many m i
how_many-rest m i zero le none = let e : 0 ≡ i = omega arith in ap (how_many m) e
how_many-rest m i (suc n) le none = by_end (nat_le i n) refl (λ lt. how_many-rest m i n lt none)
  where
    by_end : (b : Bool) → nat_le i n ≡ b → (i ≤ n → how_many m n ≡ how_many m i) → how_many m (suc n) ≡ how_many m i
    by_end true t rest =
        let lt : i ≤ n = leb-true _ _ t in
        let e : suc n ≡ n + 1 = omega arith in
        ap (how_many m) e ∙ how_many-skip m n (none n lt) ∙ rest lt
    by_end false t rest =
        let gt : n < i = leb-false _ _ t in
        let e : suc n ≡ i = omega arith in ap (how_many m) e

pub how_many-le : {A : Type 0} (m : Offsets A) (n : ℕ) → how_many m n ≤ n
how_many-le m zero = omega (arith, how_many-zero m)
how_many-le m (suc n) = by_some (m n) refl (how_many-le m n)
  where
    by_some : (o : Option _) → m n ≡ o → how_many m n ≤ n → how_many m (suc n) ≤ suc n
    by_some None e l =
        let s : suc n ≡ n + 1 = omega arith in
        let h : how_many m (suc n) ≡ how_many m n = ap (how_many m) s ∙ how_many-skip m n e in
        omega (arith, h, l)
    by_some (Some x) e l =
        let s : suc n ≡ n + 1 = omega arith in
        let h : how_many m (suc n) ≡ how_many m n + 1 = ap (how_many m) s ∙ how_many-some m n x e in
        omega (arith, h, l)
