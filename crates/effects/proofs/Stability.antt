-- Rounds that only add reach a stable table, if what they may add is listed.
use Rattle.std.proofs.Common.{◌≡◌, ℕ, zero, suc, ◌+◌, ◌-◌, ◌<◌, ◌≤◌, List, [], ◌∷◌, length, refl, sym, ap, ◌∙◌, subst}
use Rattle.std.proofs.Common.{arith, true≢false}
use Rattle.std.proofs.lemmas.Bool.{and_from, eqb-true, eq-eqb, ltb-true, ltb-false, and_parts}
use Rattle.std.specs.Prelude.{Bool, true, false, ◌&&◌, nat_eq, nat_lt, if◌then◌else◌}
use Rattle.shared_lemmas.proofs.Truths.{false_true}
use Rattle.sections.specs.Member.{Member, first, next}
use Rattle.sections.proofs.Members.{any_member, member_any}
use Rattle.effects.specs.Accesses.{Access}
use Rattle.effects.specs.Tables.{Table}
use Rattle.effects.specs.Rounds.{same_kind, same_access, lists, has_all, none, after, is_stable_below, is_stable}
use Rattle.effects.specs.Rounds.{first_stable}
use Rattle.effects.specs.Effects.{accesses}
use Rattle.effects.proofs.Missing.{missing, missing-less, missing-falls}

-- ---- tests
abbrev make : ℕ → ℕ → Bool → Access
make l s w = record { label = l; section = s; write = w }

pub same_kind-equal : (a b : Bool) → same_kind a b ≡ true → a ≡ b
same_kind-equal true true h = refl
same_kind-equal true false h = false_true h
same_kind-equal false true h = false_true h
same_kind-equal false false h = refl

pub same_kind-refl : (a : Bool) → same_kind a a ≡ true
same_kind-refl true = refl
same_kind-refl false = refl

pub same_access-equal : (x y : Access) → same_access x y ≡ true → x ≡ y
same_access-equal x y h =
    let a = and_parts (nat_eq x.label y.label) (nat_eq x.section y.section && same_kind x.write y.write) h in
    let b = and_parts (nat_eq x.section y.section) (same_kind x.write y.write) a.1 in
    ap (λ l. make l x.section x.write) (eqb-true x.label y.label a.0)
    ∙ ap (λ s. make y.label s x.write) (eqb-true x.section y.section b.0)
    ∙ ap (make y.label y.section) (same_kind-equal x.write y.write b.1)

pub same_access-refl : (x : Access) → same_access x x ≡ true
same_access-refl x =
    and_from (nat_eq x.label x.label) (nat_eq x.section x.section && same_kind x.write x.write) (eq-eqb x.label x.label refl)
    (and_from (nat_eq x.section x.section) (same_kind x.write x.write) (eq-eqb x.section x.section refl) (same_kind-refl x.write))

pub is_listed : (xs : List Access) (x : Access) → lists xs x ≡ true → Member x xs
is_listed xs x h = let r = any_member (same_access x) xs h in subst (λ y. Member y xs) (sym (same_access-equal x r.item r.passes)) r.member

pub has_listed : (xs : List Access) (x : Access) → Member x xs → lists xs x ≡ true
has_listed xs x m = member_any (same_access x) xs m (same_access-refl x)

has_each : (xs part : List Access) → has_all xs part ≡ true → (x : Access) → Member x part → Member x xs
has_each xs [] h x m = elim m [ ]
has_each xs (y ∷ part) h x first = is_listed xs x (and_parts (lists xs x) (has_all xs part) h).0
has_each xs (y ∷ part) h x (next m) = has_each xs part (and_parts (lists xs y) (has_all xs part) h).1 x m

-- one is not listed
record Lacks (xs part : List Access) : Type 0 where
  access : Access
  among : Member access part
  lacks : lists xs access ≡ false

lacks_one : (xs part : List Access) → has_all xs part ≡ false → Lacks xs part
lacks_one xs [] h = absurd (true≢false h)
lacks_one xs (y ∷ part) h = by_test (lists xs y) refl h (lacks_one xs part)
  where
    deeper : Lacks xs part → Lacks xs (y ∷ part)
    deeper l = record { access = l.access; among = next l.among; lacks = l.lacks }

    by_test : (t : Bool) → lists xs y ≡ t → (t && has_all xs part) ≡ false → (has_all xs part ≡ false → Lacks xs part) → Lacks xs (y ∷ part)
    by_test true e h go = deeper (go h)
    by_test false e h go = record { access = y; among = first; lacks = e }

missing_most : (has : Access → Bool) (xs : List Access) → missing has xs ≤ length xs
missing_most has [] = omega arith
missing_most has (x ∷ xs) = by_test (has x) (missing_most has xs)
  where
    by_test : (t : Bool) → missing has xs ≤ length xs → (if t then missing has xs else 1 + missing has xs) ≤ suc (length xs)
    by_test true h = omega (arith, h)
    by_test false h = omega (arith, h)

-- one table lists all of another
abbrev pub LiesIn : Table accesses → Table accesses → Type 0
LiesIn table more = (f : ℕ) (x : Access) → Member x (table f) → Member x (more f)

module _ (round : Table accesses → Table accesses) (count : ℕ)
    (grows : (table more : Table accesses) → LiesIn table more → LiesIn (round table) (round more))
    (ends : (table : Table accesses) (f : ℕ) (x : Access) → count ≤ f → Member x (round table f) → ⊥)
    (possible : ℕ → List Access) (is_possible : (k f : ℕ) (x : Access) → Member x (after round count k f) → Member x (possible f)) where
  abbrev rounds : ℕ → Table accesses
  rounds = after round count

  -- ---- the test
  record IsRow (table : Table accesses) (n : ℕ) : Type 0 where
    row : (x : Access) → Member x (round table n) → Member x (table n)

  stable_row : (table : Table accesses) (n f : ℕ) → f < n → is_stable_below round count table n ≡ true → (j : ℕ) → j + f ≡ n → IsRow table f
  stable_row table zero f lt h j e = absurd (omega (arith, lt))
  stable_row table (suc n) f lt h zero e = absurd (omega (arith, lt, e))
  stable_row table (suc n) f lt h (suc zero) e =
      let k = and_parts (has_all (table n) (round table n)) (is_stable_below round count table n) h in
      subst (IsRow table) (let i : n ≡ f = omega (arith, e) in i)
      (record { row = λ x m. has_each (table n) (round table n) k.0 x m })
  stable_row table (suc n) f lt h (suc (suc j)) e =
      let k = and_parts (has_all (table n) (round table n)) (is_stable_below round count table n) h in
      stable_row table n f (omega (arith, lt, e)) k.1 (suc j) (omega (arith, e))

  tested : (table : Table accesses) → is_stable round count table ≡ true → LiesIn (round table) table
  tested table h f x m = by_test (nat_lt f count) refl
    where
      by_test : (t : Bool) → nat_lt f count ≡ t → Member x (table f)
      by_test true e =
          let lt : f < count = ltb-true f count e in
          (stable_row table count f lt h (count - f) (omega (arith, lt))).row x m
      by_test false e = absurd (ends table f x (ltb-false f count e) m)

  -- a row that isn't
  record Adds (table : Table accesses) (n : ℕ) : Type 0 where
    procedure : ℕ
    below : procedure < n
    adds : Lacks (table procedure) (round table procedure)

  adds_one : (table : Table accesses) (n : ℕ) → is_stable_below round count table n ≡ false → Adds table n
  adds_one table zero h = absurd (true≢false h)
  adds_one table (suc n) h = by_test (has_all (table n) (round table n)) refl h (adds_one table n)
    where
      deeper : Adds table n → Adds table (suc n)
      deeper a = let lt = a.below in record { procedure = a.procedure; below = omega (arith, lt); adds = a.adds }

      by_test : (t : Bool) → has_all (table n) (round table n) ≡ t → (t && is_stable_below round count table n) ≡ false
          → (is_stable_below round count table n ≡ false → Adds table n) → Adds table (suc n)
      by_test true e h go = deeper (go h)
      by_test false e h go = record { procedure = n; below = omega arith; adds = lacks_one (table n) (round table n) e }

  -- ---- each round lists more
  adds_more : (k : ℕ) → LiesIn (rounds k) (rounds (suc k))
  adds_more zero f x m = elim m [ ]
  adds_more (suc k) f x m = grows (rounds k) (rounds (suc k)) (adds_more k) f x m

  -- ---- the number of missing accesses decreases
  abbrev lacking : (k n : ℕ) → ℕ
  lacking k zero = 0
  lacking k (suc f) = missing (lists (rounds k f)) (possible f) + lacking k f

  grows_test : (k f : ℕ) (x : Access) → lists (rounds k f) x ≡ true → lists (rounds (suc k) f) x ≡ true
  grows_test k f x h = has_listed (rounds (suc k) f) x (adds_more k f x (is_listed (rounds k f) x h))

  missing_no_more : (k f : ℕ) → missing (lists (rounds (suc k) f)) (possible f) ≤ missing (lists (rounds k f)) (possible f)
  missing_no_more k f = missing-less (lists (rounds k f)) (lists (rounds (suc k) f)) (grows_test k f) (possible f)

  lacking_no_more : (k n : ℕ) → lacking (suc k) n ≤ lacking k n
  lacking_no_more k zero = omega arith
  lacking_no_more k (suc f) = let a = missing_no_more k f in let b = lacking_no_more k f in omega (arith, a, b)

  missing_falls : (k f : ℕ) → Lacks (rounds k f) (rounds (suc k) f)
      → missing (lists (rounds (suc k) f)) (possible f) < missing (lists (rounds k f)) (possible f)
  missing_falls k f l = missing-falls (lists (rounds k f)) (lists (rounds (suc k) f)) (grows_test k f) (possible f) l.access
      (is_possible (suc k) f l.access l.among) l.lacks (has_listed (rounds (suc k) f) l.access l.among)

  lacking_falls : (k n f j : ℕ) → suc j + f ≡ n → Lacks (rounds k f) (rounds (suc k) f) → lacking (suc k) n < lacking k n
  lacking_falls k zero f j e l = absurd (omega (arith, e))
  lacking_falls k (suc n) f zero e l =
      let a = missing_falls k n (subst (λ f. Lacks (rounds k f) (rounds (suc k) f)) (let i : f ≡ n = omega (arith, e) in i) l) in
      let b = lacking_no_more k n in
      omega (arith, a, b)
  lacking_falls k (suc n) f (suc j) e l =
      let a = missing_no_more k n in
      let b = lacking_falls k n f j (omega (arith, e)) l in
      omega (arith, a, b)

  not_stable_falls : (k : ℕ) → is_stable round count (rounds k) ≡ false → lacking (suc k) count < lacking k count
  not_stable_falls k h =
      let a = adds_one (rounds k) count h in
      let lt = a.below in
      lacking_falls k count a.procedure (count - a.procedure - 1) (omega (arith, lt)) a.adds

  comes_stable : (n k : ℕ) → lacking k count ≤ n → LiesIn (round (first_stable round count n k)) (first_stable round count n k)
  comes_stable zero k h = tested (rounds k) (by_test (is_stable round count (rounds k)) refl)
    where
      by_test : (t : Bool) → is_stable round count (rounds k) ≡ t → is_stable round count (rounds k) ≡ true
      by_test true e = e
      by_test false e = let lt = not_stable_falls k e in absurd (omega (arith, lt, h))
  comes_stable (suc n) k h = by_test (is_stable round count (rounds k)) refl (comes_stable n (suc k))
    where
      by_test : (t : Bool) → is_stable round count (rounds k) ≡ t
          → (lacking (suc k) count ≤ n → LiesIn (round (first_stable round count n (suc k))) (first_stable round count n (suc k)))
          → (let table = if◌then◌else◌ {A = Table accesses} t (rounds k) (first_stable round count n (suc k)) in LiesIn (round table) table)
      by_test true e go = tested (rounds k) e
      by_test false e go = go (let lt = not_stable_falls k e in omega (arith, lt, h))

  lacking_most : (most : ℕ → ℕ) → most 0 ≡ 0 → ((f : ℕ) → most (suc f) ≡ length (possible f) + most f) → (k n : ℕ) → lacking k n ≤ most n
  lacking_most most e h k zero = omega (arith, e)
  lacking_most most e h k (suc f) =
      let a = missing_most (lists (rounds k f)) (possible f) in
      let b = lacking_most most e h k f in
      let i = h f in
      omega (arith, a, b, i)

  -- after as many rounds as there are possible accesses, the table is stable
  pub becomes_stable : (most : ℕ → ℕ) → most 0 ≡ 0 → ((f : ℕ) → most (suc f) ≡ length (possible f) + most f)
      → LiesIn (round (first_stable round count (most count) 0)) (first_stable round count (most count) 0)
  becomes_stable most e h = comes_stable (most count) 0 (lacking_most most e h 0 count)

-- it keeps what each round keeps
pub first_keeps : (round : Table accesses → Table accesses) (count : ℕ) (P : Table accesses → Type 0) → P none
    → ((table : Table accesses) → P table → P (round table))
    → (n k : ℕ) → P (first_stable round count n k)
first_keeps round count P nil one = first
  where
    each : (k : ℕ) → P (after round count k)
    each zero = nil
    each (suc k) = one (after round count k) (each k)

    by_test : (n k : ℕ) (t : Bool) → P (first_stable round count n (suc k))
        → P (if◌then◌else◌ {A = Table accesses} t (after round count k) (first_stable round count n (suc k)))
    by_test n k true go = each k
    by_test n k false go = go

    first : (n k : ℕ) → P (first_stable round count n k)
    first zero k = each k
    first (suc n) k = by_test n k (is_stable round count (after round count k)) (first n (suc k))
