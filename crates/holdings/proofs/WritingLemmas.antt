-- A block, or a row, in the place of another.
use Rattle.std.proofs.Common.{◌≡◌, ℕ, ◌+◌, ◌-◌, ◌/◌, ◌%◌, ◌<◌, ◌≤◌, List, [], ◌∷◌, ◌++◌, length, get_or, set, IsSome}
use Rattle.std.proofs.Common.{Option, Some, None, Bool, true, false, inl, inr, refl, sym, ap, ◌∙◌, arith, rules, ◌⊎◌}
use Rattle.std.proofs.Common.{subst, w64, of_z, to_z, FitsSigned}
use Rattle.std.proofs.lemmas.Bool.{cases_eq, eqb-true, eq-eqb, ne_eqb, ltb-true, and_from}
use Rattle.std.proofs.lemmas.Int.{to_z-of_z}
use Rattle.std.proofs.lemmas.Option.{slice_get_past, slice_get_read}
use Rattle.std.specs.Prelude.{ℤ, ◌&&◌, nat_eq, nat_le, nat_lt, slice_get, option_and_then, if◌then◌else◌}
use Rattle.std.proofs.Math.Bool.{and-false}
use Rattle.shared_lemmas.proofs.Numbers.{nat_eq-sym}
use Rattle.sections.specs.Place.{Place}
use Rattle.blocks.specs.Numbers.{row_from}
use Rattle.blocks.specs.Blocks.{held_at}
use Rattle.blocks.specs.Held.{Held, Owned, put}
use Rattle.blocks.specs.Offsets.{Agree, put_at}
use Rattle.blocks.specs.declared.block.Block.{Block}
use Rattle.blocks.proofs.RowLemmas.{row_from-in, row_from-push, row_from-set}
use Rattle.holdings.specs.Rows.{IsAsBefore, Replaces, Widens, block_in, block_of, held_in_list, held_of}
use Rattle.holdings.specs.declared.row.BlockRow.{BlockRow}
use Rattle.holdings.proofs.WideningLemmas.{before-same, some_not_none}

-- ---- blocks of one row

pub row-item : (first : ℕ) (xs : List Block) (n : ℕ) (x : Block) → first ≤ n → n < first + length xs → x ≡ get_or xs (n - first) x
    → row_from first xs n ≡ Some x
row-item first xs n x low high is = row_from-in first xs n x low high ∙ ap Some (sym is)

pub row-set : (first : ℕ) (xs : List Block) (n : ℕ) (x : Block) → first ≤ n → n < first + length xs → (b : ℕ)
    → row_from first (set xs (n - first) x) b ≡ (if nat_eq b n then Some x else row_from first xs b)
row-set first xs n x low high b =
    row_from-set first xs n x low high b ∙ ap (λ t. if t then Some x else row_from first xs b) (nat_eq-sym n b)

pub held_of-if : (c : Bool) (x : Block) (o : Option Block) (k : ℕ) → held_of (if c then Some x else o) k ≡ (if c then held_at x k else held_of o k)
held_of-if true x o k = refl
held_of-if false x o k = refl

held-set : (first : ℕ) (xs : List Block) (n : ℕ) (x : Block) → first ≤ n → n < first + length xs → (b k : ℕ)
    → held_of (row_from first (set xs (n - first) x) b) k ≡ (if nat_eq b n then held_at x k else held_of (row_from first xs b) k)
held-set first xs n x low high b k =
    ap (λ o. held_of o k) (row-set first xs n x low high b) ∙ held_of-if (nat_eq b n) x (row_from first xs b) k

-- a block that was changed at one offset
pub held-written : (first : ℕ) (xs : List Block) (n : ℕ) (old new : Block) (o : ℕ) (h : Held) → first ≤ n → n < first + length xs
    → row_from first xs n ≡ Some old → Agree (held_at new) (put_at o h (held_at old)) → (b k : ℕ)
    → held_of (row_from first (set xs (n - first) new) b) k
    ≡ (if nat_eq b n && nat_eq o k then Some h else held_of (row_from first xs b) k)
held-written first xs n old new o h low high is w b k = held-set first xs n new low high b k ∙ by_eq (nat_eq b n) refl
  where
    by_eq : (t : Bool) → nat_eq b n ≡ t → (if t then held_at new k else held_of (row_from first xs b) k)
        ≡ (if t && nat_eq o k then Some h else held_of (row_from first xs b) k)
    by_eq true e = w k ∙ ap (λ v. if nat_eq o k then Some h else v)
        (sym (ap (λ z. held_of z k) (ap (row_from first xs) (eqb-true b n e) ∙ is)))
    by_eq false e = refl

-- a block that holds the same
pub held-alike : (first : ℕ) (xs : List Block) (n : ℕ) (old new : Block) → first ≤ n → n < first + length xs
    → row_from first xs n ≡ Some old → Agree (held_at new) (held_at old) → (b k : ℕ)
    → held_of (row_from first (set xs (n - first) new) b) k ≡ held_of (row_from first xs b) k
held-alike first xs n old new low high is w b k = held-set first xs n new low high b k ∙ by_eq (nat_eq b n) refl
  where
    by_eq : (t : Bool) → nat_eq b n ≡ t → (if t then held_at new k else held_of (row_from first xs b) k) ≡ held_of (row_from first xs b) k
    by_eq true e = w k ∙ sym (ap (λ z. held_of z k) (ap (row_from first xs) (eqb-true b n e) ∙ is))
    by_eq false e = refl

-- ---- an existing block of a row

module _ (s : BlockRow) (n : ℕ) (x : Block) (low : s.first ≤ n) (high : n < s.first + length s.blocks.items)
    (is : x ≡ get_or s.blocks.items (n - s.first) x) where
  pub block_in-item : block_in s n ≡ Some x
  block_in-item = row-item s.first s.blocks.items n x low high is

  -- a machine integer written into it
  pub row-written : (new : Block) (o : ℕ) (v : ℤ) → FitsSigned w64 v
      → Agree (held_at new) (put_at o (Owned (to_z w64 (of_z w64 v))) (held_at x)) → (b k : ℕ)
      → held_of (row_from s.first (set s.blocks.items (n - s.first) new) b) k
      ≡ (if nat_eq b n && nat_eq o k then Some (Owned v) else held_of (block_in s b) k)
  row-written new o v fits w b k =
      held-written s.first s.blocks.items n x new o (Owned (to_z w64 (of_z w64 v))) low high block_in-item w b
      k
      ∙ ap (λ (z : ℤ). if nat_eq b n && nat_eq o k then Some (Owned z) else held_of (block_in s b) k)
      (to_z-of_z w64 v fits)

  -- replacing a block by one that holds the same
  pub row-alike : (new : Block) → Agree (held_at new) (held_at x) → (b k : ℕ)
      → held_of (row_from s.first (set s.blocks.items (n - s.first) new) b) k ≡ held_of (block_in s b) k
  row-alike new w b k = held-alike s.first s.blocks.items n x new low high block_in-item w b k

-- ---- the current item of a loop over a list

pub item_at : {A : Type 0} {xs ys : List A} {n : ℕ} {x : A} → ys ≡ xs → n < length ys → x ≡ get_or ys n x
    → (n < length xs) × (x ≡ get_or xs n x)
item_at {A} {xs} {ys} {n} {x} e lt is =
    (subst (λ (l : List A). n < length l) e lt, is ∙ ap (λ l. get_or l n x) e)

pub no_item_at : {A : Type 0} {xs ys : List A} {n : ℕ} → ys ≡ xs → length ys ≤ n → length xs ≤ n
no_item_at {A} {xs} {ys} {n} e le = subst (λ (l : List A). length l ≤ n) e le

-- ---- rows of all arrays

pub from_zero : {A : Type 0} (xs : List A) (k : ℕ) → row_from 0 xs k ≡ slice_get xs k
from_zero xs k =
    let t : nat_le 0 k ≡ true = search rules in
    let e : k - 0 ≡ k = omega arith in
    ap (λ b. if b then slice_get xs (k - 0) else None) t ∙ ap (slice_get xs) e

pub slice_get-set : {A : Type 0} (xs : List A) (a : ℕ) (x : A) → a < length xs → (i : ℕ)
    → slice_get (set xs a x) i ≡ (if nat_eq i a then Some x else slice_get xs i)
slice_get-set xs a x lt i =
    let e : a ≡ a - 0 = omega arith in
    ap (λ n. slice_get (set xs n x) i) e ∙ sym (from_zero (set xs (a - 0) x) i) ∙ row_from-set 0 xs a x (omega arith) (omega arith) i
    ∙ ap (λ o. if nat_eq a i then Some x else o) (from_zero xs i)
    ∙ ap (λ b. if b then Some x else slice_get xs i) (nat_eq-sym a i)

pub slice_get-push : {A : Type 0} (xs : List A) (x : A) (i : ℕ)
    → slice_get (xs ++ x ∷ []) i ≡ (if nat_eq i (length xs) then Some x else slice_get xs i)
slice_get-push xs x i =
    let e : 0 + length xs ≡ length xs = omega arith in
    sym (from_zero (xs ++ x ∷ []) i) ∙ row_from-push 0 xs x (length xs) e i
    ∙ ap (λ o. if nat_eq (length xs) i then Some x else o) (from_zero xs i)
    ∙ ap (λ b. if b then Some x else slice_get xs i) (nat_eq-sym (length xs) i)

pub block_of-item : (rs : List BlockRow) (a : ℕ) (r : BlockRow) → a < length rs → r ≡ get_or rs a r → (b : ℕ) → block_of rs a b ≡ block_in r b
block_of-item rs a r lt is b = ap (option_and_then (λ r. block_in r b)) (slice_get_read rs (length rs) a r refl lt is)

pub block_of-past : (rs : List BlockRow) (a b : ℕ) → length rs ≤ a → block_of rs a b ≡ None
block_of-past rs a b le = ap (option_and_then (λ r. block_in r b)) (slice_get_past rs a le)

pub block_of-set : (rs : List BlockRow) (a : ℕ) (r : BlockRow) → a < length rs → (i j : ℕ)
    → block_of (set rs a r) i j ≡ (if nat_eq i a then block_in r j else block_of rs i j)
block_of-set rs a r lt i j = ap (option_and_then (λ r. block_in r j)) (slice_get-set rs a r lt i) ∙ pick (nat_eq i a)
  where
    pick : (t : Bool) → option_and_then (λ r. block_in r j) (if t then Some r else slice_get rs i) ≡ (if t then block_in r j else block_of rs i j)
    pick true = refl
    pick false = refl

pub block_of-within : (rs : List BlockRow) (a b : ℕ) → IsSome (block_of rs a b) → a < length rs
block_of-within rs a b some = by_test (nat_lt a (length rs)) refl
  where
    by_test : (t : Bool) → nat_lt a (length rs) ≡ t → a < length rs
    by_test true e = ltb-true _ _ e
    by_test false e = let le : length rs ≤ a = search rules in absurd (some_not_none (block_of rs a b) some (block_of-past rs a b le))

-- a row with one block in the place of another
pub rows-replaced : (rs : List BlockRow) (a b : ℕ) (r s : BlockRow) (x : Block) → a < length rs → r ≡ get_or rs a r
    → ((j : ℕ) → block_in s j ≡ (if nat_eq j b then Some x else block_in r j)) → Replaces a b x rs (set rs a s)
rows-replaced rs a b r s x lt is new = λ i j. block_of-set rs a s lt i j ∙ by_eq i j (nat_eq i a) refl
  where
    by_eq : (i j : ℕ) (t : Bool) → nat_eq i a ≡ t → (if t then block_in s j else block_of rs i j)
        ≡ (if t && nat_eq j b then Some x else block_of rs i j)
    by_eq i j true e =
        new j ∙ ap (λ o. if nat_eq j b then Some x else o)
        (sym (block_of-item rs a r lt is j) ∙ ap (λ z. block_of rs z j) (sym (eqb-true i a e)))
    by_eq i j false e = refl

-- ---- rows with more blocks

pub widens-push : (rs : List BlockRow) (r : BlockRow) → ((b : ℕ) → block_in r b ≡ None) → Widens rs (rs ++ r ∷ [])
widens-push rs r none = λ i j. inl (ap (option_and_then (λ r. block_in r j)) (slice_get-push rs r i) ∙ by_eq i j (nat_eq i (length rs)) refl)
  where
    by_eq : (i j : ℕ) (t : Bool) → nat_eq i (length rs) ≡ t
        → option_and_then (λ r. block_in r j) (if t then Some r else slice_get rs i) ≡ block_of rs i j
    by_eq i j true e = let le : length rs ≤ i = omega (arith, eqb-true i (length rs) e) in none j ∙ sym (block_of-past rs i j le)
    by_eq i j false e = refl

pub widens-set : (rs : List BlockRow) (a : ℕ) (r s : BlockRow) → a < length rs → r ≡ get_or rs a r
    → ((b : ℕ) → IsAsBefore (block_in r b) (block_in s b)) → Widens rs (set rs a s)
widens-set rs a r s lt is before = λ i j. by_eq i j (nat_eq i a) refl
  where
    along : (o p m n : Option Block) → p ≡ o → n ≡ m → IsAsBefore o m → IsAsBefore p n
    along o p m n e f (inl g) = inl (f ∙ g ∙ sym e)
    along o p m n e f (inr w) = inr (e ∙ w.0, λ k. ap (λ b. held_of b k) f ∙ w.1 k)

    by_eq : (i j : ℕ) (t : Bool) → nat_eq i a ≡ t → IsAsBefore (block_of rs i j) (block_of (set rs a s) i j)
    by_eq i j true e =
        let old : block_of rs i j ≡ block_in r j = ap (λ z. block_of rs z j) (eqb-true i a e) ∙ block_of-item rs a r lt is j in
        let new : block_of (set rs a s) i j ≡ block_in s j =
        block_of-set rs a s lt i j ∙ ap (λ b. if b then block_in s j else block_of rs i j) e in
        along (block_in r j) (block_of rs i j) (block_in s j) (block_of (set rs a s) i j) old new (before j)
    by_eq i j false e = inl (block_of-set rs a s lt i j ∙ ap (λ b. if b then block_in s j else block_of rs i j) e)

pub held-widened : (old new : List BlockRow) → Widens old new → held_in_list new ≡ held_in_list old
held-widened old new w = λ t q.
    before-same (block_of old q.array (q.index / 256)) (block_of new q.array (q.index / 256)) (w q.array (q.index / 256)) (q.index % 256) t

-- ---- one place written

place_parts : (i j : ℕ) → nat_eq i j ≡ (nat_eq (j / 256) (i / 256) && nat_eq (i % 256) (j % 256))
place_parts i j = by_eq (cases_eq i j)
  where
    by_offset : (i ≡ j → ⊥) → (j / 256 ≡ i / 256) ⊎ (j / 256 ≡ i / 256 → ⊥)
        → false ≡ (nat_eq (j / 256) (i / 256) && nat_eq (i % 256) (j % 256))
    by_offset ne (inl e) =
        let other : (i % 256 ≡ j % 256 → ⊥) = λ f. ne (omega (arith, e, f)) in
        sym (and-false (nat_eq (j / 256) (i / 256))) ∙ ap (λ b. nat_eq (j / 256) (i / 256) && b) (sym (ne_eqb _ _ other))
    by_offset ne (inr f) = ap (λ b. b && nat_eq (i % 256) (j % 256)) (sym (ne_eqb _ _ f))

    by_eq : (i ≡ j) ⊎ (i ≡ j → ⊥) → nat_eq i j ≡ (nat_eq (j / 256) (i / 256) && nat_eq (i % 256) (j % 256))
    by_eq (inl e) =
        let f : j / 256 ≡ i / 256 = ap (λ n. n / 256) (sym e) in
        let g : i % 256 ≡ j % 256 = ap (λ n. n % 256) e in
        eq-eqb i j e ∙ sym (and_from _ _ (eq-eqb _ _ f) (eq-eqb _ _ g))
    by_eq (inr ne) = ne_eqb i j ne ∙ by_offset ne (cases_eq (j / 256) (i / 256))

pub rows-written : (rs : List BlockRow) (p : Place) (r s : BlockRow) (h : Held) → p.array < length rs → r ≡ get_or rs p.array r
    → ((b k : ℕ) → held_of (block_in s b) k
    ≡ (if nat_eq b (p.index / 256) && nat_eq (p.index % 256) k then Some h else held_of (block_in r b) k))
    → held_in_list (set rs p.array s) ≡ put p h (held_in_list rs)
rows-written rs p r s h lt is w = λ t q.
    (ap (λ o. held_of o (q.index % 256)) (block_of-set rs p.array s lt q.array (q.index / 256)) ∙ by_eq q (nat_eq q.array p.array) refl) t
  where
    by_eq : (q : Place) (t : Bool) → nat_eq q.array p.array ≡ t
        → held_of (if t then block_in s (q.index / 256) else block_of rs q.array (q.index / 256)) (q.index % 256) ≡ put p h (held_in_list rs) q
    by_eq q true e =
        let old : held_of (block_in r (q.index / 256)) (q.index % 256) ≡ held_in_list rs q =
        ap (λ o. held_of o (q.index % 256)) (sym (block_of-item rs p.array r lt is (q.index / 256))
        ∙ ap (λ z. block_of rs z (q.index / 256)) (sym (eqb-true q.array p.array e))) in
        w (q.index / 256) (q.index % 256)
        ∙ ap (λ v. if nat_eq (q.index / 256) (p.index / 256) && nat_eq (p.index % 256) (q.index % 256) then Some h else v) old
        ∙ ap (λ b. if b then Some h else held_in_list rs q)
        (sym (place_parts p.index q.index) ∙ ap (λ b. b && nat_eq p.index q.index) (sym (nat_eq-sym p.array q.array ∙ e)))
    by_eq q false e =
        ap (λ b. if b && nat_eq p.index q.index then Some h else held_in_list rs q) (sym (nat_eq-sym p.array q.array ∙ e))

-- a machine integer written
pub rows-put : (rs : List BlockRow) (p : Place) (r s : BlockRow) (v : ℤ) → p.array < length rs → r ≡ get_or rs p.array r
    → FitsSigned w64 v → ((b k : ℕ) → held_of (block_in s b) k
    ≡ (if nat_eq b (p.index / 256) && nat_eq (p.index % 256) k then Some (Owned (to_z w64 (of_z w64 v))) else
    held_of (block_in r b) k))
    → held_in_list (set rs p.array s) ≡ put p (Owned v) (held_in_list rs)
rows-put rs p r s v lt is fits w =
    rows-written rs p r s (Owned (to_z w64 (of_z w64 v))) lt is w
    ∙ ap (λ (z : ℤ). put p (Owned z) (held_in_list rs)) (to_z-of_z w64 v fits)

pub rows-alike : (rs : List BlockRow) (a : ℕ) (r s : BlockRow) → a < length rs → r ≡ get_or rs a r
    → ((b k : ℕ) → held_of (block_in s b) k ≡ held_of (block_in r b) k) → held_in_list (set rs a s) ≡ held_in_list rs
rows-alike rs a r s lt is same = λ t q.
    (ap (λ o. held_of o (q.index % 256)) (block_of-set rs a s lt q.array (q.index / 256)) ∙ by_eq q (nat_eq q.array a) refl) t
  where
    by_eq : (q : Place) (t : Bool) → nat_eq q.array a ≡ t
        → held_of (if t then block_in s (q.index / 256) else block_of rs q.array (q.index / 256)) (q.index % 256) ≡ held_in_list rs q
    by_eq q true e = same (q.index / 256) (q.index % 256)
        ∙ ap (λ o. held_of o (q.index % 256)) (sym (block_of-item rs a r lt is (q.index / 256))
        ∙ ap (λ z. block_of rs z (q.index / 256)) (sym (eqb-true q.array a e)))
    by_eq q false e = refl
