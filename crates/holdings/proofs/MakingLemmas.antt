-- Rows of blocks made from lists of numbers.
use Rattle.std.proofs.Common.{◌≡◌, ℕ, zero, suc, ◌+◌, ◌-◌, ◌*◌, ◌/◌, ◌%◌, ◌<◌, ◌≤◌, min, List, [], ◌∷◌, ◌++◌, length, get_or, take, drop, map, Vec, Global}
use Rattle.std.proofs.Common.{Option, Some, None, Bool, true, false, refl, sym, ap, ◌∙◌, arith, rules, subst, option_map, slice_get}
use Rattle.std.proofs.lemmas.Bool.{eqb-true, eqb-false, ltb-true}
use Rattle.std.proofs.lemmas.List.{length-append, length-take, take_more}
use Rattle.std.proofs.lemmas.Option.{slice_get_past}
use Rattle.std.proofs.lemmas.Bool.Decides.{Decides-int_eq}
use Rattle.std.proofs.lemmas.Slice.Eq.{slice_eq-Decides}
use Rattle.std.specs.Cmp.Lexicographic.{pointwise}
use Rattle.std.specs.List.{slice_range}
use Rattle.std.specs.Ordering.{int_eq}
use Rattle.std.specs.Prelude.{ℤ, IfSome, nat_eq, nat_lt, slice_index_or, if◌then◌else◌}
use Rattle.sections.specs.Place.{Place}
use Rattle.blocks.specs.Numbers.{row_from}
use Rattle.blocks.specs.Blocks.{held_at}
use Rattle.blocks.specs.Held.{Held, Owned, as_owned}
use Rattle.blocks.specs.Offsets.{Agree}
use Rattle.blocks.specs.declared.block.Block.{Block}
use Rattle.blocks.proofs.RowLemmas.{row_from-before, row_from-behind}
use Rattle.holdings.specs.Lists.{listed}
use Rattle.holdings.specs.Rows.{OwnsList, block_in, block_of, held_in_list, held_of, in_row}
use Rattle.holdings.specs.declared.row.BlockRow.{BlockRow}
use Rattle.holdings.proofs.CopyLemmas.{block_of-push, held-push}
use Rattle.holdings.proofs.WritingLemmas.{from_zero}

-- ---- parts of lists

slice_get-drop : {A : Type 0} (xs : List A) (a k : ℕ) → slice_get (drop a xs) k ≡ slice_get xs (a + k)
slice_get-drop xs zero k = let e : k ≡ 0 + k = omega arith in ap (slice_get xs) e
slice_get-drop [] (suc a) k = refl
slice_get-drop (x ∷ xs) (suc a) k =
    let e : suc (a + k) ≡ suc a + k = omega arith in slice_get-drop xs a k ∙ ap (slice_get (x ∷ xs)) e

slice_get-take : {A : Type 0} (n : ℕ) (xs : List A) (k : ℕ) → k < n → slice_get (take n xs) k ≡ slice_get xs k
slice_get-take zero xs k lt = absurd (omega (arith, lt))
slice_get-take (suc n) [] k lt = refl
slice_get-take (suc n) (x ∷ xs) zero lt = refl
slice_get-take (suc n) (x ∷ xs) (suc k) lt = slice_get-take n xs k (omega (arith, lt))

-- a part of a list as long as a block, or to its end
pub slice_get-part : {A : Type 0} (xs : List A) (from to k : ℕ) → to ≡ min (length xs) (from + 256) → from ≤ length xs → k < 256
    → slice_get (slice_range xs from to) k ≡ slice_get xs (from + k)
slice_get-part xs from to k end start lt = by_test (nat_lt k (to - from)) refl
  where
    by_test : (t : Bool) → nat_lt k (to - from) ≡ t → slice_get (slice_range xs from to) k ≡ slice_get xs (from + k)
    by_test true e = slice_get-take (to - from) (drop from xs) k (ltb-true _ _ e) ∙ slice_get-drop xs from k
    by_test false e =
        let ge : to - from ≤ k = search rules in
        let short : length (slice_range xs from to) ≤ k = omega (arith, length-take (to - from) (drop from xs), ge) in
        let past : length xs ≤ from + k = omega (arith, ge, end, start, lt) in
        slice_get_past (slice_range xs from to) k short ∙ sym (slice_get_past xs (from + k) past)

-- ---- blocks of a list of numbers

-- the blocks so far have the numbers of the list
pub record IsCutFrom (ns : List ℤ) (xs : List Block) (n : ℕ) : Type 0 where
  pub long : length xs ≡ n
  pub same : (i k : ℕ) → i < n → k < 256 → held_of (slice_get xs i) k ≡ option_map Owned (slice_get ns (i * 256 + k))

pub cut-more : (ns : List ℤ) (xs : List Block) (n to : ℕ) (b : Block) → IsCutFrom ns xs n → to ≡ min (length ns) (n * 256 + 256)
    → n * 256 ≤ length ns → OwnsList b (slice_range ns (n * 256) to) → IsCutFrom ns (xs ++ b ∷ []) (n + 1)
cut-more ns xs n to b cut end start held = record { long = long; same = same }
  where
    long : length (xs ++ b ∷ []) ≡ n + 1
    long = length-append xs (b ∷ []) ∙ ap (λ m. m + 1) cut.long

    by_eq : (i k : ℕ) → i < n + 1 → k < 256 → (t : Bool) → nat_eq i (length xs) ≡ t
        → (if t then held_at b k else held_of (slice_get xs i) k) ≡ option_map Owned (slice_get ns (i * 256 + k))
    by_eq i k lt small true e =
        let is : n ≡ i = sym cut.long ∙ sym (eqb-true _ _ e) in
        held k small ∙ ap (option_map Owned) (slice_get-part ns (n * 256) to k end start small)
        ∙ ap (λ j. option_map Owned (slice_get ns (j * 256 + k))) is
    by_eq i k lt small false e =
        let ne = eqb-false _ _ e in
        cut.same i k (omega (arith, lt, ne, cut.long)) small

    same : (i k : ℕ) → i < n + 1 → k < 256 → held_of (slice_get (xs ++ b ∷ []) i) k ≡ option_map Owned (slice_get ns (i * 256 + k))
    same i k lt small = held-push xs b i k ∙ by_eq i k lt small (nat_eq i (length xs)) refl

-- the last of the blocks has the numbers before the next part
pub cut-last : (ns : List ℤ) (xs : List Block) (n from : ℕ) → IsCutFrom ns xs n → from ≡ n * 256 - 256 → n * 256 ≤ length ns
    → IfSome (slice_get xs (length xs - 1)) (λ b. OwnsList b (slice_range ns from (n * 256)))
cut-last ns [] n from cut is start = tt
cut-last ns (x ∷ xs) n from cut is start =
    let at : length xs ≡ length (x ∷ xs) - 1 = omega arith in
    subst (λ i. IfSome (slice_get (x ∷ xs) i) (λ b. OwnsList b (slice_range ns from (n * 256)))) at
    (by_last (slice_get (x ∷ xs) (length xs)) refl)
  where
    by_last : (o : Option Block) → slice_get (x ∷ xs) (length xs) ≡ o → IfSome o (λ b. OwnsList b (slice_range ns from (n * 256)))
    by_last None e = tt
    by_last (Some b) e = λ k small.
        let long : suc (length xs) ≡ n = cut.long in
        let at : length xs * 256 ≡ from = omega (arith, long, is) in
        let end : n * 256 ≡ min (length ns) (from + 256) = omega (arith, long, is, start) in
        ap (λ o. held_of o k) (sym e) ∙ cut.same (length xs) k (omega (arith, long)) small
        ∙ ap (λ j. option_map Owned (slice_get ns (j + k))) at
        ∙ sym (ap (option_map Owned) (slice_get-part ns from (n * 256) k end (omega (arith, end)) small))

-- a block that holds the same as another owns the same numbers
pub owns-again : (o : Option Block) (last b : Block) (old new : List ℤ) → o ≡ Some last → IfSome o (λ l. OwnsList l old)
    → pointwise int_eq old new ≡ true → Agree (held_at b) (held_at last) → OwnsList b new
owns-again o last b old new is owns same alike =
    let owned : OwnsList last old = subst (λ o. IfSome o (λ l. OwnsList l old)) is owns in
    let lists : old ≡ new = (slice_eq-Decides Decides-int_eq old new (pointwise int_eq old new) refl).0 same in
    λ k small. alike k ∙ owned k small ∙ ap (λ (ns : List ℤ). option_map Owned (slice_get ns k)) lists

-- the numbers of all blocks are all of the list
pub cut-all : (ns : List ℤ) (xs : List Block) (n : ℕ) → IsCutFrom ns xs n → length ns ≤ n * 256 → (k : ℕ)
    → held_of (row_from 0 xs (k / 256)) (k % 256) ≡ option_map Owned (slice_get ns k)
cut-all ns xs n cut all k =
    ap (λ o. held_of o (k % 256)) (from_zero xs (k / 256)) ∙ by_test (nat_lt (k / 256) n) refl
  where
    by_test : (t : Bool) → nat_lt (k / 256) n ≡ t → held_of (slice_get xs (k / 256)) (k % 256) ≡ option_map Owned (slice_get ns k)
    by_test true e =
        let at : k / 256 * 256 + k % 256 ≡ k = omega arith in
        cut.same (k / 256) (k % 256) (ltb-true _ _ e) (omega arith) ∙ ap (λ j. option_map Owned (slice_get ns j)) at
    by_test false e =
        let ge : n ≤ k / 256 = search rules in
        ap (λ o. held_of o (k % 256)) (slice_get_past xs (k / 256) (omega (arith, cut.long, ge)))
        ∙ sym (ap (option_map Owned) (slice_get_past ns k (omega (arith, ge, all))))

-- ---- rows of lists

list_before : (xs ys : List (List ℤ)) (a : ℕ) → a < length xs → slice_index_or (xs ++ ys) a [] ≡ slice_index_or xs a []
list_before [] ys a lt = absurd (omega (arith, lt))
list_before (x ∷ xs) ys zero lt = refl
list_before (x ∷ xs) ys (suc a) lt = list_before xs ys a (omega (arith, lt))

list_at_end : (xs : List (List ℤ)) (y : List ℤ) → slice_index_or (xs ++ y ∷ []) (length xs) [] ≡ y
list_at_end [] y = refl
list_at_end (x ∷ xs) y = list_at_end xs y

list_past : (xs : List (List ℤ)) (a : ℕ) → length xs ≤ a → slice_index_or xs a [] ≡ []
list_past [] a le = refl
list_past (x ∷ xs) zero le = absurd (omega (arith, le))
list_past (x ∷ xs) (suc a) le = list_past xs a (omega (arith, le))

list_past_end : (xs : List (List ℤ)) (y : List ℤ) (a : ℕ) → length xs < a → slice_index_or (xs ++ y ∷ []) a [] ≡ []
list_past_end [] y zero lt = absurd (omega (arith, lt))
list_past_end [] y (suc a) lt = refl
list_past_end (x ∷ xs) y zero lt = absurd (omega (arith, lt))
list_past_end (x ∷ xs) y (suc a) lt = list_past_end xs y a (omega (arith, lt))

listed-push : (ls : List (List ℤ)) (l : List ℤ) (q : Place)
    → listed (ls ++ l ∷ []) q ≡ (if nat_eq q.array (length ls) then slice_get l q.index else listed ls q)
listed-push ls l q = by_eq (nat_eq q.array (length ls)) refl
  where
    by_side : (b : Bool) → nat_lt q.array (length ls) ≡ b → (q.array ≡ length ls → ⊥) → listed (ls ++ l ∷ []) q ≡ listed ls q
    by_side true lt ne = ap (λ m. slice_get m q.index) (list_before ls (l ∷ []) q.array (ltb-true _ _ lt))
    by_side false ge ne =
        let le : length ls ≤ q.array = search rules in
        ap (λ m. slice_get m q.index) (list_past_end ls l q.array (omega (arith, le, ne)) ∙ sym (list_past ls q.array le))

    by_eq : (t : Bool) → nat_eq q.array (length ls) ≡ t
        → listed (ls ++ l ∷ []) q ≡ (if t then slice_get l q.index else listed ls q)
    by_eq true e =
        ap (λ a. slice_get (slice_index_or (ls ++ l ∷ []) a []) q.index) (eqb-true _ _ e)
        ∙ ap (λ m. slice_get m q.index) (list_at_end ls l)
    by_eq false e = by_side (nat_lt q.array (length ls)) refl (eqb-false _ _ e)

-- the rows so far have the numbers of the lists so far
pub record AreListed (rs : List BlockRow) (ls : List (List ℤ)) : Type 0 where
  pub long : length rs ≡ length ls
  pub same : (q : Place) → held_in_list rs q ≡ option_map Owned (listed ls q)

pub listed-more : (rs : List BlockRow) (ls : List (List ℤ)) (r : BlockRow) (l : List ℤ) → AreListed rs ls
    → ((k : ℕ) → in_row r k ≡ option_map Owned (slice_get l k)) → AreListed (rs ++ r ∷ []) (ls ++ l ∷ [])
listed-more rs ls r l are here = record { long = long; same = same }
  where
    long : length (rs ++ r ∷ []) ≡ length (ls ++ l ∷ [])
    long = length-append rs (r ∷ []) ∙ ap (λ n. n + 1) are.long ∙ sym (length-append ls (l ∷ []))

    by_eq : (q : Place) (t : Bool) → held_of (if t then block_in r (q.index / 256) else block_of rs q.array (q.index / 256)) (q.index % 256)
        ≡ option_map Owned (if t then slice_get l q.index else listed ls q)
    by_eq q true = here q.index
    by_eq q false = are.same q

    same : (q : Place) → held_in_list (rs ++ r ∷ []) q ≡ option_map Owned (listed (ls ++ l ∷ []) q)
    same q =
        ap (λ o. held_of o (q.index % 256)) (block_of-push rs r q.array (q.index / 256))
        ∙ by_eq q (nat_eq q.array (length rs))
        ∙ ap (λ n. option_map Owned (if nat_eq q.array n then slice_get l q.index else listed ls q)) are.long
        ∙ sym (ap (option_map Owned) (listed-push ls l q))

pub listed-held : (rs : List BlockRow) (ls : List (List ℤ)) → AreListed rs ls → held_in_list rs ≡ as_owned (listed ls)
listed-held rs ls are = λ t q. are.same q t

-- ---- and back

-- what the blocks of a row hold that come before the n-th
abbrev pub row_to : BlockRow → ℕ → ℕ → Option Held
row_to r n k = if nat_lt (k / 256) (r.first + n) then in_row r k else None

pub row_to-begun : (r : BlockRow) (k : ℕ) → row_to r 0 k ≡ None
row_to-begun r k = by_test (nat_lt (k / 256) (r.first + 0)) refl
  where
    by_test : (t : Bool) → nat_lt (k / 256) (r.first + 0) ≡ t → (if t then in_row r k else None) ≡ None
    by_test true e =
        let lt : k / 256 < r.first = omega (arith, ltb-true _ _ e) in
        ap (λ o. held_of o (k % 256)) (row_from-before r.first r.blocks.items (k / 256) lt)
    by_test false e = refl

pub row_to-done : (r : BlockRow) (n k : ℕ) → length r.blocks.items ≤ n → row_to r n k ≡ in_row r k
row_to-done r n k all = by_test (nat_lt (k / 256) (r.first + n)) refl
  where
    by_test : (t : Bool) → nat_lt (k / 256) (r.first + n) ≡ t → (if t then in_row r k else None) ≡ in_row r k
    by_test true e = refl
    by_test false e =
        let ge : r.first + length r.blocks.items ≤ k / 256 = let h : r.first + n ≤ k / 256 = search rules in omega (arith, h, all) in
        sym (ap (λ o. held_of o (k % 256)) (row_from-behind r.first r.blocks.items (k / 256) ge))

-- one list more
items_push : (vs : List (Vec ℤ Global)) (v : Vec ℤ Global) → map (λ v. v.items) (vs ++ v ∷ []) ≡ map (λ v. v.items) vs ++ v.items ∷ []
items_push [] v = refl
items_push (x ∷ vs) v = ap (λ xs. x.items ∷ xs) (items_push vs v)

pub lists-more : (vs : List (Vec ℤ Global)) (i : ℕ) (v : Vec ℤ Global) → i < length vs → v ≡ get_or vs i v
    → map (λ v. v.items) (take (i + 1) vs) ≡ map (λ v. v.items) (take i vs) ++ v.items ∷ []
lists-more vs i v lt is =
    ap (map (λ v. v.items)) (take_more vs i v lt ∙ ap (λ x. take i vs ++ x ∷ []) (sym is)) ∙ items_push (take i vs) v
