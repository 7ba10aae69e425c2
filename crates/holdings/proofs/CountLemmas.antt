-- The number of places of windows in blocks that aren't wholly inside the windows.
use Rattle.std.proofs.Common.{◌≡◌, ℕ, zero, suc, ◌+◌, ◌-◌, ◌*◌, ◌/◌, ◌%◌, ◌<◌, ◌≤◌, min, List, ◌∷◌, ◌++◌, length}
use Rattle.std.proofs.Common.{Bool, inl, inr, true, false, refl, ap, ◌∙◌, arith, subst, cond}
use Rattle.std.proofs.lemmas.Bool.{eqb-true, leb-true, and_parts}
use Rattle.std.proofs.lemmas.List.Sums.{sum_by-cons, sum_by-append}
use Rattle.std.specs.List.{count_by, range_with_len}
use Rattle.std.specs.Prelude.{◌⊎◌, not, nat_eq}
use Rattle.sections.specs.Covers.{has}
use Rattle.sections.specs.Place.{Window}
use Rattle.holdings.specs.Copied.{LiesWithin, has_block}
use Rattle.sections.proofs.Covering.{is_in-from}
use Rattle.blocks.specs.Held.{Held, Map}
use Rattle.holdings.specs.Carvings.{IsWhole}
use Rattle.holdings.specs.Pieces.{piece_length, piece, behind_piece}

-- ---- counting along a row

pub range-append : (a m n : ℕ) → range_with_len a (m + n) ≡ range_with_len a m ++ range_with_len (a + m) n
range-append a zero n =
    let e : 0 + n ≡ n = omega arith in let f : a ≡ a + 0 = omega arith in
    ap (range_with_len a) e ∙ ap (λ k. range_with_len k n) f
range-append a (suc m) n =
    let e : suc m + n ≡ suc (m + n) = omega arith in let f : a + 1 + m ≡ a + suc m = omega arith in
    ap (range_with_len a) e
    ∙ ap (λ xs. a ∷ xs) (range-append (a + 1) m n ∙ ap (λ k. range_with_len (a + 1) m ++ range_with_len k n) f)

count-append : (p : ℕ → Bool) (xs ys : List ℕ) → count_by p (xs ++ ys) ≡ count_by p xs + count_by p ys
count-append p xs ys = sum_by-append (λ x. cond (p x) 1 0) xs ys

pub count-cons : (p : ℕ → Bool) (x : ℕ) (xs : List ℕ) → count_by p (x ∷ xs) ≡ cond (p x) 1 0 + count_by p xs
count-cons p x xs = sum_by-cons (λ x. cond (p x) 1 0) x xs

pub count_range-split : (p : ℕ → Bool) (a m n : ℕ)
    → count_by p (range_with_len a (m + n)) ≡ count_by p (range_with_len a m) + count_by p (range_with_len (a + m) n)
count_range-split p a m n = ap (count_by p) (range-append a m n) ∙ count-append p (range_with_len a m) (range_with_len (a + m) n)

-- if all places pass
pub count_range-all : (p : ℕ → Bool) (a n : ℕ) → ((i : ℕ) → a ≤ i → i < a + n → p i ≡ true) → count_by p (range_with_len a n) ≡ n
count_range-all p a zero all = refl
count_range-all p a (suc n) all =
    let rest = count_range-all p (a + 1) n (λ i low high. all i (omega arith) (omega arith)) in
    let one : cond {A = ℕ} (p a) 1 0 ≡ 1 = ap (λ b. cond {A = ℕ} b 1 0) (all a (omega arith) (omega arith)) in
    count-cons p a (range_with_len (a + 1) n) ∙ omega (arith, one, rest)

-- ---- what is left of a window

-- the number of places of one window in blocks that aren't wholly inside another
abbrev pub split_from : (lengths : ℕ → ℕ) → (w v : Window) → ℕ
split_from lengths w v =
    count_by (λ i. not (has_block (lengths w.array) w (i / 256))) (range_with_len v.at v.length)

pub split_from-cut : (lengths : ℕ → ℕ) (w v : Window)
    → split_from lengths w v ≡ split_from lengths w (piece v) + split_from lengths w (behind_piece v)
split_from-cut lengths w v =
    let e : v.length ≡ piece_length v + (v.length - piece_length v) = omega arith in
    let p : ℕ → Bool = λ i. not (has_block (lengths w.array) w (i / 256)) in
    ap (λ n. count_by p (range_with_len v.at n)) e ∙ count_range-split p v.at (piece_length v) (v.length - piece_length v)

same_block : (v : Window) (i : ℕ) → v.at ≤ i → i < v.at + piece_length v → i / 256 ≡ v.at / 256
same_block v i low high = omega arith

-- a piece costs nothing if its block is wholly inside, and in any case at most its places
pub split_from-piece : (lengths : ℕ → ℕ) (w v : Window) (n : ℕ) → n ≤ (piece v).length
    → (has_block (lengths w.array) w (v.at / 256) ≡ true → n ≡ 0) → n ≤ split_from lengths w (piece v)
split_from-piece lengths w v n most free = by_block (has_block (lengths w.array) w (v.at / 256)) refl
  where
    by_block : (b : Bool) → has_block (lengths w.array) w (v.at / 256) ≡ b → n ≤ split_from lengths w (piece v)
    by_block true e = omega (arith, free e)
    by_block false e =
        let all = count_range-all (λ i. not (has_block (lengths w.array) w (i / 256))) v.at (piece_length v)
        (λ i low high. ap (λ k. not (has_block (lengths w.array) w k)) (same_block v i low high) ∙ ap not e) in
        omega (arith, all, most)

-- what is left of a window that is gone through from its beginning
pub record IsRest (w v : Window) : Type 0 where
  pub array : v.array ≡ w.array
  pub end : v.at + v.length ≡ w.at + w.length
  pub low : w.at ≤ v.at
  -- it starts where the window does, or at the start of a block
  pub at : 0 < v.length → (v.at ≡ w.at) ⊎ (v.at % 256 ≡ 0)

pub rest-whole : (w : Window) → IsRest w w
rest-whole w = record { array = refl; end = refl; low = omega arith; at = λ some. inl refl }

pub rest-behind : {w v : Window} → IsRest w v → IsRest w (behind_piece v)
rest-behind {w} {v} r = record {
  array = r.array;
  end = omega (arith, r.end);
  low = omega (arith, r.low);
  at = λ some. inr (omega (arith, some));
}

-- all places of a block that is wholly inside a window lie in the piece of what is left of it
pub whole_piece : (length : ℕ) (w v : Window) → IsRest w v → 0 < v.length → has_block length w (v.at / 256) ≡ true
    → (i : ℕ) → i / 256 ≡ v.at / 256 → i < length → (v.at ≤ i) × (i < v.at + piece_length v)
whole_piece length w v r some has i same inside =
    let low = leb-true w.at (256 * (v.at / 256)) (and_parts _ _ has).0 in
    let high = leb-true (min length (256 * (v.at / 256) + 256)) (w.at + w.length) (and_parts _ _ has).1 in
    let at = r.at some in (omega (arith, low, high, r.end, at), omega (arith, low, high, r.end, at))

-- if a block of an array is wholly inside a window, its piece is all that is held of the block
pub rest-whole_piece : (m : Map Held) (lengths : ℕ → ℕ) (w v : Window) → IsRest w v → 0 < v.length → LiesWithin lengths m
    → has_block (lengths w.array) w (v.at / 256) ≡ true → IsWhole m (piece v)
rest-whole_piece m lengths w v r some within has q block held =
    let parts = and_parts (nat_eq q.array v.array) (nat_eq (q.index / 256) (v.at / 256)) block in
    let array = eqb-true q.array v.array parts.0 in
    let number = eqb-true (q.index / 256) (v.at / 256) parts.1 in
    let short : q.index < lengths w.array = subst (λ a. q.index < lengths a) (array ∙ r.array) (within q held) in
    let at = whole_piece (lengths w.array) w v r some has q.index number short in
    is_in-from (piece v) q (record { array = array; low = at.0; high = at.1 })

-- what a piece costs, and what is left
pub costs-more : (m : Map Held) (lengths : ℕ → ℕ) (w v : Window) (n : ℕ) → IsRest w v → 0 < v.length → LiesWithin lengths m
    → n ≤ (piece v).length → (IsWhole m (piece v) → n ≡ 0)
    → n + split_from lengths w (behind_piece v) ≤ split_from lengths w v
costs-more m lengths w v n r some within most free =
    let here = split_from-piece lengths w v n most (λ has. free (rest-whole_piece m lengths w v r some within has)) in
    omega (arith, split_from-cut lengths w v, here)
