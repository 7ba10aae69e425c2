-- Rows with more blocks, which hold nothing.
use Rattle.std.proofs.Common.{◌≡◌, ℕ, ◌+◌, ◌-◌, ◌<◌, ◌≤◌, List, ◌++◌, length, get_or}
use Rattle.std.proofs.Common.{Option, Some, None, Bool, true, false, inl, inr, refl, sym, ap, ◌∙◌, arith, rules, ◌⊎◌, IsSome, is_some}
use Rattle.std.proofs.lemmas.Bool.{cases_Bool, leb-true, ltb-true, false≢true}
use Rattle.std.proofs.lemmas.List.{length-append, get_or-append-add, get_or_append_left}
use Rattle.std.specs.Prelude.{nat_le, nat_lt, slice_get, if◌then◌else◌}
use Rattle.blocks.specs.Numbers.{row_from}
use Rattle.blocks.specs.declared.block.Block.{Block}
use Rattle.blocks.specs.declared.block.Block.TheVariants.{Empty}
use Rattle.blocks.proofs.RowLemmas.{row_from-in, row_from-before, row_from-behind}
use Rattle.holdings.specs.Rows.{held_of, block_of, IsAsBefore, Widens}
use Rattle.holdings.specs.declared.row.BlockRow.{BlockRow}

pub some_not_none : (o : Option Block) → IsSome o → o ≡ None → ⊥
some_not_none o some none = false≢true (sym (ap is_some none) ∙ some)

pub before-kept : (o n : Option Block) → IsAsBefore o n → IsSome o → n ≡ o
before-kept o n (inl e) some = e
before-kept o n (inr w) some = absurd (some_not_none o some w.0)

pub before-same : (o n : Option Block) → IsAsBefore o n → (k : ℕ) → held_of n k ≡ held_of o k
before-same o n (inl e) k = ap (λ b. held_of b k) e
before-same o n (inr w) k = w.1 k ∙ sym (ap (λ b. held_of b k) w.0)

pub before-trans : (o m n : Option Block) → IsAsBefore o m → IsAsBefore m n → IsAsBefore o n
before-trans o m n (inl e) (inl f) = inl (f ∙ e)
before-trans o m n (inl e) (inr w) = inr (sym e ∙ w.0, w.1)
before-trans o m n (inr w) (inl f) = inr (w.0, λ k. ap (λ b. held_of b k) f ∙ w.1 k)
before-trans o m n (inr w) (inr v) = inr (w.0, v.1)

-- some more before the first
pub before-append : (first number : ℕ) (es xs : List Block) (b : ℕ) → number + length es ≡ first
    → ((j k : ℕ) → held_of (row_from number es j) k ≡ None)
    → IsAsBefore (row_from first xs b) (row_from number (es ++ xs) b)
before-append first number es xs b at none = by_low (nat_le first b) refl
  where
    long : length (es ++ xs) ≡ length es + length xs
    long = length-append es xs

    by_there : b < first → (nat_le number b ≡ true) ⊎ (nat_le number b ≡ false) → IsAsBefore (row_from first xs b) (row_from number (es ++ xs) b)
    by_there lt (inl e) =
        let low : number ≤ b = leb-true _ _ e in
        let here = row_from-in number (es ++ xs) b Empty low (omega (arith, long, at, lt)) in
        let there = row_from-in number es b Empty low (omega (arith, at, lt)) in
        let same : get_or (es ++ xs) (b - number) Empty ≡ get_or es (b - number) Empty = get_or_append_left es xs Empty (b - number) (omega (arith, at, lt)) in
        inr (row_from-before first xs b lt, λ k. ap (λ o. held_of o k) (here ∙ ap Some same ∙ sym there) ∙ none b k)
    by_there lt (inr e) =
        let low : b < number = search rules in
        inl (row_from-before number (es ++ xs) b low ∙ sym (row_from-before first xs b lt))

    by_high : first ≤ b → (t : Bool) → nat_lt b (first + length xs) ≡ t → IsAsBefore (row_from first xs b) (row_from number (es ++ xs) b)
    by_high low true e =
        let high = ltb-true _ _ e in
        let here = row_from-in number (es ++ xs) b Empty (omega (arith, at, low)) (omega (arith, long, at, high)) in
        let i : b - number ≡ length es + (b - first) = omega (arith, at, low) in
        let same : get_or (es ++ xs) (b - number) Empty ≡ get_or xs (b - first) Empty =
        ap (λ j. get_or (es ++ xs) j Empty) i ∙ get_or-append-add es xs (b - first) Empty in
        inl (here ∙ ap Some same ∙ sym (row_from-in first xs b Empty low high))
    by_high low false e =
        let high : first + length xs ≤ b = search rules in
        inl (row_from-behind number (es ++ xs) b (omega (arith, long, at, high)) ∙ sym (row_from-behind first xs b high))

    by_low : (t : Bool) → nat_le first b ≡ t → IsAsBefore (row_from first xs b) (row_from number (es ++ xs) b)
    by_low true e = by_high (leb-true _ _ e) (nat_lt b (first + length xs)) refl
    by_low false e = let lt : b < first = search rules in by_there lt (cases_Bool (nat_le number b))

-- a block that is there
pub row-there : (first : ℕ) (xs : List Block) (b : ℕ) → first ≤ b → b < first + length xs → IsSome (row_from first xs b)
row-there first xs b low high = ap is_some (row_from-in first xs b Empty low high)

pub widens-trans : (xs ys zs : List BlockRow) → Widens xs ys → Widens ys zs → Widens xs zs
widens-trans xs ys zs v w = λ i j. before-trans (block_of xs i j) (block_of ys i j) (block_of zs i j) (v i j) (w i j)

-- a row of blocks that hold nothing
pub empty-row : (first : ℕ) (es : List Block) → ((i k : ℕ) → held_of (slice_get es i) k ≡ None) → (j k : ℕ)
    → held_of (row_from first es j) k ≡ None
empty-row first es none j k = by_low (nat_le first j)
  where
    by_low : (t : Bool) → held_of (if t then slice_get es (j - first) else None) k ≡ None
    by_low true = none (j - first) k
    by_low false = refl
