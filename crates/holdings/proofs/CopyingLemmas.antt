-- Numbers of blocks at their places in a list.
use Rattle.std.proofs.Common.{◌≡◌, ℕ, ◌+◌, ◌-◌, ◌*◌, ◌/◌, ◌%◌, ◌<◌, ◌≤◌, min, List, ◌++◌, length, get_or, take, drop}
use Rattle.std.proofs.Common.{Option, Some, None, Bool, true, false, refl, sym, ap, ◌∙◌, arith, rules, option_map, pos}
use Rattle.std.proofs.lemmas.Bool.{lt-ltb, ltb-true, le-ltb}
use Rattle.std.proofs.lemmas.List.{get_or-append-add, get_or-drop, get_or-take, get_or_append_left, length-take-le}
use Rattle.std.specs.List.{slice_range}
use Rattle.std.specs.Prelude.{ℤ, nat_lt, unwrap_or, if◌then◌else◌}
use Rattle.blocks.specs.Blocks.{held_at, number_at}
use Rattle.blocks.specs.Held.{Held, number_of}
use Rattle.blocks.specs.declared.block.Block.{Block}
use Rattle.holdings.specs.Rows.{block_in, held_of, in_row}
use Rattle.holdings.specs.declared.row.BlockRow.{BlockRow}
use Rattle.holdings.proofs.MakingLemmas.{row_to}
use borrow.Rule.Slice.PartMut.{put_mid}

-- ---- a list of which a part was written

put-before : (a k : ℕ) (xs ys : List ℤ) (i : ℕ) (d : ℤ) → a ≤ length xs → i < a → get_or (put_mid a k xs ys) i d ≡ get_or xs i d
put-before a k xs ys i d le lt =
    let short : length (take a xs) ≡ a = length-take-le a xs le in
    get_or_append_left (take a xs) (ys ++ drop k (drop a xs)) d i (omega (arith, short, lt)) ∙ get_or-take a xs i d lt

put-inside : (a k : ℕ) (xs ys : List ℤ) (i : ℕ) (d : ℤ) → a ≤ length xs → a ≤ i → i < a + length ys
    → get_or (put_mid a k xs ys) i d ≡ get_or ys (i - a) d
put-inside a k xs ys i d le low high =
    let short : length (take a xs) ≡ a = length-take-le a xs le in
    let at : i ≡ length (take a xs) + (i - a) = omega (arith, short, low) in
    ap (λ j. get_or (put_mid a k xs ys) j d) at
    ∙ get_or-append-add (take a xs) (ys ++ drop k (drop a xs)) (i - a) d
    ∙ get_or_append_left ys (drop k (drop a xs)) d (i - a) (omega (arith, low, high))

put-behind : (a k : ℕ) (xs ys : List ℤ) (i : ℕ) (d : ℤ) → a ≤ length xs → length ys ≡ k → a + k ≤ i
    → get_or (put_mid a k xs ys) i d ≡ get_or xs i d
put-behind a k xs ys i d le same low =
    let short : length (take a xs) ≡ a = length-take-le a xs le in
    let at : i ≡ length (take a xs) + (length ys + (i - a - k)) = omega (arith, short, low, same) in
    let back : a + (k + (i - a - k)) ≡ i = omega (arith, low) in
    ap (λ j. get_or (put_mid a k xs ys) j d) at
    ∙ get_or-append-add (take a xs) (ys ++ drop k (drop a xs)) (length ys + (i - a - k)) d
    ∙ get_or-append-add ys (drop k (drop a xs)) (i - a - k) d
    ∙ get_or-drop k (drop a xs) (i - a - k) d
    ∙ get_or-drop a xs (k + (i - a - k)) d
    ∙ ap (λ j. get_or xs j d) back

part-inside : (xs : List ℤ) (a e i : ℕ) (d : ℤ) → a ≤ i → i < e → get_or (slice_range xs a e) (i - a) d ≡ get_or xs i d
part-inside xs a e i d low high =
    let at : a + (i - a) ≡ i = omega (arith, low) in
    get_or-take (e - a) (drop a xs) (i - a) d (omega (arith, low, high)) ∙ get_or-drop a xs (i - a) d ∙ ap (λ j. get_or xs j d) at

-- ---- one block more

row_to-same : (r : BlockRow) (n k : ℕ) → (k / 256 ≡ r.first + n → ⊥) → row_to r (n + 1) k ≡ row_to r n k
row_to-same r n k ne = by_test (nat_lt (k / 256) (r.first + n)) refl
  where
    by_test : (t : Bool) → nat_lt (k / 256) (r.first + n) ≡ t → row_to r (n + 1) k ≡ (if t then in_row r k else None)
    by_test true e =
        let lt : k / 256 < r.first + (n + 1) = omega (arith, ltb-true _ _ e) in
        ap (λ b. if b then in_row r k else None) (lt-ltb _ _ lt)
    by_test false e =
        let ge : r.first + n ≤ k / 256 = search rules in
        let no : nat_lt (k / 256) (r.first + (n + 1)) ≡ false = le-ltb (k / 256) (r.first + (n + 1)) (omega (arith, ge, ne)) in
        ap (λ b. if b then in_row r k else None) no

row_to-none : (r : BlockRow) (n k : ℕ) → r.first + n ≤ k / 256 → row_to r n k ≡ None
row_to-none r n k le = ap (λ b. if b then in_row r k else None) (le-ltb (k / 256) (r.first + n) le)

row_to-here : (r : BlockRow) (n k : ℕ) → k / 256 ≡ r.first + n → row_to r (n + 1) k ≡ in_row r k
row_to-here r n k at =
    let lt : k / 256 < r.first + (n + 1) = omega (arith, at) in ap (λ b. if b then in_row r k else None) (lt-ltb _ _ lt)

-- the numbers so far are in the list, and the rest of it is unchanged
abbrev pub IsCopied : BlockRow → ℕ → (first now : List ℤ) → Type 0
IsCopied r n first now = (k : ℕ) → k < length first
    → get_or now k (pos 0) ≡ unwrap_or (option_map number_of (row_to r n k)) (get_or first k (pos 0))

-- the block has no place in the list
pub copied-past : (r : BlockRow) (n : ℕ) (first now : List ℤ) → IsCopied r n first now → length first ≤ (r.first + n) * 256
    → IsCopied r (n + 1) first now
copied-past r n first now copied past k lt =
    copied k lt ∙ ap (λ (o : Option Held). unwrap_or (option_map number_of o) (get_or first k (pos 0)))
    (sym (row_to-same r n k (λ e. absurd (omega (arith, e, past, lt)))))

-- the numbers of the block were copied to the part
pub copied-more : (r : BlockRow) (n : ℕ) (b : Block) (first now part : List ℤ) (to : ℕ) → IsCopied r n first now → length now ≡ length first
    → block_in r (r.first + n) ≡ Some b → to ≡ min (length now) ((r.first + n) * 256 + 256) → (r.first + n) * 256 < to
    → length part ≡ to - (r.first + n) * 256
    → ((k : ℕ) → k < to - (r.first + n) * 256 → get_or part k (pos 0)
    ≡ unwrap_or (number_at b k) (get_or (slice_range now ((r.first + n) * 256) to) k (pos 0)))
    → IsCopied r (n + 1) first (put_mid ((r.first + n) * 256) (to - (r.first + n) * 256) now part)
copied-more r n b first now part to copied long is end some same says k lt = by_place (nat_lt k from) refl (nat_lt k to) refl
  where
    from : ℕ
    from = (r.first + n) * 256

    elsewhere : (k / 256 ≡ r.first + n → ⊥) → get_or (put_mid from (to - from) now part) k (pos 0) ≡ get_or now k (pos 0)
        → get_or (put_mid from (to - from) now part) k (pos 0)
        ≡ unwrap_or (option_map number_of (row_to r (n + 1) k)) (get_or first k (pos 0))
    elsewhere ne e =
        e ∙ copied k lt ∙ ap (λ (o : Option Held). unwrap_or (option_map number_of o) (get_or first k (pos 0))) (sym (row_to-same r n k ne))

    here : from ≤ k → k < to → get_or (put_mid from (to - from) now part) k (pos 0)
        ≡ unwrap_or (option_map number_of (row_to r (n + 1) k)) (get_or first k (pos 0))
    here low high =
        let block : k / 256 ≡ r.first + n = omega (arith, low, high, end) in
        let offset : k - from ≡ k % 256 = omega (arith, low, high, end) in
        let was : get_or now k (pos 0) ≡ get_or first k (pos 0) =
        copied k lt ∙ ap (λ (o : Option Held). unwrap_or (option_map number_of o) (get_or first k (pos 0))) (row_to-none r n k (omega (arith, block))) in
        let held : row_to r (n + 1) k ≡ held_at b (k % 256) =
        row_to-here r n k block ∙ ap (λ j. held_of (block_in r j) (k % 256)) block ∙ ap (λ o. held_of o (k % 256)) is in
        put-inside from (to - from) now part k (pos 0) (omega (arith, some, end)) low (omega (arith, same, low, high))
        ∙ says (k - from) (omega (arith, low, high))
        ∙ ap (unwrap_or (number_at b (k - from))) (part-inside now from to k (pos 0) low high ∙ was)
        ∙ ap (λ j. unwrap_or (number_at b j) (get_or first k (pos 0))) offset
        ∙ ap (λ (o : Option Held). unwrap_or (option_map number_of o) (get_or first k (pos 0))) (sym held)

    by_place : (s : Bool) → nat_lt k from ≡ s → (t : Bool) → nat_lt k to ≡ t → get_or (put_mid from (to - from) now part) k (pos 0)
        ≡ unwrap_or (option_map number_of (row_to r (n + 1) k)) (get_or first k (pos 0))
    by_place true e t f =
        let low : k < from = ltb-true _ _ e in
        elsewhere (λ g. absurd (omega (arith, g, low))) (put-before from (to - from) now part k (pos 0) (omega (arith, some, end)) low)
    by_place false e true f = let low : from ≤ k = search rules in here low (ltb-true _ _ f)
    by_place false e false f =
        let ge : to ≤ k = search rules in
        let full : to ≡ from + 256 = omega (arith, end, ge, lt, long) in
        elsewhere (λ g. absurd (omega (arith, g, ge, full)))
        (put-behind from (to - from) now part k (pos 0) (omega (arith, some, end)) same (omega (arith, some, ge)))
