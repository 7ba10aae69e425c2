-- What comes in, the last first.
use Rattle.std.proofs.Common.{◌≡◌, ℕ, ◌+◌, ◌-◌, ◌*◌, ◌/◌, ◌%◌, ◌<◌, ◌≤◌, min, List, [], ◌∷◌, ◌++◌, length, is_some, cond}
use Rattle.std.proofs.Common.{Option, Some, None, Bool, true, false, refl, sym, ap, ◌∙◌, arith, rules, subst, option_map}
use Rattle.std.proofs.lemmas.Bool.{and_from, and_parts, eq-eqb, eqb-false, eqb-true, leb-true, le-leb, ltb-true, ne_eqb, lt-leb}
use Rattle.std.proofs.lemmas.List.{length-append}
use Rattle.std.specs.List.{range_with_len, sum_by}
use Rattle.std.specs.Prelude.{ℤ, ◌&&◌, ◌^◌, nat_eq, nat_le, nat_lt, if◌then◌else◌}
use Rattle.std.proofs.Math.Bool.{and-false}
use Rattle.blocks.proofs.BlockLemmas.{some_there, some_from_there}
use Rattle.sections.specs.Covers.{has, is_cover}
use Rattle.sections.specs.Place.{Place, Window}
use Rattle.blocks.specs.Numbers.{row_from}
use Rattle.blocks.specs.Blocks.{held_at, owned_at}
use Rattle.blocks.specs.Counts.{how_many}
use Rattle.blocks.specs.Held.{Held, Map, Owned, as_owned, first_of, over, owned, owned_number}
use Rattle.blocks.specs.declared.block.Block.{Block}
use Rattle.blocks.proofs.RowLemmas.{row_from-before, row_from-behind, row_from-push, row_from-there}
use Rattle.holdings.specs.Copied.{CopiesSplit, IsCoverOf, IsInArrays, LiesWithin, as_count, copied_into, copied_into_array, paste_copies, split_where}
use Rattle.holdings.specs.Rooms.{HasAllRoom, HasRoom, HasRowRoom}
use Rattle.holdings.specs.Rows.{block_in, block_of, held_in_list, held_of, in_block, in_row, place_at}
use Rattle.holdings.specs.declared.row.BlockRow.{BlockRow}
use Rattle.holdings.proofs.CarvingLemmas.{at_most}
use Rattle.holdings.proofs.CountedLemmas.{copied-block, copied_into-none, into_array-from, into_array-none, into_array-same, sum_range-front, sum_range-none, sum_range-upto}
use Rattle.holdings.proofs.PastedLemmas.{any_has, any-has, block-costs, split-all, split-both, split-less}
use Rattle.holdings.proofs.CopyLemmas.{block_of-push}
use Rattle.holdings.proofs.WritingLemmas.{block_of-past}

-- ---- a row, block after block

-- the maximum cost of a paste of a row
abbrev pub RowCosts : (own : Map Held) (a : ℕ) (r : BlockRow) (test : Place → Bool) (n : ℕ) → Type 0
RowCosts own a r test n = (lengths : ℕ → ℕ) (ws : List Window)
    → ((q : Place) → nat_eq q.array a ≡ true → (own q ≡ None → ⊥) → q.index < lengths a) → is_cover ws ≡ true
    → ((q : Place) → nat_eq q.array a ≡ true → has ws q ≡ is_some (owned_number (in_row r q.index)))
    → n ≤ split_where test lengths ws

-- the places of the blocks from the n-th number on
abbrev pub from_block : (a n : ℕ) → Place → Bool
from_block a n q = nat_eq q.array a && nat_le n (q.index / 256)

-- what a row owns
abbrev pub owned_in_row : BlockRow → Map ℤ
owned_in_row r q = owned_number (in_row r q.index)

-- the exact number of places that are copied into the blocks of an array, from the n-th number on
abbrev pub from_blocks : (own : Map Held) (a : ℕ) (r : BlockRow) (n : ℕ) → ℕ
from_blocks own a r n = sum_by (copied_into own (owned_in_row r) a) (range_with_len n (16384 - n))

-- all blocks of a row except the remaining ones have come in
pub record PasteSoFar (first : Map Held) (start own : List BlockRow) (a : ℕ) (r : BlockRow) (xs : List Block) (n : ℕ) : Type 0 where
  pub same : (j : ℕ) → j < r.first + length xs → row_from r.first xs j ≡ block_in r j
  pub room : (j : ℕ) (theirs : Block) → row_from r.first xs j ≡ Some theirs → HasRoom own a j theirs
  pub pasted : (q : Place) → held_in_list own q ≡ (if from_block a (r.first + length xs) q
      then first_of (option_map Owned (owned_number (in_row r q.index))) (first q) else first q)
  pub costs : RowCosts first a r (from_block a (r.first + length xs)) n
  pub counted : as_count n ≡ as_count (from_blocks first a r (r.first + length xs))
  pub keeps : (i j : ℕ) (b : Block) → HasRoom start i j b → nat_eq i a ≡ false → HasRoom own i j b

next_array : (n i : ℕ) → (i ≡ n → ⊥) → nat_le n i ≡ nat_le (n + 1) i
next_array n i ne = by_test (nat_le (n + 1) i) refl
  where
    by_test : (t : Bool) → nat_le (n + 1) i ≡ t → nat_le n i ≡ t
    by_test true e = le-leb n i (omega (arith, leb-true (n + 1) i e))
    by_test false e = let gt : i < n + 1 = search rules in lt-leb n i (omega (arith, gt, ne))

next_count : (n i : ℕ) → cond (nat_le (n + 1) i) 1 0 + cond (nat_eq i n) 1 0 ≤ cond (nat_le n i) 1 0
next_count n i = by_eq (nat_eq i n) refl
  where
    by_eq : (t : Bool) → nat_eq i n ≡ t → cond (nat_le (n + 1) i) 1 0 + cond t 1 0 ≤ cond (nat_le n i) 1 0
    by_eq false e = omega (arith, ap (λ c. cond {A = ℕ} c 1 0) (next_array n i (eqb-false i n e)))
    by_eq true e =
        let at = eqb-true i n e in
        let yes : nat_le n i ≡ true = le-leb n i (omega (arith, at)) in
        let no : nat_le (n + 1) i ≡ false = lt-leb (n + 1) i (omega (arith, at)) in
        omega (arith, ap (λ c. cond {A = ℕ} c 1 0) yes, ap (λ c. cond {A = ℕ} c 1 0) no)

-- the last of some blocks
last-block : (first : ℕ) (xs : List Block) (b : Block) (j : ℕ) → j ≡ first + length xs → row_from first (xs ++ b ∷ []) j ≡ Some b
last-block first xs b j e =
    row_from-push first xs b (first + length xs) refl j
    ∙ ap (λ c. if c then Some b else row_from first xs j) (eq-eqb (first + length xs) j (sym e))

other-block : (first : ℕ) (xs : List Block) (b : Block) (j : ℕ) → j < first + length xs → row_from first (xs ++ b ∷ []) j ≡ row_from first xs j
other-block first xs b j lt =
    row_from-push first xs b (first + length xs) refl j
    ∙ ap (λ c. if c then Some b else row_from first xs j) (ne_eqb (first + length xs) j (λ e. absurd (omega (arith, e, lt))))

-- what the last block of a row did
pub record PastedIn (own own' : List BlockRow) (a m : ℕ) (b : Block) (k : ℕ) : Type 0 where
  pub pasted : (q : Place) → held_in_list own' q ≡ (if in_block a m q
      then first_of (option_map Owned (owned_at b (q.index % 256))) (held_in_list own q) else held_in_list own q)
  pub moved : ((q : Place) → in_block a m q ≡ true → (held_in_list own q ≡ None → ⊥) → owned_at b (q.index % 256) ≡ None → ⊥) → k ≡ 0
  pub counted : (((q : Place) → in_block a m q ≡ true → (held_in_list own q ≡ None → ⊥) → owned_at b (q.index % 256) ≡ None → ⊥) → ⊥)
      → k ≡ how_many (owned_at b) 256
  pub keeps : (i j : ℕ) (x : Block) → HasRoom own i j x → (nat_eq i a && nat_eq j m) ≡ false → HasRoom own' i j x

from_next : (a m : ℕ) (q : Place) → in_block a m q ≡ false → from_block a m q ≡ from_block a (m + 1) q
from_next a m q e = by_array (nat_eq q.array a) refl
  where
    by_le : (nat_eq (q.index / 256) m ≡ false) → nat_le m (q.index / 256) ≡ nat_le (m + 1) (q.index / 256)
    by_le ne = by_test (nat_le (m + 1) (q.index / 256)) refl
      where
        by_test : (t : Bool) → nat_le (m + 1) (q.index / 256) ≡ t → nat_le m (q.index / 256) ≡ t
        by_test true f = le-leb m (q.index / 256) (omega (arith, leb-true (m + 1) (q.index / 256) f))
        by_test false f =
            let gt : q.index / 256 < m + 1 = search rules in
            let lt : q.index / 256 < m = omega (arith, gt, eqb-false (q.index / 256) m ne) in
            lt-leb m (q.index / 256) lt

    by_array : (t : Bool) → nat_eq q.array a ≡ t → (nat_eq q.array a && nat_le m (q.index / 256)) ≡ (nat_eq q.array a && nat_le (m + 1) (q.index / 256))
    by_array false f = ap (λ c. c && nat_le m (q.index / 256)) f ∙ sym (ap (λ c. c && nat_le (m + 1) (q.index / 256)) f)
    by_array true f =
        ap (λ c. nat_eq q.array a && c) (by_le (sym (ap (λ c. c && nat_eq (q.index / 256) m) f) ∙ e))

pub paste-on : (first : Map Held) (start own own' : List BlockRow) (a : ℕ) (r : BlockRow) (xs : List Block) (b : Block) (n k n' : ℕ)
    → PasteSoFar first start own a r (xs ++ b ∷ []) n → PastedIn own own' a (r.first + length xs) b k → n' ≡ min (n + k) (2 ^ 64 - 1)
    → PasteSoFar first start own' a r xs n'
paste-on first start own own' a r xs b n k n' p one is = record {
  same = λ j lt. sym (other-block r.first xs b j lt) ∙ p.same j (omega (arith, lt, long));
  room = λ j theirs there. room j theirs there (nat_lt j (r.first + length xs)) refl;
  pasted = λ q. pasted q (in_block a m q) refl;
  costs = costs;
  counted = counted;
  keeps = λ i j x h e. one.keeps i j x (p.keeps i j x h e) (ap (λ c. c && nat_eq j m) e);
}
  where
    m : ℕ
    m = r.first + length xs

    long : length (xs ++ b ∷ []) ≡ length xs + 1
    long = length-append xs (b ∷ [])

    next : r.first + length (xs ++ b ∷ []) ≡ m + 1
    next = omega (arith, long)

    mine : block_in r m ≡ Some b
    mine = sym (p.same m (omega (arith, long))) ∙ last-block r.first xs b m refl

    in_mine : (q : Place) → q.index / 256 ≡ m → in_row r q.index ≡ held_at b (q.index % 256)
    in_mine q e = ap (λ o. held_of o (q.index % 256)) (ap (block_in r) e ∙ mine)

    -- an offset of the block
    new_at : (o : ℕ) → o < 256 → owned_in_row r (place_at a m o) ≡ owned_at b o
    new_at o lt =
        let block : (256 * m + o) / 256 ≡ m = omega (arith, lt) in
        let offset : (256 * m + o) % 256 ≡ o = omega (arith, lt) in
        ap owned_number (in_mine (place_at a m o) block ∙ ap (held_at b) offset)

    -- the block had not come in
    before : (q : Place) → in_block a m q ≡ true → held_in_list own q ≡ first q
    before q e =
        let parts = and_parts (nat_eq q.array a) (nat_eq (q.index / 256) m) e in
        let block = eqb-true (q.index / 256) m parts.1 in
        let no : nat_le (r.first + length (xs ++ b ∷ [])) (q.index / 256) ≡ false = lt-leb _ _ (omega (arith, next, block)) in
        p.pasted q ∙ ap (λ c. if c then first_of (option_map Owned (owned_number (in_row r q.index))) (first q) else first q)
        (ap (λ c. nat_eq q.array a && c) no ∙ and-false (nat_eq q.array a))

    small : m < 16384
    small =
        let there = row_from-there r.first r.blocks.items m (λ none. absurd (let f = sym mine ∙ none in cc)) in
        omega (arith, there.1, r.within)

    counted : as_count n' ≡ as_count (from_blocks first a r m)
    counted =
        let here = copied-block first (owned_in_row r) a m (owned_at b) k new_at moved exact in
        let front = sum_range-front (copied_into first (owned_in_row r) a) m 16384 small in
        let at : from_blocks first a r (r.first + length (xs ++ b ∷ [])) ≡ from_blocks first a r (m + 1) =
        ap (from_blocks first a r) next in
        omega (arith, p.counted, here, front, at, is)
      where
        -- what comes in has all that was held, in two ways
        covers : Type 0
        covers = (q : Place) → in_block a m q ≡ true → (first q ≡ None → ⊥) → is_some (owned_in_row r q) ≡ true

        number : (q : Place) → in_block a m q ≡ true → q.index / 256 ≡ m
        number q e = eqb-true (q.index / 256) m (and_parts (nat_eq q.array a) (nat_eq (q.index / 256) m) e).1

        moved : covers → k ≡ 0
        moved all = one.moved (λ q e held none.
            some_there (owned_in_row r q) (all q e (λ f. held (before q e ∙ f))) (ap owned_number (in_mine q (number q e)) ∙ none))

        exact : (covers → ⊥) → k ≡ how_many (owned_at b) 256
        exact never = one.counted (λ all. never (λ q e held.
            some_from_there (owned_in_row r q) (λ none.
            all q e (λ f. held (sym (before q e) ∙ f)) (ap owned_number (sym (in_mine q (number q e))) ∙ none))))

    room : (j : ℕ) (theirs : Block) → row_from r.first xs j ≡ Some theirs → (t : Bool) → nat_lt j m ≡ t → HasRoom own' a j theirs
    room j theirs there true e =
        let lt = ltb-true _ _ e in
        one.keeps a j theirs (p.room j theirs (other-block r.first xs b j lt ∙ there))
        (ap (λ c. nat_eq a a && c) (ne_eqb j m (λ f. absurd (omega (arith, f, lt)))) ∙ and-false (nat_eq a a))
    room j theirs there false e =
        let ge : m ≤ j = search rules in
        absurd (let f = sym (row_from-behind r.first xs j ge) ∙ there in cc)

    pasted : (q : Place) (t : Bool) → in_block a m q ≡ t → held_in_list own' q ≡ (if from_block a m q
        then first_of (option_map Owned (owned_number (in_row r q.index))) (first q) else first q)
    pasted q true e =
        let parts = and_parts (nat_eq q.array a) (nat_eq (q.index / 256) m) e in
        let block = eqb-true (q.index / 256) m parts.1 in
        let yes : from_block a m q ≡ true = and_from _ _ parts.0 (le-leb m (q.index / 256) (omega (arith, block))) in
        one.pasted q
        ∙ ap (λ c. if c then first_of (option_map Owned (owned_at b (q.index % 256))) (held_in_list own q) else held_in_list own q) e
        ∙ ap (first_of (option_map Owned (owned_at b (q.index % 256)))) (before q e)
        ∙ ap (λ (h : Option Held). first_of (option_map Owned (owned_number h)) (first q)) (sym (in_mine q block))
        ∙ ap (λ c. if c then first_of (option_map Owned (owned_number (in_row r q.index))) (first q) else first q) (sym yes)
    pasted q false e =
        one.pasted q
        ∙ ap (λ c. if c then first_of (option_map Owned (owned_at b (q.index % 256))) (held_in_list own q) else held_in_list own q) e
        ∙ p.pasted q
        ∙ ap (λ c. if c then first_of (option_map Owned (owned_number (in_row r q.index))) (first q) else first q)
        (ap (λ z. from_block a z q) next ∙ sym (from_next a m q e))

    costs : RowCosts first a r (from_block a m) n'
    costs lengths ws within cover has_is =
        let so_far = p.costs lengths ws within cover has_is in
        let most = at_most _ k (how_many (owned_at b) 256) one.moved one.counted in
        let here = block-costs lengths a m (owned_at b) ws k most there free in
        let both = split-both (from_block a (m + 1)) (in_block a m) (from_block a m) lengths ws step in
        let at : split_where (from_block a (r.first + length (xs ++ b ∷ []))) lengths ws ≡ split_where (from_block a (m + 1)) lengths ws =
        ap (λ z. split_where (from_block a z) lengths ws) next in
        omega (arith, is, so_far, here, both, at)
      where
        there : (o : ℕ) → o < 256 → (owned_at b o ≡ None → ⊥) → has ws (record { array = a; index = 256 * m + o }) ≡ true
        there o lt some =
            let i : ℕ = 256 * m + o in
            let q : Place = record { array = a; index = i } in
            let block : i / 256 ≡ m = omega (arith, lt) in
            let offset : i % 256 ≡ o = omega (arith, lt) in
            has_is q (eq-eqb a a refl)
            ∙ ap (λ (h : Option Held). is_some (owned_number h)) (in_mine q block ∙ ap (held_at b) offset)
            ∙ some_from_there (owned_at b o) some

        free : any_has (lengths a) a ws m ≡ true → k ≡ 0
        free all = one.moved (λ q e held none.
            let parts = and_parts (nat_eq q.array a) (nat_eq (q.index / 256) m) e in
            let block = eqb-true (q.index / 256) m parts.1 in
            let inside = within q parts.0 (λ f. held (before q e ∙ f)) in
            let some = sym (has_is q parts.0) ∙ any-has (lengths a) a ws m all q e inside in
            some_there (owned_number (in_row r q.index)) some (ap owned_number (in_mine q block) ∙ none))

        step : (q : Place) → cond (from_block a (m + 1) q) 1 0 + cond (in_block a m q) 1 0 ≤ cond (from_block a m q) 1 0
        step q = by_here (in_block a m q) refl
          where
            by_here : (t : Bool) → in_block a m q ≡ t → cond (from_block a (m + 1) q) 1 0 + cond t 1 0 ≤ cond (from_block a m q) 1 0
            by_here false e = omega (arith, ap (λ c. cond {A = ℕ} c 1 0) (from_next a m q e))
            by_here true e =
                let parts = and_parts (nat_eq q.array a) (nat_eq (q.index / 256) m) e in
                let block = eqb-true (q.index / 256) m parts.1 in
                let yes : from_block a m q ≡ true = and_from _ _ parts.0 (le-leb m (q.index / 256) (omega (arith, block))) in
                let no : from_block a (m + 1) q ≡ false =
                ap (λ c. nat_eq q.array a && c) (lt-leb (m + 1) (q.index / 256) (omega (arith, block))) ∙ and-false (nat_eq q.array a) in
                omega (arith, ap (λ c. cond {A = ℕ} c 1 0) yes, ap (λ c. cond {A = ℕ} c 1 0) no)

pub paste-begun : (own : List BlockRow) (a : ℕ) (r : BlockRow) → HasRowRoom own a r → PasteSoFar (held_in_list own) own own a r r.blocks.items 0
paste-begun own a r room = record {
  same = λ j lt. refl;
  room = room;
  pasted = λ q. none q (from_block a (r.first + length r.blocks.items) q) refl;
  costs = λ lengths ws within cover has_is. omega arith;
  counted = ap as_count (sym (sum_range-none (copied_into (held_in_list own) (owned_in_row r) a) (r.first + length r.blocks.items)
      (16384 - (r.first + length r.blocks.items)) (λ i low high. past i low)));
  keeps = λ i j b h e. h;
}
  where
    past : (i : ℕ) → r.first + length r.blocks.items ≤ i → copied_into (held_in_list own) (owned_in_row r) a i ≡ 0
    past i le = copied_into-none (held_in_list own) (owned_in_row r) a i (λ k lt.
        let block : (256 * i + k) / 256 ≡ i = omega (arith, lt) in
        ap (λ (o : Option Block). owned_number (held_of o ((256 * i + k) % 256)))
        (ap (block_in r) block ∙ row_from-behind r.first r.blocks.items i le))

    none : (q : Place) (t : Bool) → from_block a (r.first + length r.blocks.items) q ≡ t
        → held_in_list own q ≡ (if t then first_of (option_map Owned (owned_number (in_row r q.index))) (held_in_list own q) else held_in_list own q)
    none q false e = refl
    none q true e =
        let parts = and_parts (nat_eq q.array a) (nat_le (r.first + length r.blocks.items) (q.index / 256)) e in
        let past = row_from-behind r.first r.blocks.items (q.index / 256) (leb-true _ _ parts.1) in
        sym (ap (λ (o : Option Block). first_of (option_map Owned (owned_number (held_of o (q.index % 256)))) (held_in_list own q)) past)

-- no block is left
pub pasted-row : (first : Map Held) (start own : List BlockRow) (a : ℕ) (r : BlockRow) (n : ℕ) → PasteSoFar first start own a r [] n → (q : Place)
    → held_in_list own q ≡ (if nat_eq q.array a then first_of (option_map Owned (owned_number (in_row r q.index))) (first q) else first q)
pasted-row first start own a r n p q = p.pasted q ∙ by_low (nat_eq q.array a) (nat_le (r.first + 0) (q.index / 256)) refl
  where
    by_low : (s t : Bool) → nat_le (r.first + 0) (q.index / 256) ≡ t
        → (if s && t then first_of (option_map Owned (owned_number (in_row r q.index))) (first q) else first q)
        ≡ (if s then first_of (option_map Owned (owned_number (in_row r q.index))) (first q) else first q)
    by_low false t e = refl
    by_low true true e = refl
    by_low true false e =
        let lt : q.index / 256 < r.first + 0 = search rules in
        sym (ap (λ (o : Option Block). first_of (option_map Owned (owned_number (held_of o (q.index % 256)))) (first q))
        (row_from-before r.first r.blocks.items (q.index / 256) (omega (arith, lt))))

pub row-costs : (first : Map Held) (start own : List BlockRow) (a : ℕ) (r : BlockRow) (n : ℕ) → PasteSoFar first start own a r [] n
    → RowCosts first a r (λ q. nat_eq q.array a) n
row-costs first start own a r n p lengths ws within cover has_is =
    let less = split-less (from_block a (r.first + 0)) (λ q. nat_eq q.array a) lengths ws
    (λ q e. (and_parts (nat_eq q.array a) (nat_le (r.first + 0) (q.index / 256)) e).0) in
    omega (arith, p.costs lengths ws within cover has_is, less)

-- no block is before the first
pub row-counted : (first : Map Held) (start own : List BlockRow) (a : ℕ) (r : BlockRow) (n : ℕ) → PasteSoFar first start own a r [] n
    → as_count n ≡ as_count (copied_into_array first (owned_in_row r) a)
row-counted first start own a r n p =
    let le : r.first + 0 ≤ 16384 = omega (arith, r.within) in
    p.counted ∙ ap as_count (into_array-from first (owned_in_row r) a (r.first + 0) le none)
  where
    none : (i : ℕ) → i < r.first + 0 → copied_into first (owned_in_row r) a i ≡ 0
    none i lt = copied_into-none first (owned_in_row r) a i (λ k small.
        let block : (256 * i + k) / 256 ≡ i = omega (arith, small) in
        ap (λ (o : Option Block). owned_number (held_of o ((256 * i + k) % 256)))
        (ap (block_in r) block ∙ row_from-before r.first r.blocks.items i (omega (arith, lt))))

-- ---- all rows, the last first

-- the exact number of places that are copied into an array
abbrev pub into_array : (own : Map Held) (others : List BlockRow) (a : ℕ) → ℕ
into_array own others a = copied_into_array own (owned (held_in_list others)) a

abbrev pub from_arrays : (own : Map Held) (others : List BlockRow) (n : ℕ) → ℕ
from_arrays own others n = sum_by (into_array own others) (range_with_len n (length others - n))

pub record RowsSoFar (first : Map Held) (own others rs : List BlockRow) (n : ℕ) : Type 0 where
  pub same : (i j : ℕ) → i < length rs → block_of rs i j ≡ block_of others i j
  pub room : HasAllRoom own rs
  pub pasted : (q : Place) → held_in_list own q ≡ (if nat_le (length rs) q.array
      then first_of (option_map Owned (owned_number (held_in_list others q))) (first q) else first q)
  pub costs : (lengths : ℕ → ℕ) (ws : List Window) → LiesWithin lengths first
      → IsCoverOf ws (λ q. is_some (owned (held_in_list others) q)) → n ≤ split_where (λ q. nat_le (length rs) q.array) lengths ws
  pub few : length rs ≤ length others
  pub counted : as_count n ≡ as_count (from_arrays first others (length rs))

pub rows-begun : (own others : List BlockRow) → HasAllRoom own others → RowsSoFar (held_in_list own) own others others 0
rows-begun own others room = record {
  same = λ i j lt. refl;
  room = room;
  pasted = λ q. none q (nat_le (length others) q.array) refl;
  costs = λ lengths ws within of. omega arith;
  few = omega arith;
  counted =
      let z : length others - length others ≡ 0 = omega arith in
      ap (λ k. as_count (sum_by (into_array (held_in_list own) others) (range_with_len (length others) k))) (sym z);
}
  where
    none : (q : Place) (t : Bool) → nat_le (length others) q.array ≡ t
        → held_in_list own q ≡ (if t then first_of (option_map Owned (owned_number (held_in_list others q))) (held_in_list own q) else held_in_list own q)
    none q false e = refl
    none q true e =
        sym (ap (λ (o : Option Block). first_of (option_map Owned (owned_number (held_of o (q.index % 256)))) (held_in_list own q))
        (block_of-past others q.array (q.index / 256) (leb-true _ _ e)))

last-row : (rs : List BlockRow) (r : BlockRow) (j : ℕ) → block_of (rs ++ r ∷ []) (length rs) j ≡ block_in r j
last-row rs r j =
    block_of-push rs r (length rs) j ∙ ap (λ c. if c then block_in r j else block_of rs (length rs) j) (eq-eqb (length rs) (length rs) refl)

other-row : (rs : List BlockRow) (r : BlockRow) (i j : ℕ) → i < length rs → block_of (rs ++ r ∷ []) i j ≡ block_of rs i j
other-row rs r i j lt =
    block_of-push rs r i j ∙ ap (λ c. if c then block_in r j else block_of rs i j) (ne_eqb i (length rs) (λ e. absurd (omega (arith, e, lt))))

-- there is room for the last row
pub last-room : (own rs : List BlockRow) (r : BlockRow) → HasAllRoom own (rs ++ r ∷ []) → HasRowRoom own (length rs) r
last-room own rs r room j theirs there = room (length rs) j theirs (last-row rs r j ∙ there)

pub rows-on : (first : Map Held) (own own' others rs : List BlockRow) (r : BlockRow) (n k n' : ℕ) → RowsSoFar first own others (rs ++ r ∷ []) n
    → ((q : Place) → held_in_list own' q ≡ (if nat_eq q.array (length rs)
    then first_of (option_map Owned (owned_number (in_row r q.index))) (held_in_list own q) else held_in_list own q))
    → RowCosts (held_in_list own) (length rs) r (λ q. nat_eq q.array (length rs)) k
    → as_count k ≡ as_count (copied_into_array (held_in_list own) (owned_in_row r) (length rs))
    → ((i j : ℕ) (b : Block) → HasRoom own i j b → nat_eq i (length rs) ≡ false → HasRoom own' i j b) → n' ≡ min (n + k) (2 ^ 64 - 1)
    → RowsSoFar first own' others rs n'
rows-on first own own' others rs r n k n' p now cost exact keeps is = record {
  same = λ i j lt. sym (other-row rs r i j lt) ∙ p.same i j (omega (arith, lt, long));
  room = λ i j theirs there. room i j theirs there (nat_lt i (length rs)) refl;
  pasted = λ q. pasted q (nat_eq q.array (length rs)) refl;
  costs = costs;
  few = omega (arith, p.few, long);
  counted = counted;
}
  where
    long : length (rs ++ r ∷ []) ≡ length rs + 1
    long = length-append rs (r ∷ [])

    in_others : (q : Place) → q.array ≡ length rs → held_in_list others q ≡ in_row r q.index
    in_others q e =
        ap (λ i. held_of (block_of others i (q.index / 256)) (q.index % 256)) e
        ∙ ap (λ o. held_of o (q.index % 256)) (sym (p.same (length rs) (q.index / 256) (omega (arith, long))) ∙ last-row rs r (q.index / 256))

    before : (q : Place) → q.array < length rs + 1 → held_in_list own q ≡ first q
    before q lt =
        p.pasted q ∙ ap (λ c. if c then first_of (option_map Owned (owned_number (held_in_list others q))) (first q) else first q)
        (lt-leb (length (rs ++ r ∷ [])) q.array (omega (arith, long, lt)))

    counted : as_count n' ≡ as_count (from_arrays first others (length rs))
    counted =
        let a = length rs in
        let lt : a < length others = omega (arith, p.few, long) in
        let front = sum_range-front (into_array first others) a (length others) lt in
        let at : from_arrays first others (length (rs ++ r ∷ [])) ≡ from_arrays first others (a + 1) = ap (from_arrays first others) long in
        let here = into_array-same (held_in_list own) first (owned_in_row r) (owned (held_in_list others)) a
        (λ q e. before q (omega (arith, e))) (λ q e. sym (ap owned_number (in_others q e))) in
        omega (arith, p.counted, front, at, here, exact, is)

    room : (i j : ℕ) (theirs : Block) → block_of rs i j ≡ Some theirs → (t : Bool) → nat_lt i (length rs) ≡ t → HasRoom own' i j theirs
    room i j theirs there true e =
        let lt = ltb-true _ _ e in
        keeps i j theirs (p.room i j theirs (other-row rs r i j lt ∙ there)) (ne_eqb i (length rs) (λ f. absurd (omega (arith, f, lt))))
    room i j theirs there false e =
        let ge : length rs ≤ i = search rules in
        absurd (let f = sym (block_of-past rs i j ge) ∙ there in cc)

    pasted : (q : Place) (t : Bool) → nat_eq q.array (length rs) ≡ t → held_in_list own' q ≡ (if nat_le (length rs) q.array
        then first_of (option_map Owned (owned_number (held_in_list others q))) (first q) else first q)
    pasted q true e =
        let array = eqb-true q.array (length rs) e in
        let yes : nat_le (length rs) q.array ≡ true = le-leb _ _ (omega (arith, array)) in
        now q
        ∙ ap (λ c. if c then first_of (option_map Owned (owned_number (in_row r q.index))) (held_in_list own q) else held_in_list own q) e
        ∙ ap (first_of (option_map Owned (owned_number (in_row r q.index)))) (before q (omega (arith, array)))
        ∙ ap (λ (h : Option Held). first_of (option_map Owned (owned_number h)) (first q)) (sym (in_others q array))
        ∙ ap (λ c. if c then first_of (option_map Owned (owned_number (held_in_list others q))) (first q) else first q) (sym yes)
    pasted q false e =
        let same : nat_le (length (rs ++ r ∷ [])) q.array ≡ nat_le (length rs) q.array =
        ap (λ z. nat_le z q.array) long ∙ sym (next_array (length rs) q.array (eqb-false q.array (length rs) e)) in
        now q
        ∙ ap (λ c. if c then first_of (option_map Owned (owned_number (in_row r q.index))) (held_in_list own q) else held_in_list own q) e
        ∙ p.pasted q
        ∙ ap (λ c. if c then first_of (option_map Owned (owned_number (held_in_list others q))) (first q) else first q) same

    costs : (lengths : ℕ → ℕ) (ws : List Window) → LiesWithin lengths first
        → IsCoverOf ws (λ q. is_some (owned (held_in_list others) q)) → n' ≤ split_where (λ q. nat_le (length rs) q.array) lengths ws
    costs lengths ws within of =
        let so_far = p.costs lengths ws within of in
        let here = cost lengths ws
        (λ q e held. subst (λ i. q.index < lengths i) (eqb-true q.array (length rs) e)
        (within q (λ none. held (before q (omega (arith, eqb-true q.array (length rs) e)) ∙ none))))
        of.form (λ q e. of.places q ∙ ap (λ (h : Option Held). is_some (owned_number h)) (in_others q (eqb-true q.array (length rs) e))) in
        let both = split-both (λ q. nat_le (length rs + 1) q.array) (λ q. nat_eq q.array (length rs)) (λ q. nat_le (length rs) q.array) lengths ws
        (λ q. next_count (length rs) q.array) in
        let at : split_where (λ q. nat_le (length (rs ++ r ∷ [])) q.array) lengths ws ≡ split_where (λ q. nat_le (length rs + 1) q.array) lengths ws =
        ap (λ z. split_where (λ q. nat_le z q.array) lengths ws) long in
        omega (arith, is, so_far, here, both, at)

-- no row is left
pub pasted-rows : (first : Map Held) (own others : List BlockRow) (n : ℕ) → RowsSoFar first own others [] n
    → held_in_list own ≡ over (as_owned (owned (held_in_list others))) first
pasted-rows first own others n p = λ t q. (p.pasted q ∙ all q) t
  where
    all : (q : Place) → (if nat_le 0 q.array then first_of (option_map Owned (owned_number (held_in_list others q))) (first q) else first q)
        ≡ first_of (option_map Owned (owned_number (held_in_list others q))) (first q)
    all q = ap (λ c. if c then first_of (option_map Owned (owned_number (held_in_list others q))) (first q) else first q) (le-leb 0 q.array (omega arith))

pub rows-cost : (first : Map Held) (own others : List BlockRow) (n : ℕ) → RowsSoFar first own others [] n
    → CopiesSplit first (λ q. is_some (owned (held_in_list others) q)) 0 n
rows-cost first own others n p lengths ws within of =
    omega (arith, p.costs lengths ws within of, split-all (λ q. nat_le 0 q.array) lengths ws)

none_there : (o : Option ℤ) → ((o ≡ None → ⊥) → ⊥) → o ≡ None
none_there None never = refl
none_there (Some v) never = absurd (never (λ e. cc))

pub rows-counted : (first : Map Held) (own others : List BlockRow) (n : ℕ) → RowsSoFar first own others [] n → (m : ℕ)
    → IsInArrays m (owned (held_in_list others)) → as_count n ≡ as_count (paste_copies first (owned (held_in_list others)) m)
rows-counted first own others n p m within =
    let z : length others - 0 ≡ length others = omega arith in
    p.counted ∙ ap (λ k. as_count (sum_by (into_array first others) (range_with_len 0 k))) z
    ∙ ap as_count (sum_range-upto (into_array first others) (length others) m past outside)
  where
    past : (a : ℕ) → length others ≤ a → into_array first others a ≡ 0
    past a le = into_array-none first (owned (held_in_list others)) a (λ b k.
        ap (λ (o : Option Block). owned_number (held_of o ((256 * b + k) % 256))) (block_of-past others a ((256 * b + k) / 256) le))

    outside : (a : ℕ) → m ≤ a → into_array first others a ≡ 0
    outside a le = into_array-none first (owned (held_in_list others)) a (λ b k.
        none_there (owned (held_in_list others) (place_at a b k)) (λ some. absurd (omega (arith, le, within (place_at a b k) some))))

-- ---- what the loops require

pub paste-room : (first : Map Held) (start own : List BlockRow) (a : ℕ) (r : BlockRow) (xs : List Block) (b : Block) (n : ℕ)
    → PasteSoFar first start own a r (xs ++ b ∷ []) n → HasRoom own a (r.first + length xs) b
paste-room first start own a r xs b n p = p.room (r.first + length xs) b (last-block r.first xs b (r.first + length xs) refl)

empty_blocks : (xs : List Block) → length xs ≡ 0 → xs ≡ []
empty_blocks [] e = refl
empty_blocks (x ∷ xs) e = absurd (omega (arith, e))

pub no-blocks : (first : Map Held) (start own : List BlockRow) (a : ℕ) (r : BlockRow) (xs : List Block) (n : ℕ) → PasteSoFar first start own a r xs n
    → length xs ≡ 0 → PasteSoFar first start own a r [] n
no-blocks first start own a r xs n p none = subst (λ l. PasteSoFar first start own a r l n) (empty_blocks xs none) p

empty_rows : (rs : List BlockRow) → length rs ≡ 0 → rs ≡ []
empty_rows [] e = refl
empty_rows (r ∷ rs) e = absurd (omega (arith, e))

pub no-rows : (first : Map Held) (own others rs : List BlockRow) (n : ℕ) → RowsSoFar first own others rs n → length rs ≡ 0
    → RowsSoFar first own others [] n
no-rows first own others rs n p none = subst (λ l. RowsSoFar first own others l n) (empty_rows rs none) p
