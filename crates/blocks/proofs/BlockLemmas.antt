-- What blocks hold, own and have room for.
use Rattle.std.proofs.Common.{◌≡◌, ℕ, zero, suc, ◌+◌, ◌-◌, ◌<◌, ◌≤◌, List, length, Option, Some, None, true, refl, sym, ap, ◌∙◌, arith, subst, ◌⊎◌, inl, inr}
use Rattle.std.specs.Arc.{arc_value}
use Rattle.std.specs.Box.{box_value}
use Rattle.std.specs.declared.alloc.Global.{Global}
use Rattle.std.specs.declared.boxed.Box.{Box}
use Rattle.std.specs.declared.sync.Arc.{Arc}
use Rattle.blocks.specs.Counts.{how_many}
use Rattle.std.proofs.lemmas.List.{get_or-take}
use Rattle.std.specs.Prelude.{ℤ, pos, is_some, get_or, option_map, take, unwrap_or}
use Rattle.blocks.specs.Numbers.{number_in, row_from, whole_at}
use Rattle.blocks.specs.Blocks.{held_at, number_at, owned_at}
use Rattle.blocks.specs.Held.{Held, Owned, Shared, first_of, number_of, owned_number}
use Rattle.blocks.specs.Offsets.{Offsets, Agree, HasAll, IsWithin, in_range}
use Rattle.blocks.specs.Numbers.{IsAsWide, ReachOver}
use Rattle.blocks.specs.Ready.{IsReady, room_at}
use Rattle.blocks.specs.declared.block.Block.{Block}
use Rattle.blocks.specs.declared.block.Block.TheVariants.{Empty, Mixed as InParts, Owned as AllOwned, Shared as AllShared}
use Rattle.blocks.specs.declared.block.Block.TheVariants.{WholeOwned, WholeShared}
use Rattle.blocks.specs.declared.mixed.Mixed.{Mixed}
use Rattle.blocks.specs.declared.cut.Cut.{Cut}
use Rattle.blocks.specs.declared.numbers.Numbers.{Numbers}
use Rattle.blocks.specs.declared.whole.Whole.{Whole}
use Rattle.blocks.proofs.RowLemmas.{row_from-before, row_from-behind, row_from-in, row_from-there}
use Rattle.blocks.proofs.KindLemmas.{held_row-none}
use Rattle.blocks.proofs.WalkLemmas.{how_many-none, how_many-rest, how_many-some, in_range-true, in_range-low, in_range-high}

-- ---- the result of a test

pub some_there : {A : Type 0} (o : Option A) → is_some o ≡ true → o ≡ None → ⊥
some_there None e n = cc
some_there (Some x) e n = cc

pub some_from_there : {A : Type 0} (o : Option A) → (o ≡ None → ⊥) → is_some o ≡ true
some_from_there None h = absurd (h refl)
some_from_there (Some x) h = refl

pub option_map-there : {A B : Type 0} (f : A → B) (o : Option A) → (o ≡ None → ⊥) → option_map f o ≡ None → ⊥
option_map-there f None some e = some refl
option_map-there f (Some x) some e = cc

pub owned_number-owned : (o : Option ℤ) → owned_number (option_map Owned o) ≡ o
owned_number-owned None = refl
owned_number-owned (Some v) = refl

pub owned_number-shared : (o : Option ℤ) → owned_number (option_map Shared o) ≡ None
owned_number-shared None = refl
owned_number-shared (Some v) = refl

-- what is held where a number is owned
pub owned_held : (h : Option Held) (v : ℤ) → owned_number h ≡ Some v → h ≡ Some (Owned v)
owned_held None v e = absurd (cc)
owned_held (Some (Owned w)) v e = ap (option_map Owned) e
owned_held (Some (Shared w)) v e = absurd (cc)

-- what comes in if nothing is owned
pub first_of-unowned : (h old : Option Held) → h ≡ None → first_of (option_map Owned (owned_number h)) old ≡ old
first_of-unowned h old e = ap (λ (o : Option Held). first_of (option_map Owned (owned_number o)) old) e

pub first_of-owned : (o : Option ℤ) (v : ℤ) (old : Option Held) → o ≡ Some v → first_of (option_map Owned o) old ≡ Some (Owned v)
first_of-owned o v old e = ap (λ (x : Option ℤ). first_of (option_map Owned x) old) e

pub first_of-none : (o : Option ℤ) (old : Option Held) → o ≡ None → first_of (option_map Owned o) old ≡ old
first_of-none o old e = ap (λ (x : Option ℤ). first_of (option_map Owned x) old) e

-- ---- ranges of maps

-- ---- numbers that reach over a range

pub ReachOver-all : (n : Numbers) (from to : ℕ) → ReachOver n from to → HasAll from to (number_in n)
ReachOver-all n from to r = λ k e none.
    let low : n.first ≤ k = omega (arith, r.low, in_range-low from to k e) in
    let high : k < n.first + length n.list.items = omega (arith, r.high, in_range-high from to k e) in
    absurd (let f = sym (row_from-in n.first n.list.items k (pos 0) low high) ∙ none in cc)

pub ReachOver-from_all : (n : Numbers) (from to : ℕ) → from < to → HasAll from to (number_in n) → ReachOver n from to
ReachOver-from_all n from to lt all =
    let a = row_from-there n.first n.list.items from (all from (in_range-true from to from (omega arith) lt)) in
    let last : from ≤ to - 1 = omega (arith, lt) in
    let end : to - 1 < to = omega (arith, lt) in
    let b = row_from-there n.first n.list.items (to - 1) (all (to - 1) (in_range-true from to (to - 1) last end)) in
    record { low = a.0; high = omega (arith, b.1, lt) }

-- numbers at the same offsets
pub IsAsWide-there : (n m : Numbers) (k : ℕ) → IsAsWide n m → (number_in m k ≡ None → ⊥) → number_in n k ≡ None → ⊥
IsAsWide-there n m k wide some none =
    let t = row_from-there m.first m.list.items k some in
    let low : n.first ≤ k = omega (arith, wide.first, t.0) in
    let high : k < n.first + length n.list.items = omega (arith, wide.first, wide.length, t.1) in
    absurd (let f = sym (row_from-in n.first n.list.items k (pos 0) low high) ∙ none in cc)

pub IsAsWide-again : (n m o : Numbers) → IsAsWide n m → IsAsWide m o → IsAsWide n o
IsAsWide-again n m o a b = record { first = a.first ∙ b.first; length = a.length ∙ b.length }

-- numbers that lie within others
pub ReachOver-within : (n m : Numbers) → 0 < length n.list.items → IsWithin (number_in n) (number_in m)
    → ReachOver m n.first (n.first + length n.list.items)
ReachOver-within n m some within =
    let all = ReachOver-all n n.first (n.first + length n.list.items) (record { low = omega arith; high = omega arith }) in
    ReachOver-from_all m n.first (n.first + length n.list.items) (omega (arith, some)) (λ k e. within k (all k e))

-- ---- how many numbers there are

pub how_many-row : (first : ℕ) (xs : List ℤ) (n : ℕ) → first + length xs ≤ n → how_many (row_from first xs) n ≡ length xs
how_many-row first xs n fits =
    how_many-rest (row_from first xs) (first + length xs) n fits (λ k le. row_from-behind first xs k le)
    ∙ up_to (length xs) (omega arith)
  where
    up_to : (i : ℕ) → i ≤ length xs → how_many (row_from first xs) (first + i) ≡ i
    up_to zero le = how_many-none (row_from first xs) (first + zero) (λ k lt. row_from-before first xs k (omega (arith, lt)))
    up_to (suc i) le =
        let next : first + suc i ≡ first + i + 1 = omega arith in
        let before = up_to i (omega (arith, le)) in
        let here = how_many-some (row_from first xs) (first + i) _
        (row_from-in first xs (first + i) (pos 0) (omega arith) (omega (arith, le))) in
        ap (how_many (row_from first xs)) next ∙ here ∙ omega (arith, before)

option_map-none : {A B : Type 0} (f : A → B) (o : Option A) → o ≡ None → option_map f o ≡ None
option_map-none f o e = ap (option_map f) e

-- all numbers of a block are held alike
same_numbers : (n m : Numbers) (from to : ℕ) → from < to → n ≡ m
    → (ReachOver n from to → HasAll from to (number_in m)) × (HasAll from to (number_in m) → ReachOver n from to)
same_numbers n m from to lt e = (
  λ r. subst (λ x. HasAll from to (number_in x)) e (ReachOver-all n from to r),
  λ all. ReachOver-from_all n from to lt (subst (λ x. HasAll from to (number_in x)) (sym e) all),
)

-- a test whether a block that owns all its numbers owns a range
pub reach-owned : (b : Block) (n : Numbers) (from to : ℕ) → from < to → (a : Arc Numbers Global) → n ≡ arc_value a → b ≡ AllOwned a
    → (ReachOver n from to → HasAll from to (owned_at b)) × (HasAll from to (owned_at b) → ReachOver n from to)
reach-owned b n from to lt a e is =
    let w = same_numbers n (arc_value a) from to lt e in
    let same : (k : ℕ) → owned_at b k ≡ number_in (arc_value a) k = λ k. ap (λ x. owned_at x k) is ∙ owned_number-owned (number_in (arc_value a) k) in (
      λ r k t none. w.0 r k t (sym (same k) ∙ none),
      λ all. w.1 (λ k t none. all k t (same k ∙ none)),
    )

-- a test whether a block whose numbers are all held alike holds a range
pub reach-held : (b : Block) (n : Numbers) (from to : ℕ) → from < to → (a : Arc Numbers Global) → n ≡ arc_value a
    → (b ≡ AllOwned a) ⊎ (b ≡ AllShared a)
    → (ReachOver n from to → HasAll from to (held_at b)) × (HasAll from to (held_at b) → ReachOver n from to)
reach-held b n from to lt a e (inl is) =
    let w = same_numbers n (arc_value a) from to lt e in (
      λ r k t none. option_map-there Owned (number_in (arc_value a) k) (w.0 r k t) (sym (ap (λ x. held_at x k) is) ∙ none),
      λ all. w.1 (λ k t none. all k t (ap (λ x. held_at x k) is ∙ option_map-none Owned (number_in (arc_value a) k) none)),
    )
reach-held b n from to lt a e (inr is) =
    let w = same_numbers n (arc_value a) from to lt e in (
      λ r k t none. option_map-there Shared (number_in (arc_value a) k) (w.0 r k t) (sym (ap (λ x. held_at x k) is) ∙ none),
      λ all. w.1 (λ k t none. all k t (ap (λ x. held_at x k) is ∙ option_map-none Shared (number_in (arc_value a) k) none)),
    )

-- the numbers of all offsets cover each range of offsets
whole-all : (w : Whole) (from to : ℕ) → from < to
    → (to ≤ 256 → HasAll from to (whole_at w)) × (HasAll from to (whole_at w) → to ≤ 256)
whole-all w from to lt = (
  λ le k e none. absurd (let high = in_range-high from to k e in
      let f = sym (row_from-in 0 w.numbers k (pos 0) (omega arith) (omega (arith, le, high, w.full))) ∙ none in cc),
  λ all. let last : from ≤ to - 1 = omega (arith, lt) in
      let end : to - 1 < to = omega (arith, lt) in
      let b = row_from-there 0 w.numbers (to - 1) (all (to - 1) (in_range-true from to (to - 1) last end)) in
      omega (arith, b.1, lt, w.full),
)

number_of-held : (o : Option ℤ) → (option_map number_of (option_map Owned o) ≡ o) × (option_map number_of (option_map Shared o) ≡ o)
number_of-held None = (refl, refl)
number_of-held (Some v) = (refl, refl)

-- the first numbers of a whole block are those of its first offsets
pub whole-first : (b : Block) (a : Arc Whole Global) (n k : ℕ) (x : ℤ) → (b ≡ WholeOwned a) ⊎ (b ≡ WholeShared a) → n ≤ 256 → k < n
    → get_or (take n (arc_value a).numbers) k (pos 0) ≡ unwrap_or (number_at b k) x
whole-first b a n k x is le lt =
    let w = arc_value a in
    let at : k - 0 ≡ k = omega arith in
    let there : whole_at w k ≡ Some (get_or w.numbers k (pos 0)) =
    row_from-in 0 w.numbers k (pos 0) (omega arith) (omega (arith, w.full, le, lt))
    ∙ ap (λ i. Some (get_or w.numbers i (pos 0))) at in
    get_or-take n w.numbers k (pos 0) lt ∙ sym (ap (λ o. unwrap_or o x) (held is ∙ there))
  where
    held : (b ≡ WholeOwned a) ⊎ (b ≡ WholeShared a) → number_at b k ≡ whole_at (arc_value a) k
    held (inl e) = ap (λ b. number_at b k) e ∙ (number_of-held (whole_at (arc_value a) k)).0
    held (inr e) = ap (λ b. number_at b k) e ∙ (number_of-held (whole_at (arc_value a) k)).1

-- a test whether a whole block that is owned owns a range
pub whole-owned : (b : Block) (from to : ℕ) → from < to → (a : Arc Whole Global) → b ≡ WholeOwned a
    → (to ≤ 256 → HasAll from to (owned_at b)) × (HasAll from to (owned_at b) → to ≤ 256)
whole-owned b from to lt a is =
    let w = whole-all (arc_value a) from to lt in
    let same : (k : ℕ) → owned_at b k ≡ whole_at (arc_value a) k = λ k. ap (λ x. owned_at x k) is ∙ owned_number-owned (whole_at (arc_value a) k) in (
      λ le k t none. w.0 le k t (sym (same k) ∙ none),
      λ all. w.1 (λ k t none. all k t (same k ∙ none)),
    )

-- a test whether a whole block holds a range
pub whole-held : (b : Block) (from to : ℕ) → from < to → (a : Arc Whole Global) → (b ≡ WholeOwned a) ⊎ (b ≡ WholeShared a)
    → (to ≤ 256 → HasAll from to (held_at b)) × (HasAll from to (held_at b) → to ≤ 256)
whole-held b from to lt a (inl is) =
    let w = whole-all (arc_value a) from to lt in (
      λ le k t none. option_map-there Owned (whole_at (arc_value a) k) (w.0 le k t) (sym (ap (λ x. held_at x k) is) ∙ none),
      λ all. w.1 (λ k t none. all k t (ap (λ x. held_at x k) is ∙ option_map-none Owned (whole_at (arc_value a) k) none)),
    )
whole-held b from to lt a (inr is) =
    let w = whole-all (arc_value a) from to lt in (
      λ le k t none. option_map-there Shared (whole_at (arc_value a) k) (w.0 le k t) (sym (ap (λ x. held_at x k) is) ∙ none),
      λ all. w.1 (λ k t none. all k t (ap (λ x. held_at x k) is ∙ option_map-none Shared (whole_at (arc_value a) k) none)),
    )

-- a block with kinds that holds a range has numbers there
pub reach-mixed : (b : Block) (m : Mixed) (x : Box Mixed Global) (from to : ℕ) → from < to → m ≡ box_value x → b ≡ InParts x
    → HasAll from to (held_at b) → ReachOver m.numbers from to
reach-mixed b m x from to lt e is all =
    let reach = ReachOver-from_all (box_value x).numbers from to lt (λ k t none.
    all k t (ap (λ c. held_at c k) is ∙ held_row-none (box_value x).numbers.first (box_value x).kinds.items (box_value x).numbers.list.items k none)) in
    subst (λ (y : Mixed). ReachOver y.numbers from to) (sym e) reach

-- nothing that can be taken in owns an offset without room
pub none_without_room : (b other : Block) → IsWithin (owned_at other) (room_at b) → ((k : ℕ) → room_at b k ≡ None) → 0 ≡ how_many (owned_at other) 256
none_without_room b other within none =
    sym (how_many-none (owned_at other) 256 (λ k lt. by_owned k (owned_at other k) refl))
  where
    by_owned : (k : ℕ) (o : Option ℤ) → owned_at other k ≡ o → o ≡ None
    by_owned k None e = refl
    by_owned k (Some v) e = absurd (within k (λ n. absurd (let f = sym e ∙ n in cc)) (none k))

-- numbers at more offsets
pub row_from-wider : (first : ℕ) (xs : List ℤ) (start : ℕ) (ys : List ℤ) → start ≤ first → first + length xs ≤ start + length ys
    → IsWithin (row_from first xs) (row_from start ys)
row_from-wider first xs start ys low high k some none =
    let w = row_from-there first xs k some in
    absurd (let f = sym (row_from-in start ys k (pos 0) (omega (arith, low, w.0)) (omega (arith, high, w.1))) ∙ none in cc)

-- a block without kinds has no room
pub no_room : (b : Block)
    → (b ≡ Empty) ⊎ (((x : Arc Numbers Global) × (b ≡ AllOwned x)) ⊎ (((x : Arc Numbers Global) × (b ≡ AllShared x))
    ⊎ (((w : Arc Whole Global) × (b ≡ WholeOwned w)) ⊎ ((w : Arc Whole Global) × (b ≡ WholeShared w)))))
    → (k : ℕ) → room_at b k ≡ None
no_room b (inl e) k = ap (λ c. room_at c k) e
no_room b (inr (inl (x, e))) k = ap (λ c. room_at c k) e
no_room b (inr (inr (inl (x, e)))) k = ap (λ c. room_at c k) e
no_room b (inr (inr (inr (inl (w, e))))) k = ap (λ c. room_at c k) e
no_room b (inr (inr (inr (inr (w, e))))) k = ap (λ c. room_at c k) e

-- ---- cuts that stay ready

HasAll-along : {A : Type 0} (m n : Offsets A) (from to : ℕ) → ((k : ℕ) → in_range from to k ≡ true → n k ≡ m k) → HasAll from to m → HasAll from to n
HasAll-along m n from to same all = λ k e none. all k e (sym (same k e) ∙ none)

owned_along : (b c : Block) (k : ℕ) → held_at c k ≡ held_at b k → owned_at c k ≡ owned_at b k
owned_along b c k e = ap owned_number e

-- what is held and the room are the same
pub IsReady-along : (b c : Block) (f t : ℕ) (cut : Cut) → Agree (held_at c) (held_at b) → IsWithin (room_at b) (room_at c)
    → IsReady b f t cut → IsReady c f t cut
IsReady-along b c f t cut same room ready = record {
  owned = HasAll-along (owned_at b) (owned_at c) f t (λ k e. owned_along b c k (same k)) ready.owned;
  whole = λ none k e. same k ∙ ready.whole none k e;
  room = λ some k e. room k (ready.room some k e);
}

-- ---- nothing is held after the last offset

numbers-behind : (n : Numbers) (k : ℕ) → 256 ≤ k → number_in n k ≡ None
numbers-behind n k le = row_from-behind n.first n.list.items k (omega (arith, n.within, le))

whole_at-behind : (w : Whole) (k : ℕ) → 256 ≤ k → whole_at w k ≡ None
whole_at-behind w k le = row_from-behind 0 w.numbers k (omega (arith, w.full, le))

pub held_at-behind : (b : Block) (k : ℕ) → 256 ≤ k → held_at b k ≡ None
held_at-behind (WholeOwned a) k le = ap (option_map Owned) (whole_at-behind (arc_value a) k le)
held_at-behind (WholeShared a) k le = ap (option_map Shared) (whole_at-behind (arc_value a) k le)
held_at-behind Empty k le = refl
held_at-behind (AllOwned a) k le = ap (option_map Owned) (numbers-behind (arc_value a) k le)
held_at-behind (AllShared a) k le = ap (option_map Shared) (numbers-behind (arc_value a) k le)
held_at-behind (InParts x) k le =
    let m = box_value x in
    held_row-none m.numbers.first m.kinds.items m.numbers.list.items k (numbers-behind m.numbers k le)
