-- Room for what comes in, and disjointness.
use Rattle.std.proofs.Common.{◌≡◌, ℕ, ◌+◌, ◌-◌, ◌*◌, ◌/◌, ◌%◌, ◌<◌, ◌≤◌, List, length, get_or, IsSome, is_some}
use Rattle.std.proofs.Common.{Option, Some, None, Bool, true, false, inl, inr, refl, sym, ap, ◌∙◌, arith, rules, subst, ◌⊎◌}
use Rattle.std.proofs.Math.Bool.{and-false}
use Rattle.std.proofs.lemmas.Bool.{cases_eq, ltb-true, ne_eqb}
use Rattle.std.proofs.lemmas.Option.{same_Some}
use Rattle.std.specs.Prelude.{◌&&◌, nat_eq, nat_lt}
use Rattle.sections.specs.Place.{Place}
use Rattle.blocks.specs.Held.{AreApart, owned, owned_number}
use Rattle.blocks.specs.Offsets.{StandApart}
use Rattle.blocks.specs.Ready.{CanTake}
use Rattle.blocks.specs.declared.block.Block.{Block}
use Rattle.blocks.specs.declared.block.Block.TheVariants.{Empty, Mixed, Owned as AllOwned, Shared as AllShared, WholeOwned, WholeShared}
use Rattle.blocks.proofs.BlockLemmas.{held_at-behind}
use Rattle.blocks.proofs.RowLemmas.{row_from-before, row_from-behind, row_from-in}
use Rattle.holdings.specs.Rooms.{HasAllRoom, HasRoom, HasRowRoom, TakesIn}
use Rattle.holdings.specs.Rows.{Replaces, Widens, block_in, block_of, held_in_list, held_of}
use Rattle.holdings.specs.declared.row.BlockRow.{BlockRow}
use Rattle.holdings.proofs.CarvingLemmas.{replaced-there}
use Rattle.holdings.proofs.WideningLemmas.{before-kept}
use Rattle.holdings.proofs.WritingLemmas.{block_of-item, block_of-past}

-- the n-th block of a row
pub row-nth : (r : BlockRow) (n : ℕ) (b : Block) → n < length r.blocks.items → b ≡ get_or r.blocks.items n b → block_in r (r.first + n) ≡ Some b
row-nth r n b lt is =
    let back : r.first + n - r.first ≡ n = omega arith in
    row_from-in r.first r.blocks.items (r.first + n) b (omega arith) (omega (arith, lt))
    ∙ ap (λ j. Some (get_or r.blocks.items j b)) back ∙ ap Some (sym is)

-- ---- room

takes-kept : (own new : List BlockRow) (i j : ℕ) (theirs : Block) → (IsSome (block_of own i j) → block_of new i j ≡ block_of own i j)
    → TakesIn own i j theirs → TakesIn new i j theirs
takes-kept own new i j theirs kept t = record { mine = t.mine; there = kept (ap is_some t.there) ∙ t.there; room = t.room }

pub room-kept : (own new : List BlockRow) (i j : ℕ) (theirs : Block) → (IsSome (block_of own i j) → block_of new i j ≡ block_of own i j)
    → HasRoom own i j theirs → HasRoom new i j theirs
room-kept own new i j (WholeOwned w) kept h = takes-kept own new i j (WholeOwned w) kept h
room-kept own new i j (WholeShared w) kept h = h
room-kept own new i j Empty kept h = h
room-kept own new i j (AllShared n) kept h = h
room-kept own new i j (AllOwned n) kept h = takes-kept own new i j (AllOwned n) kept h
room-kept own new i j (Mixed m) kept h = takes-kept own new i j (Mixed m) kept h

pub room-widened : (own new : List BlockRow) → Widens own new → (i j : ℕ) (theirs : Block) → HasRoom own i j theirs → HasRoom new i j theirs
room-widened own new w i j theirs h = room-kept own new i j theirs (before-kept (block_of own i j) (block_of new i j) (w i j)) h

pub room-elsewhere : (a b : ℕ) (s : Block) (own new : List BlockRow) → Replaces a b s own new → (i j : ℕ) (theirs : Block)
    → (nat_eq i a && nat_eq j b) ≡ false → HasRoom own i j theirs → HasRoom new i j theirs
room-elsewhere a b s own new rep i j theirs e h =
    room-kept own new i j theirs (λ some. replaced-there a b s own new rep i j e) h

pub room-from : (rs : List BlockRow) (a b : ℕ) (mine theirs : Block) → block_of rs a b ≡ Some mine → CanTake mine theirs → HasRoom rs a b theirs
room-from rs a b mine (WholeOwned w) is can = record { mine = mine; there = is; room = can }
room-from rs a b mine (WholeShared w) is can = tt
room-from rs a b mine Empty is can = tt
room-from rs a b mine (AllShared n) is can = tt
room-from rs a b mine (AllOwned n) is can = record { mine = mine; there = is; room = can }
room-from rs a b mine (Mixed m) is can = record { mine = mine; there = is; room = can }

-- room for the blocks of a row so far
pub row_room-more : (own own' : List BlockRow) (a : ℕ) (r : BlockRow) (n : ℕ) (b : Block) → n < length r.blocks.items → b ≡ get_or r.blocks.items n b
    → ((j : ℕ) (theirs : Block) → j < r.first + n → block_in r j ≡ Some theirs → HasRoom own a j theirs)
    → ((i j : ℕ) (theirs : Block) → HasRoom own i j theirs → (nat_eq i a && nat_eq j (r.first + n)) ≡ false → HasRoom own' i j theirs)
    → HasRoom own' a (r.first + n) b
    → (j : ℕ) (theirs : Block) → j < r.first + (n + 1) → block_in r j ≡ Some theirs → HasRoom own' a j theirs
row_room-more own own' a r n b lt is before keeps here j theirs low there = by_eq (cases_eq j (r.first + n))
  where
    by_eq : (j ≡ r.first + n) ⊎ (j ≡ r.first + n → ⊥) → HasRoom own' a j theirs
    by_eq (inl e) =
        let same : b ≡ theirs = same_Some _ _ (sym (row-nth r n b lt is) ∙ ap (block_in r) (sym e) ∙ there) in
        subst (λ m. HasRoom own' a m theirs) (sym e) (subst (HasRoom own' a (r.first + n)) same here)
    by_eq (inr ne) =
        let other : (nat_eq a a && nat_eq j (r.first + n)) ≡ false = ap (λ c. nat_eq a a && c) (ne_eqb j (r.first + n) ne) ∙ and-false (nat_eq a a) in
        keeps a j theirs (before j theirs (omega (arith, low, ne)) there) other

pub row_room-done : (own : List BlockRow) (a : ℕ) (r : BlockRow) (n : ℕ) → length r.blocks.items ≤ n
    → ((j : ℕ) (theirs : Block) → j < r.first + n → block_in r j ≡ Some theirs → HasRoom own a j theirs) → HasRowRoom own a r
row_room-done own a r n all before j theirs there = by_test (nat_lt j (r.first + n)) refl
  where
    by_test : (t : Bool) → nat_lt j (r.first + n) ≡ t → HasRoom own a j theirs
    by_test true e = before j theirs (ltb-true _ _ e) there
    by_test false e =
        let ge : r.first + n ≤ j = search rules in
        absurd (let f = sym (row_from-behind r.first r.blocks.items j (omega (arith, ge, all))) ∙ there in cc)

-- ---- a fact about each number so far and about the next one
pub so_far-more : (P : ℕ → Type 0) (n : ℕ) → ((i : ℕ) → i < n → P i) → P n → (i : ℕ) → i < n + 1 → P i
so_far-more P n before here i lt = by_eq (cases_eq i n)
  where
    by_eq : (i ≡ n) ⊎ (i ≡ n → ⊥) → P i
    by_eq (inl e) = subst P (sym e) here
    by_eq (inr ne) = before i (omega (arith, lt, ne))

-- ---- a fact about each block of a row
module _ (P : ℕ → Option Block → Type 0) (none : (j : ℕ) → P j None) (r : BlockRow) where
  pub each_block-begun : (j : ℕ) → j < r.first + 0 → P j (block_in r j)
  each_block-begun j lt = subst (P j) (sym (row_from-before r.first r.blocks.items j (omega (arith, lt)))) (none j)

  pub each_block-more : (n : ℕ) (b : Block) → n < length r.blocks.items → b ≡ get_or r.blocks.items n b
      → ((j : ℕ) → j < r.first + n → P j (block_in r j)) → P (r.first + n) (Some b)
      → (j : ℕ) → j < r.first + (n + 1) → P j (block_in r j)
  each_block-more n b lt is before here j low = by_eq (cases_eq j (r.first + n))
    where
      by_eq : (j ≡ r.first + n) ⊎ (j ≡ r.first + n → ⊥) → P j (block_in r j)
      by_eq (inr ne) = before j (omega (arith, low, ne))
      by_eq (inl e) = subst (λ m. P m (block_in r m)) (sym e) (subst (P (r.first + n)) (sym (row-nth r n b lt is)) here)

  pub each_block-item : (n : ℕ) (b : Block) → n < length r.blocks.items → b ≡ get_or r.blocks.items n b
      → ((j : ℕ) → P j (block_in r j)) → P (r.first + n) (Some b)
  each_block-item n b lt is all = subst (P (r.first + n)) (row-nth r n b lt is) (all (r.first + n))

  pub each_block-done : (n : ℕ) → length r.blocks.items ≤ n → ((j : ℕ) → j < r.first + n → P j (block_in r j))
      → (j : ℕ) → P j (block_in r j)
  each_block-done n all before j = by_test (nat_lt j (r.first + n)) refl
    where
      by_test : (t : Bool) → nat_lt j (r.first + n) ≡ t → P j (block_in r j)
      by_test true e = before j (ltb-true _ _ e)
      by_test false e =
          let ge : r.first + n ≤ j = search rules in
          subst (P j) (sym (row_from-behind r.first r.blocks.items j (omega (arith, ge, all)))) (none j)

-- ---- disjointness

-- what an optional block owns is disjoint from what another block with its number owns
abbrev pub IsApartAt : (own : List BlockRow) (a j : ℕ) → Option Block → Type 0
IsApartAt own a j o = StandApart (λ k. owned_number (held_of o k)) (λ k. owned_number (held_of (block_of own a j) k))

abbrev pub ApartAt : (own : List BlockRow) (a : ℕ) (r : BlockRow) (j : ℕ) → Type 0
ApartAt own a r j = IsApartAt own a j (block_in r j)

pub apart-none : (own : List BlockRow) (a j : ℕ) → IsApartAt own a j None
apart-none own a j k some = absurd (some refl)

abbrev pub RowsApart : (own others : List BlockRow) (i : ℕ) → Type 0
RowsApart own others i = (j : ℕ) → StandApart (λ k. owned_number (held_of (block_of others i j) k)) (λ k. owned_number (held_of (block_of own i j) k))

pub rows_apart-item : (own others : List BlockRow) (i : ℕ) (r : BlockRow) → i < length others → r ≡ get_or others i r
    → ((j : ℕ) → ApartAt own i r j) → RowsApart own others i
rows_apart-item own others i r lt is all j =
    subst (λ o. StandApart (λ k. owned_number (held_of o k)) (λ k. owned_number (held_of (block_of own i j) k)))
    (sym (block_of-item others i r lt is j)) (all j)

pub item-rows_apart : (own others : List BlockRow) (i : ℕ) (r : BlockRow) → i < length others → r ≡ get_or others i r
    → RowsApart own others i → (j : ℕ) → ApartAt own i r j
item-rows_apart own others i r lt is all j =
    subst (λ o. StandApart (λ k. owned_number (held_of o k)) (λ k. owned_number (held_of (block_of own i j) k)))
    (block_of-item others i r lt is j) (all j)

pub rows_apart-done : (own others : List BlockRow) (n : ℕ) → length others ≤ n → ((i : ℕ) → i < n → RowsApart own others i)
    → AreApart (owned (held_in_list others)) (owned (held_in_list own))
rows_apart-done own others n all before q some = by_test (nat_lt q.array n) refl
  where
    by_test : (t : Bool) → nat_lt q.array n ≡ t → owned (held_in_list own) q ≡ None
    by_test true e = before q.array (ltb-true _ _ e) (q.index / 256) (q.index % 256) some
    by_test false e =
        let ge : n ≤ q.array = search rules in
        absurd (some (ap (λ o. owned_number (held_of o (q.index % 256))) (block_of-past others q.array (q.index / 256) (omega (arith, ge, all)))))

pub held_behind : (o : Option Block) (k : ℕ) → 256 ≤ k → held_of o k ≡ None
held_behind None k le = refl
held_behind (Some b) k le = held_at-behind b k le

pub places-rows_apart : (own others : List BlockRow) (i : ℕ) → AreApart (owned (held_in_list others)) (owned (held_in_list own)) → RowsApart own others i
places-rows_apart own others i apart j k some = by_place (nat_lt k 256) refl
  where
    here : k < 256 → owned_number (held_of (block_of own i j) k) ≡ None
    here lt =
        let n : ℕ = 256 * j + k in
        let q : Place = record { array = i; index = n } in
        let block : n / 256 ≡ j = omega (arith, lt) in
        let offset : n % 256 ≡ k = omega (arith, lt) in
        let at : (rs : List BlockRow) → owned (held_in_list rs) q ≡ owned_number (held_of (block_of rs i j) k) =
        λ rs. ap (λ m. owned_number (held_of (block_of rs i m) (n % 256))) block ∙ ap (λ m. owned_number (held_of (block_of rs i j) m)) offset in
        sym (at own) ∙ apart q (λ none. some (sym (at others) ∙ none))

    by_place : (t : Bool) → nat_lt k 256 ≡ t → owned_number (held_of (block_of own i j) k) ≡ None
    by_place true e = here (ltb-true _ _ e)
    by_place false e =
        let le : 256 ≤ k = search rules in
        absurd (some (ap owned_number (held_behind (block_of others i j) k le)))

pub row_room-begun : (own : List BlockRow) (a : ℕ) (r : BlockRow) (j : ℕ) (theirs : Block) → j < r.first + 0 → block_in r j ≡ Some theirs
    → HasRoom own a j theirs
row_room-begun own a r j theirs lt there =
    absurd (let f = sym (row_from-before r.first r.blocks.items j (omega (arith, lt))) ∙ there in cc)

-- room for the rows so far
pub all_room-more : (own own' others : List BlockRow) (n : ℕ) (r : BlockRow) → n < length others → r ≡ get_or others n r
    → ((i j : ℕ) (theirs : Block) → i < n → block_of others i j ≡ Some theirs → HasRoom own i j theirs)
    → ((i j : ℕ) (b : Block) → HasRoom own i j b → nat_eq i n ≡ false → HasRoom own' i j b) → HasRowRoom own' n r
    → (i j : ℕ) (theirs : Block) → i < n + 1 → block_of others i j ≡ Some theirs → HasRoom own' i j theirs
all_room-more own own' others n r lt is before keeps here i j theirs low there = by_eq (cases_eq i n)
  where
    by_eq : (i ≡ n) ⊎ (i ≡ n → ⊥) → HasRoom own' i j theirs
    by_eq (inl e) =
        let mine : block_in r j ≡ Some theirs = sym (block_of-item others n r lt is j) ∙ ap (λ m. block_of others m j) (sym e) ∙ there in
        subst (λ m. HasRoom own' m j theirs) (sym e) (here j theirs mine)
    by_eq (inr ne) = keeps i j theirs (before i j theirs (omega (arith, low, ne)) there) (ne_eqb i n ne)

pub all_room-done : (own others : List BlockRow) (n : ℕ) → length others ≤ n
    → ((i j : ℕ) (theirs : Block) → i < n → block_of others i j ≡ Some theirs → HasRoom own i j theirs) → HasAllRoom own others
all_room-done own others n all before i j theirs there = by_test (nat_lt i n) refl
  where
    by_test : (t : Bool) → nat_lt i n ≡ t → HasRoom own i j theirs
    by_test true e = before i j theirs (ltb-true _ _ e) there
    by_test false e =
        let ge : n ≤ i = search rules in
        absurd (let f = sym (block_of-past others i j (omega (arith, ge, all))) ∙ there in cc)
