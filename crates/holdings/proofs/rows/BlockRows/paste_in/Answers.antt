use Rattle.std.proofs.Common.{◌≡◌, ◌∙◌, ◌≤◌, ◌/◌, ◌%◌, ◌+◌, ◌*◌, ℕ, List, Bool, true, false, Some, None, option_map, ap, arith, is_some, refl, rules, subst, sym, inl, inr, ◌⊎◌}
use Rattle.std.proofs.lemmas.Bool.{and_from, eq-eqb, ltb-true}
use Rattle.std.proofs.lemmas.Option.{same_Some}
use Rattle.std.specs.Prelude.{nat_lt, if◌then◌else◌}
use Rattle.sections.specs.Place.{Place}
use Rattle.std.specs.Arc.{arc_value}
use Rattle.std.specs.declared.alloc.Global.{Global}
use Rattle.std.specs.declared.sync.Arc.{Arc}
use Rattle.blocks.specs.Numbers.{number_in, whole_at}
use Rattle.blocks.specs.Blocks.{held_at, owned_at}
use Rattle.blocks.specs.Held.{Held, Map, Owned, first_of}
use Rattle.blocks.specs.Offsets.{IsWithin}
use Rattle.blocks.specs.Ready.{CanTake}
use Rattle.blocks.specs.declared.block.Block.{Block}
use Rattle.blocks.specs.declared.block.Block.TheVariants.{Empty, Mixed, Owned as AllOwned, Shared as AllShared, WholeOwned, WholeShared}
use Rattle.blocks.specs.declared.numbers.Numbers.{Numbers}
use Rattle.blocks.specs.declared.whole.Whole.{Whole}
use Rattle.blocks.proofs.BlockLemmas.{held_at-behind, owned_number-shared}
use Rattle.holdings.specs.Rooms.{HasRoom, TakesIn}
use Rattle.holdings.specs.Rows.{block_of, held_in_list, in_block}
use Rattle.holdings.specs.declared.row.BlockRow.{BlockRow}
use Rattle.blocks.proofs.WalkLemmas.{how_many-none}
use Rattle.holdings.proofs.CarvingLemmas.{held-there, replaced-here, replaced-twice, took_in}
use Rattle.holdings.proofs.RoomLemmas.{room-elsewhere}
use Rattle.holdings.proofs.rows.BlockRows.paste_in.Goals as goal

-- a block that owns nothing
nothing_pasted : (own : Map Held) (a m : ℕ) (b : Block) → ((k : ℕ) → owned_at b k ≡ None) → (q : Place)
    → own q ≡ (if in_block a m q then first_of (option_map Owned (owned_at b (q.index % 256))) (own q) else own q)
nothing_pasted own a m b none q = by_here (in_block a m q)
  where
    by_here : (c : Bool) → own q ≡ (if c then first_of (option_map Owned (owned_at b (q.index % 256))) (own q) else own q)
    by_here false = refl
    by_here true = ap (λ o. first_of (option_map Owned o) (own q)) (sym (none (q.index % 256)))

owns_none : (b : Block) → (b ≡ Empty) ⊎ (((n : Arc Numbers Global) × (b ≡ AllShared n)) ⊎ ((w : Arc Whole Global) × (b ≡ WholeShared w)))
    → (k : ℕ) → owned_at b k ≡ None
owns_none b (inl e) k = ap (λ x. owned_at x k) e
owns_none b (inr (inl w)) k = ap (λ x. owned_at x k) w.1 ∙ owned_number-shared (number_in (arc_value w.0) k)
owns_none b (inr (inr w)) k = ap (λ x. owned_at x k) w.1 ∙ owned_number-shared (whole_at (arc_value w.0) k)

-- if there is room for a block that may own something, a block exists
takes_in : (rs : List BlockRow) (a b : ℕ) (theirs : Block) → (theirs ≡ Empty → ⊥) → ((n : _) → theirs ≡ AllShared n → ⊥)
    → ((w : _) → theirs ≡ WholeShared w → ⊥)
    → HasRoom rs a b theirs → TakesIn rs a b theirs
takes_in rs a b (WholeOwned w) full owns all room = room
takes_in rs a b (WholeShared w) full owns all room = absurd (all w refl)
takes_in rs a b Empty full owns all room = absurd (full refl)
takes_in rs a b (AllShared n) full owns all room = absurd (owns n refl)
takes_in rs a b (AllOwned n) full owns all room = room
takes_in rs a b (Mixed m) full owns all room = room

-- what is held of the block's places is held of its offsets
within : (own : List BlockRow) (a m : ℕ) (mine theirs : Block) → block_of own a m ≡ Some mine
    → ((q : Place) → in_block a m q ≡ true → (held_in_list own q ≡ None → ⊥) → owned_at theirs (q.index % 256) ≡ None → ⊥)
    → IsWithin (held_at mine) (owned_at theirs)
within own a m mine theirs is all k some none = by_small (nat_lt k 256) refl
  where
    by_small : (t : Bool) → nat_lt k 256 ≡ t → ⊥
    by_small false e = let le : 256 ≤ k = search rules in some (held_at-behind mine k le)
    by_small true e =
        let lt = ltb-true _ _ e in
        let i : ℕ = 256 * m + k in
        let q : Place = record { array = a; index = i } in
        let block : i / 256 ≡ m = omega (arith, lt) in
        let offset : i % 256 ≡ k = omega (arith, lt) in
        let here : in_block a m q ≡ true = and_from _ _ (eq-eqb a a refl) (eq-eqb (i / 256) m block) in
        all q here (λ n. some (sym (ap (held_at mine) offset) ∙ sym (held-there own a m mine q here is) ∙ n))
        (ap (owned_at theirs) offset ∙ none)

-- and the other way round
all_within : (own : List BlockRow) (a m : ℕ) (mine theirs : Block) → block_of own a m ≡ Some mine → IsWithin (held_at mine) (owned_at theirs)
    → (q : Place) → in_block a m q ≡ true → (held_in_list own q ≡ None → ⊥) → owned_at theirs (q.index % 256) ≡ None → ⊥
all_within own a m mine theirs is all q here held none =
    all (q.index % 256) (λ n. held (held-there own a m mine q here is ∙ n)) none

pub returns-in-Empty : goal.returns-in-Empty
returns-in-Empty c = record {
  pasted = nothing_pasted (held_in_list c.args.self.now.list.items) c.args.array c.args.number c.args.theirs (owns_none c.args.theirs c.in-Empty.is);
  moved = λ all. refl;
  counted = λ never. sym (how_many-none (owned_at c.args.theirs) 256 (λ k lt. owns_none c.args.theirs c.in-Empty.is k));
  keeps = λ i j b h e. h;
}

pub swap-mine-requires : goal.swap-mine-requires
swap-mine-requires c =
    let room = takes_in c.args.self.now.list.items c.args.array c.args.number c.args.theirs c.in_default.not-Empty c.in_default.not-Shared c.in_default.not-WholeShared c.requires in
    ap is_some room.there

pub paste-copied-requires : goal.paste-copied-requires
paste-copied-requires c =
    let room = takes_in c.args.self.now.list.items c.args.array c.args.number c.args.theirs c.in_default.not-Empty c.in_default.not-Shared c.in_default.not-WholeShared c.requires in
    subst (λ b. CanTake b c.args.theirs) (same_Some _ _ (sym room.there ∙ c.swap-mine.ensures.old)) room.room

pub swap-requires : goal.swap-requires
swap-requires c =
    ap is_some (replaced-here c.args.array c.args.number Empty c.args.self.now.list.items c.swap-mine.new.self.list.items c.swap-mine.ensures.new)

pub returns-in_default : goal.returns-in_default
returns-in_default c =
    let old = c.args.self.now.list.items in
    let mid = c.swap-mine.new.self.list.items in
    let new = c.swap.new.self.list.items in
    let a = c.args.array in
    let m = c.args.number in
    let theirs = c.args.theirs in
    let mine = c.swap-mine.result in
    let s = c.paste-copied.new.self in
    let is = c.swap-mine.ensures.old in
    let back = replaced-twice a m Empty s old mid new c.swap-mine.ensures.new c.swap.ensures.new in
    record {
      pasted = took_in a m mine s old new (owned_at theirs) is back c.paste-copied.ensures.pasted;
      moved = λ all. c.paste-copied.ensures.moved (within old a m mine theirs is all);
      counted = λ never. c.paste-copied.ensures.counted (λ all. never (all_within old a m mine theirs is all));
      keeps = λ i j b h e. room-elsewhere a m s old new back i j b e h;
    }
