-- Whether places of windows are there, piece by piece.
use Rattle.std.proofs.Common.{◌≡◌, ℕ, zero, suc, ◌+◌, ◌-◌, ◌/◌, ◌%◌, ◌≤◌, List}
use Rattle.std.proofs.Common.{Option, Some, None, true, inl, inr, refl, sym, ap, ◌∙◌, arith, subst}
use Rattle.std.proofs.lemmas.Bool.{or_cases, or_left, or_right, false≢true}
use Rattle.std.specs.Prelude.{ℤ, ◌⊎◌, ◌↔◌, option_map}
use Rattle.blocks.proofs.AddingLemmas.{number-none}
use Rattle.sections.specs.Covers.{is_in}
use Rattle.sections.specs.Place.{Place, Window, In}
use Rattle.sections.proofs.Covering.{is_in-from}
use Rattle.blocks.specs.Blocks.{held_at, owned_at}
use Rattle.blocks.specs.Held.{Held, IsThere, Map, number_of, owned_number}
use Rattle.blocks.specs.Offsets.{HasAll}
use Rattle.blocks.specs.declared.block.Block.{Block}
use Rattle.blocks.proofs.WalkLemmas.{in_range-low, in_range-high}
use Rattle.holdings.specs.Pieces.{behind_piece, piece}
use Rattle.holdings.specs.Rows.{block_of, held_in_list, held_of}
use Rattle.holdings.specs.Wanted.{wanted}
use Rattle.holdings.specs.declared.presence.Presence.{Presence}
use Rattle.holdings.specs.declared.presence.Presence.TheVariants.{Owned as AsOwned, Held as AsHeld}
use Rattle.holdings.specs.declared.row.BlockRow.{BlockRow}
use Rattle.holdings.proofs.PieceLemmas.{is_in-cut, is_in-empty}
use Rattle.holdings.proofs.BlockRowLemmas.{held_of-piece, is_in-block, in_its_block}

-- ---- a window and its parts

pub there-cut : {A : Type 0} (w : Window) (m : Map A) → IsThere (is_in (piece w)) m → IsThere (is_in (behind_piece w)) m
    → IsThere (is_in w) m
there-cut w m first rest q is none = absurd (by_part (or_cases (is_in (piece w) q) (is_in (behind_piece w) q) (sym (is_in-cut w q) ∙ is)))
  where
    by_part : (is_in (piece w) q ≡ true) ⊎ (is_in (behind_piece w) q ≡ true) → ⊥
    by_part (inl here) = first q here none
    by_part (inr here) = rest q here none

pub there-piece : {A : Type 0} (w : Window) (m : Map A) → IsThere (is_in w) m → IsThere (is_in (piece w)) m
there-piece w m there q is = there q (is_in-cut w q ∙ or_left (is_in (piece w) q) (is_in (behind_piece w) q) is)

pub there-behind : {A : Type 0} (w : Window) (m : Map A) → IsThere (is_in w) m → IsThere (is_in (behind_piece w)) m
there-behind w m there q is = there q (is_in-cut w q ∙ or_right (is_in (piece w) q) (is_in (behind_piece w) q) is)

pub there-empty : {A : Type 0} (w : Window) (m : Map A) → w.length ≡ 0 → IsThere (is_in w) m
there-empty w m e q is none = absurd (false≢true (sym (is_in-empty w q e) ∙ is))

-- ---- a piece of one block

-- what a test sees of places, given what is held there
abbrev pub seen : (Option Held → Option ℤ) → Map Held → Map ℤ
seen f m q = f (m q)

pub there-block : (rs : List BlockRow) (w : Window) (b : Block) (f : Option Held → Option ℤ) → w.at % 256 + w.length ≤ 256
    → block_of rs w.array (w.at / 256) ≡ Some b → HasAll (w.at % 256) (w.at % 256 + w.length) (λ k. f (held_at b k))
    → IsThere (is_in w) (seen f (held_in_list rs))
there-block rs w b f fits is all q here none =
    let e = in_its_block w q fits here in
    let held = held_of-piece rs w q e ∙ ap (λ o. held_of o (q.index % 256)) is in
    all (q.index % 256) (sym (is_in-block w q e) ∙ here) (ap f (sym held) ∙ none)

pub block-there : (rs : List BlockRow) (w : Window) (b : Block) (f : Option Held → Option ℤ) → w.at % 256 + w.length ≤ 256
    → block_of rs w.array (w.at / 256) ≡ Some b → IsThere (is_in w) (seen f (held_in_list rs))
    → HasAll (w.at % 256) (w.at % 256 + w.length) (λ k. f (held_at b k))
block-there rs w b f fits is there k here none =
    let low = in_range-low (w.at % 256) (w.at % 256 + w.length) k here in
    let high = in_range-high (w.at % 256) (w.at % 256 + w.length) k here in
    let i = w.at + (k - w.at % 256) in
    let q : Place = record { array = w.array; index = i } in
    let inside : In w q = record { array = refl; low = omega arith; high = omega (arith, low, high) } in
    let yes = is_in-from w q inside in
    let e = in_its_block w q fits yes in
    let off : i % 256 ≡ k = omega (arith, low, high, fits) in
    let held = held_of-piece rs w q e ∙ ap (λ o. held_of o (i % 256)) is ∙ ap (held_at b) off in
    there q yes (ap f held ∙ none)

-- nothing is held if there is no block
pub no_block-there : (rs : List BlockRow) (w : Window) (f : Option Held → Option ℤ) → f None ≡ None → w.at % 256 + w.length ≤ 256
    → block_of rs w.array (w.at / 256) ≡ None → IsThere (is_in w) (seen f (held_in_list rs)) → w.length ≡ 0
no_block-there rs w f none fits is there = by_length (w.length) refl
  where
    by_length : (n : ℕ) → w.length ≡ n → w.length ≡ 0
    by_length zero e = e
    by_length (suc n) e =
        let q : Place = record { array = w.array; index = w.at } in
        let inside : In w q = record { array = refl; low = omega arith; high = omega (arith, e) } in
        let yes = is_in-from w q inside in
        let held = held_of-piece rs w q (in_its_block w q fits yes) ∙ ap (λ o. held_of o (w.at % 256)) is in
        absurd (there q yes (ap f held ∙ none))

-- ---- both requirements

pub piece-none : (rs : List BlockRow) (w : Window) (want : Presence) → w.at % 256 + w.length ≤ 256 → block_of rs w.array (w.at / 256) ≡ None
    → IsThere (is_in w) (wanted want (held_in_list rs)) → w.length ≡ 0
piece-none rs w AsOwned fits is there = no_block-there rs w owned_number refl fits is there
piece-none rs w AsHeld fits is there = no_block-there rs w (option_map number_of) refl fits is there

-- a fact about the offsets of a block is a fact about the piece of a window in that block
module _ (rs : List BlockRow) (w : Window) (b : Block) (n from to : ℕ) (fits : w.at % 256 + w.length ≤ 256)
    (number : n ≡ w.at / 256)
    (found : Some b ≡ block_of rs w.array n) (begins : from ≡ w.at % 256) (ends : to ≡ w.at % 256 + w.length)
  where
    is_block : block_of rs w.array (w.at / 256) ≡ Some b
    is_block = ap (block_of rs w.array) (sym number) ∙ sym found

    all-along : {A : Type 0} (m : ℕ → Option A)
        → HasAll from to m ↔ HasAll (w.at % 256) (w.at % 256 + w.length) m
    all-along m = (
      λ all. subst (λ x. HasAll x (w.at % 256 + w.length) m) begins (subst (λ x. HasAll from x m) ends all),
      λ all. subst (λ x. HasAll x to m) (sym begins) (subst (λ x. HasAll (w.at % 256) x m) (sym ends) all),
    )

    piece-told : {A : Type 0} {T : Type 0} (m : ℕ → Option A) (f : Option Held → Option ℤ)
        → ((k : ℕ) → m k ≡ None → f (held_at b k) ≡ None)
        → ((k : ℕ) → f (held_at b k) ≡ None → m k ≡ None) → T ↔ HasAll from to m
        → T ↔ IsThere (is_in w) (seen f (held_in_list rs))
    piece-told m f none nothing told = (
      λ t. there-block rs w b f fits is_block (λ k here n. (all-along m).0 (told.0 t) k here (nothing k n)),
      λ there. told.1 ((all-along m).1 (λ k here n. block-there rs w b f fits is_block there k here
          (none k n))),
    )

    pub piece-owned : {T : Type 0} (want : Presence) → want ≡ AsOwned → T ↔ HasAll from to (owned_at b)
        → T ↔ IsThere (is_in w) (wanted want (held_in_list rs))
    piece-owned {T} want e told = subst (λ x. T ↔ IsThere (is_in w) (wanted x (held_in_list rs))) (sym e)
        (piece-told (owned_at b) owned_number (λ k n. n) (λ k n. n) told)

    pub piece-held : {T : Type 0} (want : Presence) → want ≡ AsHeld → T ↔ HasAll from to (held_at b)
        → T ↔ IsThere (is_in w) (wanted want (held_in_list rs))
    piece-held {T} want e told = subst (λ x. T ↔ IsThere (is_in w) (wanted x (held_in_list rs))) (sym e)
        (piece-told (held_at b) (option_map number_of) (λ k n. ap (option_map number_of) n)
        (λ k n. number-none (held_at b k) n) told)
