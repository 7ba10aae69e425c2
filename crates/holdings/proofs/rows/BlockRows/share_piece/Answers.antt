use Rattle.std.proofs.Common.{◌≡◌, ◌+◌, ◌/◌, ◌%◌, ℕ, Some, None, ap, sym, ◌∙◌, subst, option_map}
use Rattle.std.specs.Prelude.{if◌then◌else◌}
use Rattle.sections.specs.Covers.{is_in}
use Rattle.sections.specs.Translation.{window as window_of}
use Rattle.blocks.specs.Blocks.{held_at, number_at}
use Rattle.blocks.specs.Held.{Shared, as_shared, numbers}
use Rattle.blocks.specs.Offsets.{HasAll, in_range}
use Rattle.blocks.specs.declared.block.Block.TheVariants.{Empty}
use Rattle.holdings.specs.Pieces.{taking}
use Rattle.holdings.specs.Rows.{Replaces, block_of, held_in}
use Rattle.holdings.proofs.SharingLemmas.{piece-block, piece-held, shared-piece}
use Rattle.holdings.proofs.WritingLemmas.{held-widened}
use Rattle.holdings.proofs.rows.BlockRows.share_piece.Goals as goal

pub returns-in_default : goal.returns-in_default
returns-in_default c =
    let src = c.args.source.now.list.items in
    let w = window_of c.args.piece in
    let none : block_of src w.array (w.at / 256) ≡ None = ap (block_of src w.array) (sym c.block_number-number.ensures) ∙ sym c.in_default.ensures in
    absurd (piece-block w src c.requires.some c.requires.block c.requires.there none)

pub add_copies-requires-clause-held : goal.add_copies-requires-clause-held
add_copies-requires-clause-held c =
    let src = c.args.source.now.list.items in
    let w = window_of c.args.piece in
    let theirs = c.in-Some.theirs.now in
    let is : block_of src w.array (w.at / 256) ≡ Some theirs = ap (block_of src w.array) (sym c.block_number-number.ensures) ∙ sym c.in-Some.ensures in
    subst (λ f. HasAll f c.offsets-from.result.1 (held_at theirs)) (sym c.offsets-from.ensures.from)
    (subst (λ t. HasAll (w.at % 256) t (held_at theirs)) (sym c.offsets-from.ensures.to)
    (piece-held w theirs src c.requires.block is c.requires.there))

pub returns : goal.returns
returns c =
    let src = c.args.source.now.list.items in
    let w = window_of c.args.piece in
    let n = c.block_number-number.result in
    let at = c.block_number-number.ensures in
    let theirs = c.in-Some.theirs.now in
    let old = c.make_room.new.self.list.items in
    let mid = c.swap-mine.new.self.list.items in
    let new = c.swap.new.self.list.items in
    let a = c.swap-mine.result in
    let b = c.add_copies.new.self in
    let from : block_of src w.array (w.at / 256) ≡ Some theirs = ap (block_of src w.array) (sym at) ∙ sym c.in-Some.ensures in
    let is : block_of old w.array (w.at / 256) ≡ Some a = ap (block_of old w.array) (sym at) ∙ c.swap-mine.ensures.old in
    let out = subst (λ m. Replaces w.array m Empty old mid) at c.swap-mine.ensures.new in
    let back = subst (λ m. Replaces w.array m b mid new) at c.swap.ensures.new in
    let says : (k : ℕ) → held_at b k ≡ (if in_range (w.at % 256) (w.at % 256 + w.length) k then option_map Shared (number_at theirs k) else held_at a k) = λ k.
    c.in_ok-add_copies.ensures k
    ∙ ap (λ f. if in_range f c.offsets-from.result.1 k then option_map Shared (number_at theirs k) else held_at a k) c.offsets-from.ensures.from
    ∙ ap (λ t. if in_range (w.at % 256) t k then option_map Shared (number_at theirs k) else held_at a k) c.offsets-from.ensures.to in
    shared-piece w theirs a b Empty src old mid new c.requires.block from is out back says
    ∙ ap (taking (is_in w) (as_shared (numbers (held_in c.args.source.now))))
    (held-widened c.args.self.now.list.items old c.make_room.ensures.widens)
