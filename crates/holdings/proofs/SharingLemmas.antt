-- Copies of the places of windows.
use Rattle.std.proofs.Common.{◌≡◌, ℕ, ◌+◌, ◌/◌, ◌%◌, ◌<◌, ◌≤◌, List, Option, Some, None, refl, sym, ap, ◌∙◌, arith, option_map}
use Rattle.std.specs.Prelude.{if◌then◌else◌}
use Rattle.sections.specs.Covers.{is_in}
use Rattle.sections.specs.Place.{Window}
use Rattle.blocks.specs.Blocks.{held_at, number_at}
use Rattle.blocks.specs.Held.{Held, IsThere, Shared, as_shared, number_of, numbers}
use Rattle.blocks.specs.Offsets.{HasAll, in_range}
use Rattle.blocks.specs.declared.block.Block.{Block}
use Rattle.holdings.specs.Pieces.{taking}
use Rattle.holdings.specs.Rows.{Replaces, block_of, held_in_list, held_of}
use Rattle.holdings.specs.declared.row.BlockRow.{BlockRow}
use Rattle.holdings.proofs.MapLemmas.{number_none}
use Rattle.holdings.proofs.PresenceLemmas.{block-there, no_block-there}
use Rattle.holdings.proofs.BlockRowLemmas.{held-changed, held_of-piece}

pub shared-piece : (w : Window) (theirs a b x : Block) (src old mid new : List BlockRow) → w.at % 256 + w.length ≤ 256
    → block_of src w.array (w.at / 256) ≡ Some theirs → block_of old w.array (w.at / 256) ≡ Some a
    → Replaces w.array (w.at / 256) x old mid → Replaces w.array (w.at / 256) b mid new
    → ((k : ℕ) → held_at b k ≡ (if in_range (w.at % 256) (w.at % 256 + w.length) k then option_map Shared (number_at theirs k) else held_at a k))
    → held_in_list new ≡ taking (is_in w) (as_shared (numbers (held_in_list src))) (held_in_list old)
shared-piece w theirs a b x src old mid new fits from is out back says =
    held-changed w a b x old mid new (as_shared (numbers (held_in_list src))) fits is out back (λ q e.
    says (q.index % 256)
    ∙ ap (λ (h : Option Held). if in_range (w.at % 256) (w.at % 256 + w.length) (q.index % 256)
    then option_map Shared (option_map number_of h) else held_at a (q.index % 256))
    (sym (held_of-piece src w q e ∙ ap (λ o. held_of o (q.index % 256)) from)))

-- all of a piece is held by its block
pub piece-held : (w : Window) (theirs : Block) (src : List BlockRow) → w.at % 256 + w.length ≤ 256
    → block_of src w.array (w.at / 256) ≡ Some theirs → IsThere (is_in w) (numbers (held_in_list src))
    → HasAll (w.at % 256) (w.at % 256 + w.length) (held_at theirs)
piece-held w theirs src fits is there k here none =
    block-there src w theirs (option_map number_of) fits is there k here (number_none (held_at theirs k) none)

-- a piece that has a place has a block
pub piece-block : (w : Window) (src : List BlockRow) → 0 < w.length → w.at % 256 + w.length ≤ 256
    → IsThere (is_in w) (numbers (held_in_list src)) → block_of src w.array (w.at / 256) ≡ None → ⊥
piece-block w src some fits there none =
    omega (arith, some, no_block-there src w (option_map number_of) refl fits none there)
