-- What will move out, and what can move without memory.
use Rattle.std.specs.Prelude.{ℕ, ◌+◌, ◌/◌, ◌%◌, ◌<◌, ◌≤◌, ◌≡◌, nat_eq, not, Bool, true, false}
use Rattle.std.specs.Prelude.{List, [], ◌∷◌, ◌&&◌, ◌||◌, length, Some, None, IsSome, get_or}
use Rattle.sections.specs.Covers.{is_in}
use Rattle.sections.specs.Place.{Place, Window}
use Rattle.sections.specs.Translation.{window as window_of}
use Rattle.blocks.specs.Held.{Held, Map}
use Rattle.blocks.specs.Ready.{IsReady}
use Rattle.blocks.specs.declared.block.Block.{Block}
use Rattle.blocks.specs.declared.cut.Cut.{Cut}
use Rattle.holdings.specs.Rows.{block_of, held_in_list, in_block}
use Rattle.holdings.specs.declared.carving.Carving.{Carving}
use Rattle.holdings.specs.declared.row.BlockRow.{BlockRow}

-- a window lies in one block, and has at least one place
pub record IsPiece (w : Window) : Type 0 where
  pub some : 0 < w.length
  pub block : w.at % 256 + w.length ≤ 256

-- all places that are held of a piece's block are places of the piece
abbrev pub IsWhole : Map Held → (piece : Window) → Type 0
IsWhole m w = (q : Place) → in_block w.array (w.at / 256) q ≡ true → (m q ≡ None → ⊥)
    → is_in w q ≡ true

-- two windows have no place in common
abbrev pub StandClear : (v w : Window) → Type 0
StandClear v w = (q : Place) → is_in v q ≡ true → is_in w q ≡ false

-- a piece can be moved out of its block without memory
pub record CanMove (rs : List BlockRow) (w : Window) (c : Cut) : Type 0 where
  pub mine : Block
  pub there : block_of rs w.array (w.at / 256) ≡ Some mine
  pub ready : IsReady mine (w.at % 256) (w.at % 256 + w.length) c

-- the window of what will move out
abbrev pub piece_of : Carving → Window
piece_of c = window_of c.piece

-- whether its block moves unchanged: in this case nothing was copied
abbrev pub moves : Carving → Bool
moves c = nat_eq c.cut.copied 0

-- what was cut out can move without memory to rows that have room for it. If its block moves
-- unchanged, those rows hold nothing of the block.
pub record IsMovable (own others : List BlockRow) (c : Carving) : Type 0 where
  pub piece : IsPiece (piece_of c)
  pub ready : CanMove own (piece_of c) c.cut
  pub room : IsSome (block_of others (piece_of c).array ((piece_of c).at / 256))
  pub alone : moves c ≡ true → (q : Place)
      → in_block (piece_of c).array ((piece_of c).at / 256) q ≡ true → held_in_list others q ≡ None

-- the places of all blocks that move unchanged
abbrev pub moved_places : List Carving → Place → Bool
moved_places [] q = false
moved_places (c ∷ cs) q = (moves c && is_in (piece_of c) q) || moved_places cs q

-- the places that were copied
abbrev pub copied_places : List Carving → Place → Bool
copied_places [] q = false
copied_places (c ∷ cs) q = (not (moves c) && is_in (piece_of c) q) || copied_places cs q

-- the places that move, unchanged or copied
abbrev pub cut_places : List Carving → Place → Bool
cut_places cs q = moved_places cs q || copied_places cs q

-- all that was cut out can move, and no two parts of it have a place in common
pub record IsCut (own others : List BlockRow) (cs : List Carving) : Type 0 where
  pub each : (i : ℕ) (c : Carving) → i < length cs → c ≡ get_or cs i c → IsMovable own others c
  pub clear : (i j : ℕ) (c d : Carving) → i < j → j < length cs → c ≡ get_or cs i c
      → d ≡ get_or cs j d → StandClear (piece_of c) (piece_of d)
