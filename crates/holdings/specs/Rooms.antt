-- Rows that can take in what others own without memory.
use Rattle.std.specs.Prelude.{ℕ, ◌≡◌, ⊤, List, Some}
use Rattle.blocks.specs.Ready.{CanTake}
use Rattle.blocks.specs.declared.block.Block.{Block}
use Rattle.blocks.specs.declared.block.Block.TheVariants.{Empty, Mixed, Owned, Shared, WholeOwned}
use Rattle.blocks.specs.declared.block.Block.TheVariants.{WholeShared}
use Rattle.holdings.specs.Rows.{block_in, block_of}
use Rattle.holdings.specs.declared.row.BlockRow.{BlockRow}

-- a block has room for what another owns
pub record TakesIn (rs : List BlockRow) (a b : ℕ) (theirs : Block) : Type 0 where
  pub mine : Block
  pub there : block_of rs a b ≡ Some mine
  pub room : CanTake mine theirs

-- rows have room for what a block with this number owns
abbrev pub HasRoom : List BlockRow → (array block : ℕ) → (theirs : Block) → Type 0
HasRoom rs a b (WholeOwned w) = TakesIn rs a b (WholeOwned w)
HasRoom rs a b (WholeShared w) = ⊤
HasRoom rs a b Empty = ⊤
HasRoom rs a b (Shared n) = ⊤
HasRoom rs a b (Owned n) = TakesIn rs a b (Owned n)
HasRoom rs a b (Mixed m) = TakesIn rs a b (Mixed m)

-- rows have room for all that other rows own
abbrev pub HasAllRoom : (own others : List BlockRow) → Type 0
HasAllRoom own others = (i j : ℕ) (theirs : Block) → block_of others i j ≡ Some theirs
    → HasRoom own i j theirs

-- rows have room for all that one row of other rows owns
abbrev pub HasRowRoom : List BlockRow → (array : ℕ) → (theirs : BlockRow) → Type 0
HasRowRoom rs a r = (j : ℕ) (theirs : Block) → block_in r j ≡ Some theirs → HasRoom rs a j theirs
