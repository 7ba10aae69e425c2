-- The origins of the sections of a procedure. They are numbered in the order in which they appear.
use Rattle.std.specs.Prelude.{ℕ, ◌+◌, ◌-◌, ◌<◌, ◌≡◌, List, slice_index_or}

-- the origin of a section: it is an array or a parameter, a side of a split, or the piece of a `parts`
pub data Origin : Type 0 where
  Root : Origin
  Left : (parent : ℕ) → Origin
  Right : (parent : ℕ) → Origin
  Piece : (parent : ℕ) → Origin

module _ (origins : List Origin) where
  -- the origin of the section with a number
  abbrev pub origin_of : ℕ → Origin
  origin_of a = slice_index_or origins a Root

  -- a section is a side or a piece of s
  pub data IsChildOf (s a : ℕ) : Type 0 where
    left : origin_of a ≡ Left s → IsChildOf s a
    right : origin_of a ≡ Right s → IsChildOf s a
    piece : origin_of a ≡ Piece s → IsChildOf s a

  -- a parent has the smaller number, and the sides of each split have consecutive numbers
  pub record IsNumbered : Type 0 where
    pub left : (a s : ℕ) → origin_of a ≡ Left s → s < a
    pub right : (a s : ℕ) → origin_of a ≡ Right s → s < a
    pub piece : (a s : ℕ) → origin_of a ≡ Piece s → s < a
    -- next to a left side is the right side of the same split
    pub right_behind : (a s : ℕ) → origin_of a ≡ Left s → origin_of (a + 1) ≡ Right s
    -- right before a right side is its left side
    pub left_before : (a s : ℕ) → origin_of a ≡ Right s → origin_of (a - 1) ≡ Left s
