-- Windows that agree with the origins of their sections.
use Rattle.std.specs.Prelude.{ℕ, ◌+◌, ◌≡◌, ◌≢◌, List, Bool, true, ℤ, Some}
use Rattle.sections.specs.Member.{Member}
use Rattle.sections.specs.Origins.{Origin, Root, Left, Right, Piece, origin_of}
use Rattle.sections.specs.Place.{Place, Window, In, sides_of, piece_of}

-- two windows share no place
abbrev pub Apart : Window → Window → Type 0
Apart v w = (q : Place) → In v q → In w q → ⊥

-- the sections that can be named at one point of a procedure
pub record Names : Type 0 where
  pub origins : List Origin
  -- whether a root may be written
  pub may_write : ℕ → Bool
  pub scope : List ℕ

-- l and the next section are the two sides of s, and all are in scope
pub record AreSidesOf (names : Names) (windows : ℕ → Window) (s l : ℕ) : Type 0 where
  pub parent : Member s names.scope
  pub right : Member (l + 1) names.scope
  pub right_origin : origin_of names.origins (l + 1) ≡ Right s
  pub at : ℤ
  pub cut : sides_of (windows s) at ≡ Some (windows l, windows (l + 1))

-- r is the right side of s, and its left side is in scope
pub record HasLeft (names : Names) (s r : ℕ) : Type 0 where
  pub left : ℕ
  pub turn : r ≡ left + 1
  pub in_scope : Member left names.scope
  pub origin : origin_of names.origins left ≡ Left s

-- p is a piece of s, which is in scope
pub record IsPieceOf (names : Names) (windows : ℕ → Window) (s p : ℕ) : Type 0 where
  pub parent : Member s names.scope
  pub size : ℕ
  pub turn : ℕ
  pub cut : piece_of (windows s) size turn ≡ Some (windows p)

-- the windows of the sections in scope agree with the origins of the sections
pub record Placed (names : Names) (windows : ℕ → Window) : Type 0 where
  -- a root that may be written shares no place with another root
  pub apart : (r s : ℕ) → r ≢ s → Member r names.scope → Member s names.scope
      → origin_of names.origins r ≡ Root → origin_of names.origins s ≡ Root
      → names.may_write r ≡ true → Apart (windows r) (windows s)
  -- the windows of the sides of a split are the sides of their parent's window
  pub left : (s l : ℕ) → Member l names.scope → origin_of names.origins l ≡ Left s
      → AreSidesOf names windows s l
  pub right : (s r : ℕ) → Member r names.scope → origin_of names.origins r ≡ Right s
      → HasLeft names s r
  -- the window of a piece is a piece of its parent's window
  pub piece : (s p : ℕ) → Member p names.scope → origin_of names.origins p ≡ Piece s
      → IsPieceOf names windows s p
