-- Why two sections of one procedure share places.
use Rattle.std.specs.Prelude.{ℕ, ◌≡◌, ◌≢◌, List, false}
use Rattle.sections.specs.Origins.{Origin, IsChildOf}
use Rattle.sections.specs.Overlap.{are_opposite}
use Rattle.witness.specs.declared.sharing.Sharing.{Sharing}
use Rattle.witness.specs.declared.sharing.Sharing.TheVariants.{Same, FirstIsPart, SecondIsPart, OfSplits}

-- a section is another section, or a part of it
pub data LiesIn (origins : List Origin) : (inner outer : ℕ) → Type 0 where
  itself : {a : ℕ} → LiesIn origins a a
  side : {a s b : ℕ} → IsChildOf origins s a → LiesIn origins s b → LiesIn origins a b

-- x and y are different sides or pieces of s, and not the two sides of one split
pub record AreOfTwoSplits (origins : List Origin) (s x y : ℕ) : Type 0 where
  pub first : IsChildOf origins s x
  pub second : IsChildOf origins s y
  pub differ : x ≢ y
  pub other_split : are_opposite origins x y ≡ false

-- the two are one section, or one is a part of the other, or they lie in sides or pieces of a third,
-- and not in the two sides of one split
pub data Shares (origins : List Origin) (a b : ℕ) : Sharing → Type 0 where
  same : a ≡ b → Shares origins a b Same
  first_is_part : a ≢ b → LiesIn origins a b → Shares origins a b FirstIsPart
  second_is_part : a ≢ b → LiesIn origins b a → Shares origins a b SecondIsPart
  of_splits : {s x y : ℕ} → AreOfTwoSplits origins s x y → LiesIn origins a x → LiesIn origins b y
      → Shares origins a b (OfSplits (record { number = s }))

-- both are parts of s, and s is a part of each section of which both are parts
pub record IsNearest (origins : List Origin) (a b s : ℕ) : Type 0 where
  pub first : LiesIn origins a s
  pub second : LiesIn origins b s
  pub nearest : (c : ℕ) → LiesIn origins a c → LiesIn origins b c → LiesIn origins s c
