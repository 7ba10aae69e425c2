-- The smallest of some values, by a measure of their size.
use Rattle.std.specs.Prelude.{ℕ, ◌≡◌, ◌⊎◌, ◌≤◌, Option, None, Some, IfSome}

module _ {A : Type 0} (size : A → ℕ) where
  -- something was found, and its size is at most this
  abbrev pub AtMost : Option A → ℕ → Type 0
  AtMost None n = ⊥
  AtMost (Some a) n = size a ≤ n

  -- one of two optional values, no larger than either: the first, if the other isn't smaller
  pub record IsLesserOf (one other found : Option A) : Type 0 where
    pub either : (found ≡ one) ⊎ (found ≡ other)
    pub first : (n : ℕ) → AtMost one n → AtMost found n
    pub second : (n : ℕ) → AtMost other n → AtMost found n
    pub kept : (a b : A) → one ≡ Some a → other ≡ Some b → size a ≤ size b → found ≡ one

  -- one of those values, and no other of a covered size is smaller
  pub record IsLeast (covered : ℕ → Type 0) (those : A → Type 0) (found : Option A) : Type 0 where
    pub among : IfSome found those
    pub least : (a : A) → those a → covered (size a) → AtMost found (size a)

-- every size is covered
abbrev pub all_covered : ℕ → Type 0
all_covered n = Unit {0}
