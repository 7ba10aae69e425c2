-- What is kept for the asyncs of a program: what the body of each needs, by the async's label.
use Rattle.std.specs.Prelude.{ℕ, ◌≡◌, ◌⊎◌, Option, None, Some, IsSome, option_map}
use Rattle.std.specs.BTreeMap.{BTreeMap, get}
use Rattle.std.specs.Ordering.{nat_cmp}
use Rattle.types.specs.Code.{Async, Codes, Program}
use Rattle.effects.specs.Needs.{Needs}
use Rattle.effects.specs.Rounds.{needs_of}
use Rattle.effects.specs.Statements.{HasStatement}
use Rattle.effects.specs.Translation.{needs}
use Rattle.effects.specs.declared.needs.Needs.{Needs as rNeeds}

-- what is kept at a label
abbrev pub needs_at : BTreeMap ℕ rNeeds → (label : ℕ) → Option Needs
needs_at kept l = option_map needs (get nat_cmp kept l)

-- at the label of an async, what its body needs; at any other label, nothing
pub record IsNeedAt (p : Program) (label : ℕ) (found : Option Needs) : Type 0 where
  pub of_async : (b : Codes) → HasStatement p label (Async b) → found ≡ Some (needs_of p b)
  pub of_another : ((b : Codes) → HasStatement p label (Async b) → ⊥) → found ≡ None

-- these are what the body of an async with this label needs
pub record IsOfAsync (p : Program) (label : ℕ) (n : Needs) : Type 0 where
  pub body : Codes
  pub stands : HasStatement p label (Async body)
  pub same : n ≡ needs_of p body

-- the needs of asyncs are kept in addition to what was kept before, and nothing else is added
pub record Keeps (p : Program) (those : (label : ℕ) → Codes → Type 0)
    (before after : ℕ → Option Needs) : Type 0 where
  pub stay : (l : ℕ) → IsSome (before l) → IsSome (after l)
  pub has : (l : ℕ) (b : Codes) → those l b → IsSome (after l)
  pub only : (l : ℕ) (n : Needs) → after l ≡ Some n → (before l ≡ Some n) ⊎ IsOfAsync p l n
