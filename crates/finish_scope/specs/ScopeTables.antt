-- What is in a slot.
use Rattle.std.specs.Prelude.{ℕ, ◌≡◌, List, Option, None, Some, slice_get}
use Rattle.finish_scope.specs.declared.scope_table.FindError.{FindError}
use Rattle.finish_scope.specs.declared.scope_table.FindError.TheVariants.{OutOfMemory, NoScope}

module _ {A : Type 0} where
  -- what is in the slot that was looked up
  abbrev pub found : Option (Option A) → Option A
  found None = None
  found (Some entry) = entry

  -- what is in the slot of this number
  abbrev pub in_slot : (slots : List (Option A)) → ℕ → Option A
  in_slot slots number = found (slice_get slots number)

  -- nothing is in the slot that was looked up, unless memory ran out
  abbrev pub TellsMissing : (slots : List (Option A)) → ℕ → FindError → Type 0
  TellsMissing slots number OutOfMemory = Unit {0}
  TellsMissing slots number (NoScope c) = (c.number ≡ number) × (in_slot slots number ≡ None)
