-- The accesses of a set, which stores them by kind.
use Rattle.std.specs.Prelude.{ℕ, ◌≡◌, Bool, true, false}
use Rattle.effects.specs.Accesses.{Access}
use Rattle.effects.specs.UseSets.{HasUse}
use Rattle.effects.specs.declared.accesses.Accesses.{Accesses}
use Rattle.effects.specs.declared.uses.Uses.{Uses}

-- the uses that write, or those that read
abbrev pub uses_of : Accesses → (write : Bool) → Uses
uses_of xs true = xs.writes
uses_of xs false = xs.reads

-- the set has an access
unfoldable pub HasAccess : Accesses → Access → Type 0
HasAccess xs x = HasUse (uses_of xs x.write) x.section x.label

-- an access writes this section, or reads it
abbrev pub IsUseOf : (section : ℕ) → (write : Bool) → Access → Type 0
IsUseOf s w x = (x.section ≡ s) × (x.write ≡ w)
