-- What the failures of a command state.
use Rattle.std.specs.Prelude.{ℕ, ◌≡◌, List}
use Rattle.std.specs.String.{string_bytes}
use Rattle.failures.specs.declared.failure.Failure.{Failure}
use Rattle.failures.specs.declared.failure.Failure.TheVariants.{CannotRead, CannotWrite, NotUtf8, NoMemory}

-- the file with this name can't be read, unless memory runs out
abbrev pub TellsUnread : (name : List ℕ) → Failure → Type 0
TellsUnread name (CannotRead told) = string_bytes told ≡ name
TellsUnread name NoMemory = Unit {0}
TellsUnread name _ = ⊥

-- the file with this name can't be written, unless memory runs out
abbrev pub TellsUnwritten : (name : List ℕ) → Failure → Type 0
TellsUnwritten name (CannotWrite told) = string_bytes told ≡ name
TellsUnwritten name NoMemory = Unit {0}
TellsUnwritten name _ = ⊥

-- the file with this name isn't UTF-8, unless memory runs out
abbrev pub TellsNotUtf8 : (name : List ℕ) → Failure → Type 0
TellsNotUtf8 name (NotUtf8 told) = string_bytes told ≡ name
TellsNotUtf8 name NoMemory = Unit {0}
TellsNotUtf8 name _ = ⊥
