-- What is known about folders, and what reading them returns.
use Rattle.std.specs.Prelude.{ℕ, ◌≡◌, ◌≢◌, List, Option, None, Some, Result, Err}
use Rattle.std.specs.String.{string_bytes}
use Rattle.failures.specs.declared.failure.Failure.{Failure}
use Rattle.failures.specs.declared.failure.Failure.TheVariants.{CannotRead, NoMemory}
use Rattle.files.specs.declared.file_source.FileError.{FileError}
use Rattle.files.specs.declared.file_source.FileError.TheVariants.{Failed as Unread}
use Rattle.files.specs.declared.file_source.FileError.TheVariants.{NoMemory as NoMemoryInFile}

-- the names of all entries of a folder, or why there are none
abbrev pub Names : Type 0
Names = Result (List (List ℕ)) FileError

-- what is known about each folder: None if nothing is known
abbrev pub Folders : Type 0
Folders = List ℕ → Option Names

-- a folder whose names are known is returned as it is, unless memory runs out
abbrev pub AreGiven : (known : Option Names) → Names → Type 0
AreGiven None given = Unit {0}
AreGiven (Some known) given = given ≢ Err NoMemoryInFile → given ≡ known

-- the failure says why a folder with this name can't be read, unless memory runs out
abbrev pub TellsNoFolder : Folders → (name : List ℕ) → Failure → Type 0
TellsNoFolder folders name (CannotRead told) =
    (string_bytes told ≡ name) × AreGiven (folders name) (Err Unread)
TellsNoFolder folders name NoMemory = Unit {0}
TellsNoFolder folders name _ = ⊥
