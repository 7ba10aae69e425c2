-- The choices in a file, and why there are none.
use Rattle.std.specs.Prelude.{ℕ, ◌≡◌, List, Option, None, Some, Ok, Err}
use Rattle.std.specs.String.{string_bytes}
use Rattle.files.specs.Choices.{said_by, filed_by}
use Rattle.files.specs.Held.{Held, IsGiven}
use Rattle.command_line.specs.Requests.{Choosing, Listed, InFile, Random}
use Rattle.failures.specs.declared.failure.Failure.{Failure}
use Rattle.failures.specs.declared.failure.Failure.TheVariants.{CannotRead, NoMemory, ChoicesNotUnderstood}
use Rattle.files.specs.declared.file_source.FileError.TheVariants.{Failed as Unread}

-- the file with this name has these choices, or malformed ones
pub record SaysChoices (held : Held) (name : List ℕ) (choices : Option (List ℕ)) : Type 0 where
  pub bytes : List ℕ
  pub given : IsGiven (held name) (Ok bytes)
  pub says : filed_by bytes ≡ choices

-- the choices of the list or the file are malformed
abbrev pub AreNotUnderstood : Option Choosing → Held → Type 0
AreNotUnderstood None held = ⊥
AreNotUnderstood (Some (Listed text)) held = said_by text ≡ None
AreNotUnderstood (Some (InFile name)) held = SaysChoices held name None
AreNotUnderstood (Some (Random seed)) held = ⊥

-- the file of choices has this name and can't be read
abbrev pub AreUnread : Option Choosing → Held → (told : List ℕ) → Type 0
AreUnread None held told = ⊥
AreUnread (Some (Listed text)) held told = ⊥
AreUnread (Some (InFile name)) held told = (told ≡ name) × IsGiven (held name) (Err Unread)
AreUnread (Some (Random seed)) held told = ⊥

-- why there are no choices, unless memory runs out
abbrev pub TellsNoChoices : Option Choosing → Held → Failure → Type 0
TellsNoChoices c held ChoicesNotUnderstood = AreNotUnderstood c held
TellsNoChoices c held (CannotRead told) = AreUnread c held (string_bytes told)
TellsNoChoices c held NoMemory = Unit {0}
TellsNoChoices c held _ = ⊥

-- why a text has no choices, given the choices in it, unless memory runs out
abbrev pub TellsNone : (said : Option (List ℕ)) → Failure → Type 0
TellsNone said ChoicesNotUnderstood = said ≡ None
TellsNone said NoMemory = Unit {0}
TellsNone said _ = ⊥
