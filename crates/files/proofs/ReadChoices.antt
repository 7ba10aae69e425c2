-- Reading choices byte by byte, and from a file.
use Rattle.std.proofs.Common.{◌≡◌, ℕ, List, ◌∷◌, Option, Some, None, Ok, Err, ap, ◌∙◌, arith}
use Rattle.std.specs.Prelude.{option_map}
use Rattle.files.specs.Choices.{Reading, filed_by, goes_on, read_from, read_of_file, with_byte}
use Rattle.files.specs.Choices.{with_byte_of_file}
use Rattle.files.specs.Choosing.{SaysChoices, TellsNoChoices, TellsNone}
use Rattle.failures.specs.Failures.{TellsUnread}
use Rattle.files.specs.Held.{Held, IsGiven, first}
use Rattle.command_line.specs.Requests.{InFile}
use Rattle.failures.specs.declared.failure.Failure.{Failure}
use Rattle.failures.specs.declared.failure.Failure.TheVariants.{CannotRead, ChoicesNotUnderstood, NoMemory}
use Rattle.files.specs.declared.file_source.FileError.TheVariants.{Failed as Unread}
use Rattle.files.proofs.Programs.{filed_whole, not_read}

-- a byte after which reading continues
pub read_on : (r s : Reading) (byte : ℕ) (behind : List ℕ) → with_byte r byte ≡ Some s
    → read_from r (byte ∷ behind) ≡ read_from s behind
read_on r s byte behind is = ap (goes_on (λ t. read_from t behind)) is

-- ---- in a file

pub file_read_on : (r s : Reading) (byte : ℕ) (behind : List ℕ) → with_byte_of_file r byte ≡ Some s
    → read_of_file r (byte ∷ behind) ≡ read_of_file s behind
file_read_on r s byte behind is = ap (goes_on (λ t. read_of_file t behind)) is

-- the first bytes of a file give the same choices as the whole file
pub says_choices : (held : Held) (name xs : List ℕ) (choices : Option (List ℕ))
    → IsGiven (option_map (first 16777217) (held name)) (Ok xs) → filed_by xs ≡ choices → SaysChoices held name choices
says_choices held name xs choices given says =
    let all = filed_whole (held name) 16777216 16777217 xs (omega arith) given in
    record { bytes = all.whole; given = all.given; says = all.holds ∙ says }

pub file_says_none : (held : Held) (name xs : List ℕ) (f : Failure) → IsGiven (option_map (first 16777217) (held name)) (Ok xs)
    → TellsNone (filed_by xs) f → TellsNoChoices (Some (InFile name)) held f
file_says_none held name xs ChoicesNotUnderstood given told = says_choices held name xs None given told
file_says_none held name xs NoMemory given told = tt
file_says_none held name xs _ given told = absurd told

pub file_unread : (held : Held) (name : List ℕ) (f : Failure) → TellsUnread name f
    → IsGiven (option_map (first 16777217) (held name)) (Err Unread) → TellsNoChoices (Some (InFile name)) held f
file_unread held name (CannotRead told) is given = (is, not_read (held name) 16777217 given)
file_unread held name NoMemory is given = tt
file_unread held name _ is given = absurd is
