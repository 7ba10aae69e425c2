-- From a JSON text to the input of a source.
use Rattle.std.proofs.Common.{◌≡◌, ℕ, ℤ, List, Some, Ok, Err, refl}
use Rattle.std.specs.Prelude.{IfSome}
use Rattle.types.specs.Code.{Array}
use Rattle.types.specs.InputErrors.{told}
use Rattle.types.specs.Inputs.{text_says}
use Rattle.types.specs.declared.input_error.InputError.{InputError}
use Rattle.command_line.specs.Requests.{Source, FromBytes, FromFile, FromLists}
use Rattle.failures.specs.Failures.{TellsNotUtf8, TellsUnread}
use Rattle.files.specs.Held.{HasJson, HasMistake, HasMistakeIn, HasMistakeOf, HasNoText, Held, IsGiven, Says, SaysText}
use Rattle.files.specs.Held.{TellsNoInput, TellsNoText, wrong_bytes}
use Rattle.failures.specs.declared.failure.Failure.{Failure}
use Rattle.failures.specs.declared.failure.Failure.TheVariants.{CannotRead, Input, NotUtf8, NoMemory}

-- what its text says
pub said : (held : Held) (source : Source) (text : List ℕ) (arrays : List Array) (lists : List (List ℤ))
    → HasJson held source text → SaysText text arrays lists → Says held source arrays lists
said held (FromFile name) text arrays lists has says = record { text = text; has_text = has; says = says }
said held (FromLists words) text arrays lists has says = record { text = text; has_text = has; says = says }
said held (FromBytes name file) text arrays lists has says = absurd has

mistake_of : (held : Held) (source : Source) (text : List ℕ) (arrays : List Array) (e : InputError)
    → HasJson held source text → IfSome (told e) (λ m. text_says arrays text ≡ Err m) → HasMistake held source arrays e
mistake_of held (FromFile name) text arrays e has mistake = record { text = text; has_text = has; mistake = mistake }
mistake_of held (FromLists words) text arrays e has mistake = record { text = text; has_text = has; mistake = mistake }
mistake_of held (FromBytes name file) text arrays e has mistake = absurd has

pub mistaken : (held : Held) (source : Source) (text : List ℕ) (arrays : List Array) (f : Failure)
    → HasJson held source text → HasMistakeIn text arrays f → TellsNoInput (Some source) held arrays f
mistaken held source text arrays (Input e) has mistake =
    record { source = source; given = refl; fact = mistake_of held source text arrays e has mistake }
mistaken held source text arrays NoMemory has mistake = tt
mistaken held source text arrays _ has mistake = absurd mistake

-- what the bytes of a file say
pub bytes_mistaken : (held : Held) (name file bytes : List ℕ) (arrays : List Array) (f : Failure)
    → IsGiven (held file) (Ok bytes) → HasMistakeOf (wrong_bytes name bytes arrays) f
    → TellsNoInput (Some (FromBytes name file)) held arrays f
bytes_mistaken held name file bytes arrays (Input e) given mistake = record {
  source = FromBytes name file;
  given = refl;
  fact = record { bytes = bytes; given = given; mistake = mistake };
}
bytes_mistaken held name file bytes arrays NoMemory given mistake = tt
bytes_mistaken held name file bytes arrays _ given mistake = absurd mistake

-- a file that can't be read gives no input
pub unread_no_input : (name : List ℕ) (held : Held) (arrays : List Array) (f : Failure) → TellsNoText held name f
    → TellsNoInput (Some (FromFile name)) held arrays f
unread_no_input name held arrays (CannotRead told) why = record { name = name; named = refl; fact = why }
unread_no_input name held arrays (NotUtf8 told) why =
    record { source = FromFile name; given = refl; fact = (name, refl, why) }
unread_no_input name held arrays NoMemory why = tt
unread_no_input name held arrays _ why = absurd why

pub unread_no_bytes : (name file : List ℕ) (held : Held) (arrays : List Array) (f : Failure) → TellsUnread file f
    → TellsNoText held file f → TellsNoInput (Some (FromBytes name file)) held arrays f
unread_no_bytes name file held arrays (CannotRead told) unread why = record { name = file; named = refl; fact = why }
unread_no_bytes name file held arrays NoMemory unread why = tt
unread_no_bytes name file held arrays _ unread why = absurd unread

-- a file whose bytes aren't UTF-8 gives no input
pub no_text_no_input : (name : List ℕ) (held : Held) (arrays : List Array) (f : Failure) → TellsNotUtf8 name f
    → HasNoText held name → TellsNoInput (Some (FromFile name)) held arrays f
no_text_no_input name held arrays (NotUtf8 told) is bytes =
    record { source = FromFile name; given = refl; fact = (name, refl, (is, bytes)) }
no_text_no_input name held arrays NoMemory is bytes = tt
no_text_no_input name held arrays _ is bytes = absurd is
