-- What the program prints for a mistake in an input.
use Rattle.std.specs.Prelude.{ℕ, List, ◌++◌, Option, None, Some, codes}
use Rattle.std.specs.String.{string_bytes}
use Rattle.types.specs.Inputs.{Mistake, NoJson, NoObject, Stranger, OtherCount, OtherLength, BadElement}
use Rattle.types.specs.declared.input_error.InputError.{InputError}
use Rattle.types.specs.declared.input_error.InputError.TheVariants.{NotJson, NotAnObject, UnknownArray}
use Rattle.types.specs.declared.input_error.InputError.TheVariants.{WrongNumberOfLists, WrongLength}
use Rattle.types.specs.declared.input_error.InputError.TheVariants.{WrongElement, OutOfMemory}
use Rattle.types.specs.declared.input.ListFault.{ListFault}
use Rattle.types.specs.declared.input.ListFault.TheVariants.{Length, Element}

-- the mistake that an error reports; none if memory ran out
abbrev pub told : InputError → Option Mistake
told NotJson = Some NoJson
told NotAnObject = Some NoObject
told (UnknownArray name) = Some (Stranger (string_bytes name))
told WrongNumberOfLists = Some OtherCount
told (WrongLength name) = Some (OtherLength (string_bytes name))
told (WrongElement name) = Some (BadElement (string_bytes name))
told OutOfMemory = None

-- the code of an error
abbrev pub error_code : InputError → List ℕ
error_code NotJson = codes "N1"
error_code NotAnObject = codes "N2"
error_code (UnknownArray name) = codes "N3"
error_code WrongNumberOfLists = codes "N4"
error_code (WrongLength name) = codes "N4"
error_code (WrongElement name) = codes "N5"
error_code OutOfMemory = codes "N6"

-- the line of an error: its code, and the name if it has one
abbrev pub error_text : InputError → List ℕ
error_text NotJson = codes "N1"
error_text NotAnObject = codes "N2"
error_text (UnknownArray name) = codes "N3 " ++ string_bytes name
error_text WrongNumberOfLists = codes "N4"
error_text (WrongLength name) = codes "N4 " ++ string_bytes name
error_text (WrongElement name) = codes "N5 " ++ string_bytes name
error_text OutOfMemory = codes "N6"

-- the mistake in a list for the array with a name
abbrev pub mistake_in : (name : List ℕ) → ListFault → Mistake
mistake_in name Length = OtherLength name
mistake_in name Element = BadElement name
