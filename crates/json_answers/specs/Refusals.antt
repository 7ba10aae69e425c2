-- The object of a failure.
use Rattle.std.specs.Prelude.{ℕ, List, [], ◌∷◌, codes, Option, None, Some, option_and_then, option_map}
use Rattle.std.specs.Option.{option_or}
use Rattle.std.specs.String.{string_bytes}
use Rattle.serde_json.specs.Data.{Data, string}
use Rattle.syntax.specs.declared.place.TextPlace.{TextPlace}
use Rattle.syntax.specs.Refusals.{error_code as syntax_code, place_of}
use Rattle.types.specs.Codes.{error_code as rule_code, label_of}
use Rattle.types.specs.InputErrors.{error_code as input_code}
use Rattle.types.specs.declared.input_error.InputError.{InputError}
use Rattle.types.specs.declared.input_error.InputError.TheVariants.{UnknownArray, WrongLength, WrongElement}
use Rattle.finish_scope.specs.RunErrors.{error_code as run_code}
use Rattle.trace_text.specs.declared.error.TraceError.TheVariants.{NotALine, NoMemory as MemoryInTrace}
use Rattle.failures.specs.FailureStatus.{failure_status}
use Rattle.failures.specs.Messages.{failure_text}
use Rattle.failures.specs.declared.failure.Failure.{Failure}
use Rattle.failures.specs.declared.failure.Failure.TheVariants.{Syntax, Types, Race, NoMemoryInCheck, Input}
use Rattle.failures.specs.declared.failure.Failure.TheVariants.{Run, Trace}
use Rattle.json_answers.specs.Pieces.{list_by, natural, object_of, or_null}
use Rattle.json_answers.specs.Places.{column_of, line_of, place_at}
use Rattle.json_answers.specs.declared.reason.Reason.{Reason}

-- the code in its line
abbrev pub failure_code : Failure → Option (List ℕ)
failure_code (Syntax e) = Some (syntax_code e)
failure_code (Types e) = Some (rule_code e)
failure_code (Race found) = Some (codes "C1")
failure_code NoMemoryInCheck = Some (codes "C2")
failure_code (Input e) = Some (input_code e)
failure_code (Run e) = Some (run_code e)
failure_code (Trace (NotALine n)) = Some (codes "J1")
failure_code (Trace MemoryInTrace) = Some (codes "J2")
failure_code _ = None

-- the label in its line, except those of a race
abbrev pub failure_label : Failure → Option ℕ
failure_label (Types e) = label_of e
failure_label _ = None

-- its position: where the text is wrong, or where the statement with its label starts
abbrev pub failure_place : List TextPlace → Failure → Option TextPlace
failure_place places (Syntax e) = place_of e
failure_place places (Types e) = option_and_then (place_at places) (label_of e)
failure_place places _ = None

-- that position, or the one in the explanation
abbrev pub explained_place : List TextPlace → Failure → Reason → Option TextPlace
explained_place places f r = option_or (failure_place places f) r.place

-- why, and the suggestions
abbrev pub reason_json : Reason → Data
reason_json r = or_null string (option_map string_bytes r.reason)

abbrev pub helps_json : Reason → Data
helps_json r = list_by (λ help. string (string_bytes help)) r.helps.items

-- the name in an error of an input
abbrev pub input_name : InputError → Option (List ℕ)
input_name (UnknownArray name) = Some (string_bytes name)
input_name (WrongLength name) = Some (string_bytes name)
input_name (WrongElement name) = Some (string_bytes name)
input_name _ = None

abbrev pub failure_array : Failure → Option (List ℕ)
failure_array (Input e) = input_name e
failure_array _ = None

-- its code, its line and its status, and all else that is known; `file` is that of the program
abbrev pub members_with : (file : List ℕ) → (column line label name code help : Data)
    → (message : List ℕ) → (reason : Data) → (status : ℕ) → List (List ℕ × Data)
members_with file column line label name code help message reason status =
    (codes "array", name)
    ∷ (codes "code", code)
    ∷ (codes "column", column)
    ∷ (codes "file", string file)
    ∷ (codes "help", help)
    ∷ (codes "label", label)
    ∷ (codes "line", line)
    ∷ (codes "message", string message)
    ∷ (codes "reason", reason)
    ∷ (codes "status", natural status) ∷ []

abbrev pub refusal_members : (file : List ℕ) → List TextPlace → Failure → Reason → List (List ℕ × Data)
refusal_members file places f r =
    let place = explained_place places f r in
    members_with file (or_null natural (column_of place)) (or_null natural (line_of place))
    (or_null natural (failure_label f)) (or_null string (failure_array f))
    (or_null string (failure_code f)) (helps_json r) (failure_text f) (reason_json r) (failure_status f)

abbrev pub refusal_json : (file : List ℕ) → List TextPlace → Failure → Reason → Data
refusal_json file places f r = object_of (refusal_members file places f r)
