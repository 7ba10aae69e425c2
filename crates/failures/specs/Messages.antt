-- The message of a failure.
use Rattle.std.specs.Prelude.{ℕ, List, ◌++◌, codes}
use Rattle.std.specs.Fmt.{decimal}
use Rattle.std.specs.String.{string_bytes}
use Rattle.syntax.specs.Refusals.{error_text as syntax_text}
use Rattle.types.specs.Codes.{error_text}
use Rattle.types.specs.Typed.{code_of}
use Rattle.race_checker.specs.Translation.{race as race_of}
use Rattle.printing.specs.Reasons.{escaped, input_text}
use Rattle.finish_scope.specs.RunErrors.{error_code as run_code}
use Rattle.trace_text.specs.Reading.{trace_error_text}
use Rattle.failures.specs.Races.{race_text}
use Rattle.failures.specs.declared.failure.Failure.{Failure}
use Rattle.failures.specs.declared.failure.Failure.TheVariants.{CannotRead, NotUtf8, Syntax, Types}
use Rattle.failures.specs.declared.failure.Failure.TheVariants.{Race, NoMemoryInCheck, Input, Run}
use Rattle.failures.specs.declared.failure.Failure.TheVariants.{CannotWrite, CannotWriteOutput, NoMemory}
use Rattle.failures.specs.declared.failure.Failure.TheVariants.{Trace, Illegal}
use Rattle.failures.specs.declared.failure.Failure.TheVariants.{ChoicesNotUnderstood, NoLeaf, NotLaidOut}

-- the line of a failure, without its newline
abbrev pub failure_text : Failure → List ℕ
failure_text (CannotRead name) = codes "cannot read " ++ escaped (string_bytes name)
failure_text (NotUtf8 name) = codes "not UTF-8 " ++ escaped (string_bytes name)
failure_text (Syntax e) = syntax_text e
failure_text (Types e) = error_text e
failure_text (Race found) = race_text (code_of found.typed) (race_of found.race)
failure_text NoMemoryInCheck = codes "C2"
failure_text (Input e) = input_text e
failure_text (Run e) = run_code e
failure_text (Trace e) = trace_error_text e
failure_text (Illegal n) = codes "illegal at event " ++ decimal n
failure_text ChoicesNotUnderstood = codes "choices not understood"
failure_text (NoLeaf n) = codes "no leaf at choice " ++ decimal n
failure_text NotLaidOut = codes "not formatted"
failure_text (CannotWrite name) = codes "cannot write " ++ escaped (string_bytes name)
failure_text CannotWriteOutput = codes "cannot write output"
failure_text NoMemory = codes "no memory"
