-- The exit statuses of failures, computed.
use Rattle.std.proofs.Common.{◌≡◌, refl, String, Global}
use Rattle.syntax.specs.declared.place.TextPlace.{TextPlace}
use Rattle.syntax.specs.declared.error.SyntaxError.TheVariants.{UnexpectedToken, TooLong, OutOfMemory as MemoryInSyntax}
use Rattle.types.specs.declared.error.TypeError.TheVariants.{NotInScope, OutOfMemory as MemoryInTypes}
use Rattle.types.specs.declared.input_error.InputError.TheVariants.{NotJson, OutOfMemory as MemoryInInput}
use Rattle.finish_scope.specs.declared.causes.Unsettled.{Unsettled}
use Rattle.finish_scope.specs.declared.run_error.RunError.TheVariants.{OutOfMemory as MemoryInRun, Gather, Unlogged}
use Rattle.trace_text.specs.declared.error.TraceError.TheVariants.{NotALine, NoMemory as MemoryInTrace}
use Rattle.failures.specs.FailureStatus.{failure_status}
use Rattle.failures.specs.declared.least_race.LeastRace.{LeastRace}
use Rattle.failures.specs.declared.failure.Failure.TheVariants.{CannotRead, NotUtf8, Syntax, Types, Race, NoMemoryInCheck}
use Rattle.failures.specs.declared.failure.Failure.TheVariants.{Input, Run, ChoicesNotUnderstood, NoLeaf, CannotWriteOutput, NoMemory}
use Rattle.failures.specs.declared.failure.Failure.TheVariants.{NotLaidOut, CannotWrite, Trace, Illegal}

-- ---- running out of memory, anywhere

no_memory : failure_status NoMemory ≡ 4
no_memory = refl

no_memory_in_check : failure_status NoMemoryInCheck ≡ 4
no_memory_in_check = refl

no_memory_in_syntax : failure_status (Syntax MemoryInSyntax) ≡ 4
no_memory_in_syntax = refl

no_memory_in_types : failure_status (Types MemoryInTypes) ≡ 4
no_memory_in_types = refl

no_memory_in_input : failure_status (Input MemoryInInput) ≡ 4
no_memory_in_input = refl

no_memory_in_run : failure_status (Run MemoryInRun) ≡ 4
no_memory_in_run = refl

no_memory_in_trace : failure_status (Trace MemoryInTrace) ≡ 4
no_memory_in_trace = refl

-- ---- inconsistent results, and invalid recorded events

unsettled_results : (u : Unsettled) → failure_status (Run (Gather u)) ≡ 5
unsettled_results u = refl

strange_events : failure_status (Run Unlogged) ≡ 5
strange_events = refl

-- ---- rejections

unread_file : (name : String Global) → failure_status (CannotRead name) ≡ 1
unread_file name = refl

unwritten_file : (name : String Global) → failure_status (CannotWrite name) ≡ 1
unwritten_file name = refl

no_text : (name : String Global) → failure_status (NotUtf8 name) ≡ 1
no_text name = refl

wrong_text : (place : TextPlace) → failure_status (Syntax (UnexpectedToken place)) ≡ 1
wrong_text place = refl

too_long_text : failure_status (Syntax TooLong) ≡ 1
too_long_text = refl

broken_rule : failure_status (Types (NotInScope 2)) ≡ 1
broken_rule = refl

race : (found : LeastRace) → failure_status (Race found) ≡ 1
race found = refl

wrong_input : failure_status (Input NotJson) ≡ 1
wrong_input = refl

no_line_of_a_trace : failure_status (Trace (NotALine 14)) ≡ 1
no_line_of_a_trace = refl

illegal_event : failure_status (Illegal 7) ≡ 1
illegal_event = refl

no_choices : failure_status ChoicesNotUnderstood ≡ 1
no_choices = refl

no_leaf : failure_status (NoLeaf 2) ≡ 1
no_leaf = refl

no_layout : failure_status NotLaidOut ≡ 1
no_layout = refl

no_output : failure_status CannotWriteOutput ≡ 1
no_output = refl
