use Rattle.std.proofs.Common.{◌≡◌, ◌++◌}
use Rattle.types.specs.Typed.{code_of, program_of}
use Rattle.warnings.proofs.Found.{of_procedures}
use Rattle.warnings.proofs.finding.push_procedures.Given as goal

-- with those of the remaining procedures, all are found
abbrev pub invariant-loop-number : goal.invariant-loop-number
invariant-loop-number l =
    let t = program_of l.typed in let p = code_of l.typed in
    l.found.items ++ of_procedures t p l.procedures l.number
    ≡ l.initial.found.items ++ of_procedures t p l.procedures 0
