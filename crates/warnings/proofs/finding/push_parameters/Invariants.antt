use Rattle.std.proofs.Common.{◌≡◌, ◌++◌, ◌+◌}
use Rattle.types.specs.Translation.{codes}
use Rattle.warnings.proofs.Found.{of_parameters}
use Rattle.warnings.proofs.finding.push_parameters.Given as goal

-- with those of the remaining parameters, all are found; scalars and sections were counted
abbrev pub invariant-loop-number : goal.invariant-loop-number
invariant-loop-number l =
    let b = codes l.body in
    record {
      counted : l.before.scalars + l.before.sections ≡ l.number;
      found : l.found.items ++ of_parameters l.procedure b l.parameters l.number l.before.scalars l.before.sections
          ≡ l.initial.found.items ++ of_parameters l.procedure b l.parameters 0 0 0;
    }
