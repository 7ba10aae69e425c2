use Rattle.std.proofs.Common.{◌≡◌, ◌++◌, drop, map}
use Rattle.std.specs.String.{string_bytes}
use Rattle.trace_numbers.specs.Tables.{gathered}
use Rattle.trace_numbers.specs.Text.{faults_lines}
use Rattle.trace_numbers.proofs.text.push_faults.Given as goal

-- what was written, and the lines that are left
abbrev pub invariant-loop-gathered : goal.invariant-loop-gathered
invariant-loop-gathered l =
    string_bytes l.text ++ faults_lines (map gathered (drop l.gathered-index l.finishes))
    ≡ string_bytes l.fn.text ++ faults_lines (map gathered l.finishes)
