use Rattle.std.proofs.Common.{◌≡◌, ◌++◌, drop}
use Rattle.std.specs.String.{string_bytes}
use Rattle.trace_numbers.specs.Text.{worker_lines}
use Rattle.trace_numbers.proofs.text.push_workers.Given as goal

-- what was written, and the lines that are left
abbrev pub invariant-loop-number : goal.invariant-loop-number
invariant-loop-number l =
    string_bytes l.text ++ worker_lines l.workers l.number (drop l.number l.by_worker)
    ≡ string_bytes l.fn.text ++ worker_lines l.workers 0 l.by_worker
