use Rattle.std.proofs.Common.{◌≡◌, drop, ◌++◌}
use Rattle.std.specs.Prelude.{map}
use Rattle.types.specs.Outcome.{whole_arrays}
use Rattle.sections.specs.Translation.{window}
use Rattle.types.specs.Translation.{array}
use Rattle.statement_steps.proofs.thread.main_environment.Given as goal

-- the windows so far are those of the first arrays
abbrev pub invariant-loop-number : goal.invariant-loop-number
invariant-loop-number l =
    let arrays = l.plan.program.now.arrays.items in
    map window l.windows.items ++ whole_arrays l.number (map array (drop l.number arrays)) ≡ whole_arrays 0 (map array arrays)
