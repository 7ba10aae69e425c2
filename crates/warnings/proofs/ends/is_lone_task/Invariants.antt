use Rattle.std.proofs.Common.{◌≡◌, drop}
use Rattle.std.specs.Prelude.{if◌then◌else◌}
use Rattle.types.specs.Translation.{codes}
use Rattle.warnings.specs.Ends.{is_end, is_lone_task}
use Rattle.warnings.proofs.ends.is_lone_task.Given as goal

-- behind a task there must be no statement; before one the task of the remaining statements is that of all
abbrev pub invariant-loop-stmt : goal.invariant-loop-stmt
invariant-loop-stmt l =
    let rest = codes (drop l.stmt-index l.block) in
    (if l.ends_with_task then is_end rest else is_lone_task rest) ≡ is_lone_task (codes l.block)
