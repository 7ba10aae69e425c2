use Rattle.std.proofs.Common.{◌≡◌, take}
use Rattle.std.specs.Prelude.{map}
use Rattle.task_run.specs.Translation.{task_result}
use Rattle.event_worlds.proofs.ending.copies.Given as goal

-- the copies so far
abbrev pub invariant-loop-made : goal.invariant-loop-made
invariant-loop-made l = map task_result l.copies.items ≡ map task_result (take l.made-index l.results)
