use Rattle.std.proofs.Common.{◌≡◌, take}
use Rattle.std.specs.Prelude.{map}
use Rattle.task_run.specs.Translation.{listed}
use Rattle.task_run.proofs.copy.children.Given as goal

-- the children so far
abbrev pub invariant-loop-child : goal.invariant-loop-child
invariant-loop-child l = map listed l.copies.items ≡ map listed (take l.child-index l.children)
