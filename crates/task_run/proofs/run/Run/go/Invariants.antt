use Rattle.task_run.specs.Left.{left_of}
use Rattle.task_run.specs.RunTurns.{GoesOn}
use Rattle.task_run.proofs.run.Run.go.Given as goal

-- the run continues from its old configuration
abbrev pub invariant-turns : goal.invariant-turns
invariant-turns g l = GoesOn (g.N.Needed.needs l.needed) l.initial.self l.self

abbrev pub decreases-turns : goal.decreases-turns
decreases-turns g l = left_of l.self
