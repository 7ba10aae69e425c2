use Rattle.std.specs.HashMap.{get}
use Rattle.types.specs.Translation.{is_path}
use Rattle.trace_page.proofs.Ends.{AreEndsSoFar}
use Rattle.trace_page.proofs.tasks.TaskEnds.of.Given as goal

-- the ends in the events so far
abbrev pub invariant-loop-at : goal.invariant-loop-at
invariant-loop-at l = AreEndsSoFar l.events l.at (get is_path l.by_path)
