use Rattle.trace_page.specs.Births.{AreBornSoFar}
use Rattle.trace_page.proofs.births.births_of.Given as goal

-- the tasks that the events so far have spawned
abbrev pub invariant-loop-number : goal.invariant-loop-number
invariant-loop-number l = AreBornSoFar l.events l.number l.births
