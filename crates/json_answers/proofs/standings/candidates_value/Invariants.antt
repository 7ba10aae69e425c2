use Rattle.step_trees.specs.Standing.{candidate_of}
use Rattle.json_answers.specs.Candidates.{candidate_json}
use Rattle.json_answers.proofs.Seen.{SeenFirst}
use Rattle.json_answers.proofs.standings.candidates_value.Given as goal

-- the values so far represent the first tasks
abbrev pub invariant-loop-task : goal.invariant-loop-task
invariant-loop-task l = SeenFirst (λ t. candidate_json l.places (candidate_of t)) l.tasks l.task-index l.list.items
