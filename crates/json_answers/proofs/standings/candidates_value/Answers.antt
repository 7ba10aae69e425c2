use Rattle.std.proofs.Common.{◌≤◌, ◌∙◌, sym, length, arith}
use Rattle.step_trees.specs.Standing.{candidate_of}
use Rattle.json_answers.specs.Candidates.{candidate_json}
use Rattle.json_answers.proofs.Seen.{list_by-map, seen_all}
use Rattle.json_answers.proofs.standings.candidates_value.Goals as goal

pub returns : goal.returns
returns c =
    let all : length c.args.tasks.now ≤ c.loop-task.task-index = omega arith in
    seen_all _ c.args.tasks.now c.loop-task.task-index c.loop-task.list all c.loop-task.invariant
    ∙ sym (list_by-map (candidate_json c.args.places.now) candidate_of c.args.tasks.now)
