use Rattle.types.specs.Translation.{program}
use Rattle.json_answers.specs.Steps.{step_json}
use Rattle.json_answers.proofs.SoFar.{SoFar}
use Rattle.json_answers.proofs.steps.way_value.Given as goal

-- the values so far represent the first steps, and the path continues in this procedure
abbrev pub invariant-loop-step : goal.invariant-loop-step
invariant-loop-step l =
    SoFar (step_json l.places (program l.code) l.write) l.fn.procedure.number l.way l.step-index l.here.number l.list.items
