use Rattle.trace_numbers.specs.Tables.{gathered}
use Rattle.json_answers.specs.Summaries.{finish_json}
use Rattle.json_answers.proofs.Seen.{SeenFirst}
use Rattle.json_answers.proofs.summaries.finishes_value.Given as goal

-- the values so far represent the first finishes
abbrev pub invariant-loop-gathered : goal.invariant-loop-gathered
invariant-loop-gathered l = SeenFirst (λ f. finish_json (gathered f)) l.finishes l.gathered-index l.list.items
