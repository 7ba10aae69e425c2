use Rattle.json_answers.specs.Outcomes.{numbers_json}
use Rattle.json_answers.proofs.Seen.{SeenFirst}
use Rattle.json_answers.proofs.outcomes.lines_value.Given as goal

-- the values so far represent the first lines
abbrev pub invariant-loop-line : goal.invariant-loop-line
invariant-loop-line l = SeenFirst (λ v. numbers_json v.items) l.lines l.line-index l.list.items
