use Rattle.json_answers.specs.Pieces.{integer}
use Rattle.json_answers.proofs.Seen.{SeenFirst}
use Rattle.json_answers.proofs.outcomes.numbers_value.Given as goal

-- the values so far represent the first numbers
abbrev pub invariant-loop-number : goal.invariant-loop-number
invariant-loop-number l = SeenFirst integer l.numbers l.number-index l.list.items
