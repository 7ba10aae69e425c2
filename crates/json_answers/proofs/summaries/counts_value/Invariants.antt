use Rattle.json_answers.specs.Pieces.{natural}
use Rattle.json_answers.proofs.Seen.{SeenFirst}
use Rattle.json_answers.proofs.summaries.counts_value.Given as goal

-- the values so far represent the first numbers
abbrev pub invariant-loop-count : goal.invariant-loop-count
invariant-loop-count l = SeenFirst natural l.counts l.count-index l.list.items
