use Rattle.json_answers.specs.Pieces.{natural}
use Rattle.json_answers.proofs.Seen.{SeenFirst}
use Rattle.json_answers.proofs.all_ends.choices_value.Given as goal

-- the values so far represent the first choices
abbrev pub invariant-loop-choice : goal.invariant-loop-choice
invariant-loop-choice l = SeenFirst natural l.choices l.choice-index l.list.items
