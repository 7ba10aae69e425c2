use Rattle.json_answers.specs.Statements.{share_json}
use Rattle.json_answers.proofs.StatementValues.{SoFar}
use Rattle.json_answers.proofs.statements.share_list.Given as goal

-- the values so far, and those that are left
abbrev pub invariant-loop-number : goal.invariant-loop-number
invariant-loop-number l =
    SoFar (share_json l.statements l.work l.span) l.statements.places.items l.number l.list.items
