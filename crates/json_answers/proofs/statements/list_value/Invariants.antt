use Rattle.json_answers.specs.Statements.{statement_json}
use Rattle.json_answers.proofs.StatementValues.{SoFar}
use Rattle.json_answers.proofs.statements.list_value.Given as goal

-- the values so far, and those that are left
abbrev pub invariant-loop-number : goal.invariant-loop-number
invariant-loop-number l = SoFar (statement_json l.statements) l.statements.places.items l.number l.list.items
