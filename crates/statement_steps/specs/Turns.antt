-- The turns of a begun `parts` that are still to come.
use Rattle.types.specs.Code.{Code, Begun}
use Rattle.types.specs.Run.{Work, Pieces}
use Rattle.types.specs.Translation.{codes}
use Rattle.statement_steps.specs.declared.turns.TurnsToCome.{TurnsToCome}

-- they as a statement
abbrev pub begun : TurnsToCome → Code
begun t = Begun t.section.number t.size t.next t.piece.number t.turn.number (codes t.body.now)

-- and as work
abbrev pub pieces : TurnsToCome → Work
pieces t =
    Pieces t.label t.section.number t.size t.next t.piece.number t.turn.number (codes t.body.now)
