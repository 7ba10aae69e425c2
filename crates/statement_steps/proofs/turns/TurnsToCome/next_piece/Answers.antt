use Rattle.statement_steps.proofs.Pieces.{few_pieces}
use Rattle.statement_steps.proofs.turns.TurnsToCome.next_piece.Goals as goal

pub returns-clause-few : goal.returns-clause-few
returns-clause-few c =
    let w = c.window.result in
    few_pieces c.piece.result w.at w.len c.args.self.size c.args.self.next w.within c.piece.ensures.none
