use Rattle.sections.proofs.Pieces.{pieces_apart, piece_inside, piece_with}
use Rattle.sections.proofs.laws.pieces_divide_a_window.Goals as goal

pub returns-clause-apart : goal.returns-clause-apart
returns-clause-apart c w v u size j k = pieces_apart w v u size j k

pub returns-clause-inside : goal.returns-clause-inside
returns-clause-inside c = piece_inside

pub returns-clause-whole : goal.returns-clause-whole
returns-clause-whole c w size q h i =
    let p = piece_with w size q h i in (p.turn, p.piece, p.cut, p.inside)
