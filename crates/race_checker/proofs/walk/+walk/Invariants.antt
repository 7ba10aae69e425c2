use Rattle.std.proofs.Common.{◌+◌, ◌*◌, drop}
use Rattle.types.specs.Translation.{code, codes, program}
use Rattle.race_checker.specs.Found.{IsFoundIn}
use Rattle.race_checker.specs.Races.{numbered}
use Rattle.effects.proofs.Statements.{size, size_in}
use Rattle.race_checker.proofs.walk.+walk.Given as goal

-- the result so far is that of the later statements
abbrev pub invariant-found_in_piece-loop-place : goal.invariant-found_in_piece-loop-place
invariant-found_in_piece-loop-place g l =
    let p = program l.fn.code in
    IsFoundIn p (numbered p l.fn.procedure.number).sections l.fn.procedure.number (codes (drop l.place l.piece)) l.found

-- a list calls for its pieces, a piece for its statements, a statement for its blocks
abbrev pub decreases-found_in : goal.decreases-found_in
decreases-found_in g l = 5 * size (codes l.body.now) + 4

abbrev pub decreases-found_in_pieces : goal.decreases-found_in_pieces
decreases-found_in_pieces g l = 5 * size (codes l.body.now) + 3

abbrev pub decreases-found_in_pieces-map : goal.decreases-found_in_pieces-map
decreases-found_in_pieces-map g l = 5 * size (codes l.piece.now) + 2

abbrev pub decreases-found_in_piece : goal.decreases-found_in_piece
decreases-found_in_piece g l = 5 * size (codes l.piece.now) + 1

abbrev pub decreases-found_of : goal.decreases-found_of
decreases-found_of g l = 5 * size_in (code l.statement.now.kind) + 5
