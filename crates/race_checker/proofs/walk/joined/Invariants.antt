use Rattle.types.specs.Translation.{program}
use Rattle.race_checker.specs.Races.{numbered}
use Rattle.race_checker.proofs.Pieces.{PutTogether}
use Rattle.race_checker.proofs.walk.joined.Given as goal

-- what is found is that of the pieces so far
abbrev pub invariant-loop-piece : goal.invariant-loop-piece
invariant-loop-piece l =
    let p = program l.fn.code in
    let f = l.fn.procedure.number in
    PutTogether p (numbered p f).sections f l.fn.body l.found l.piece-iterator.rest.items
