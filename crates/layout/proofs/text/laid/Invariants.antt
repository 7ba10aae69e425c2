use Rattle.std.proofs.Common.{List, [], drop}
use Rattle.syntax.specs.Lexical.{AreCut, Piece}
use Rattle.syntax.specs.Token.{plain}
use Rattle.layout.specs.Laid.{laid_pieces}
use Rattle.layout.specs.Writing.{GoesOn, IsCounted}
use Rattle.layout.proofs.text.laid.Given as goal

-- the layout continues with the remaining tokens
abbrev pub invariant-loop-spanned : goal.invariant-loop-spanned
invariant-loop-spanned l = record {
  counted : IsCounted l.writer;
  going : (ps : List Piece) → AreCut l.fn.text ps [] → GoesOn (laid_pieces ps) (plain (drop l.spanned-index l.tokens)) l.writer l.rest;
}
