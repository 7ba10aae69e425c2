use Rattle.std.proofs.Common.{◌≤◌, length}
use Rattle.syntax.specs.Lexical.{HasTokens}
use Rattle.syntax.specs.Refusals.{ArePlaced}
use Rattle.syntax.specs.Token.{plain}
use Rattle.syntax.proofs.lexer.tokens.Given as goal

abbrev pub invariant-loop-rest : goal.invariant-loop-rest
invariant-loop-rest l = record {
  shorter : length l.rest ≤ length l.fn.text;
  read : HasTokens l.fn.text (plain l.tokens.items) l.rest;
  placed : ArePlaced l.fn.text l.tokens.items;
}

abbrev pub decreases-loop-rest : goal.decreases-loop-rest
decreases-loop-rest l = length l.rest
