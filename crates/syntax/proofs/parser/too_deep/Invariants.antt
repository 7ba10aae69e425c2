use Rattle.std.proofs.Common.{◌≡◌, ◌≤◌, take}
use Rattle.syntax.specs.Brackets.{AreShallow}
use Rattle.syntax.specs.Token.{plain}
use Rattle.syntax.proofs.Shallow.{open_after}
use Rattle.syntax.proofs.parser.too_deep.Given as goal

-- This many brackets are open after the tokens that were read, which are shallow.
abbrev pub invariant-loop-spanned : goal.invariant-loop-spanned
invariant-loop-spanned l = record {
  few : l.count ≤ 100;
  opened : l.count ≡ open_after 0 (plain (take l.spanned-index l.tokens));
  shallow : AreShallow 0 (plain (take l.spanned-index l.tokens));
}
