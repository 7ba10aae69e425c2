use Rattle.std.proofs.Common.{length}
use Rattle.layout.specs.Writing.{IsCounted, Passes}
use Rattle.layout.proofs.text.between.Given as goal

-- what was passed so far had no tokens
abbrev pub invariant-loop-first : goal.invariant-loop-first
invariant-loop-first l = record {
  counted : IsCounted l.writer;
  passed : Passes l.fn.writer l.fn.text l.writer l.rest;
}

abbrev pub decreases-loop-first : goal.decreases-loop-first
decreases-loop-first l = length l.rest
