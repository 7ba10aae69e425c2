use Rattle.std.proofs.Common.{◌≡◌, ◌<◌, ◌≤◌, ◌+◌, length}
use Rattle.sections.specs.Overlap.{overlap as overlap_of}
use Rattle.sections.specs.Tree.{origins_of}
use Rattle.sections.proofs.tree.SectionTree.overlap.Given as goal

-- the two sections that are reached overlap exactly if the two given sections do
abbrev pub invariant-walk : goal.invariant-walk
invariant-walk l = record {
  order : l.low ≤ l.high;
  there : l.high < length (origins_of l.self);
  same : overlap_of (origins_of l.self) l.fn.a.number l.fn.b.number ≡ overlap_of (origins_of l.self) l.low l.high;
}

abbrev pub decreases-walk : goal.decreases-walk
decreases-walk l = l.low + l.high
