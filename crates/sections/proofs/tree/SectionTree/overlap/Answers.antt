use Rattle.std.proofs.Common.{arith, sym, ◌∙◌}
use Rattle.sections.specs.Tree.{origins_of}
use Rattle.sections.proofs.Climbing.{met-overlap, overlap-ordered}
use Rattle.sections.proofs.Overlapping.{overlap-sym}
use Rattle.sections.proofs.tree.SectionTree.overlap.Goals as goal

pub walk-init : goal.walk-init
walk-init c = record {
  order = omega (arith, c.min-low.ensures, c.max-high.ensures);
  there = omega (arith, c.max-high.ensures, c.requires.first, c.requires.second);
  same = overlap-ordered (origins_of c.args.self.now) c.args.a.number c.args.b.number c.min-low.result c.max-high.result
      c.min-low.ensures c.max-high.ensures;
}

pub walk-preserved-then-parent-low : goal.walk-preserved-then-parent-low
walk-preserved-then-parent-low c = record {
  order = omega (arith, c.if-parent-low.true);
  there = omega (arith, c.walk-test.true, c.walk.invariant.there);
  same = c.walk.invariant.same ∙ c.in-Some.ensures.same ∙ overlap-sym (origins_of c.args.self.now) c.walk.low c.in-Some.parent;
}

pub returns : goal.returns
returns c = sym (c.walk.invariant.same
    ∙ met-overlap (origins_of c.args.self.now) c.args.self.now.numbered c.walk.low c.walk.high c.walk.invariant.order c.walk-test.false)
