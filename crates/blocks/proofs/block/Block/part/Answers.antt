use Rattle.std.proofs.Common.{ap, arith}
use Rattle.blocks.specs.Blocks.{held_at}
use Rattle.blocks.proofs.BlockLemmas.{reach-held, reach-mixed, whole-held}
use Rattle.blocks.proofs.WalkLemmas.{in_range-true}
use Rattle.blocks.proofs.block.Block.part.Goals as goal

pub unreachable-requires : goal.unreachable-requires
unreachable-requires c =
    c.requires.held c.args.from (in_range-true c.args.from c.args.to c.args.from (omega arith) c.requires.range)
    (ap (λ b. held_at b c.args.from) c.in-Empty.is)

pub part-requires-clause-there : goal.part-requires-clause-there
part-requires-clause-there c =
    reach-mixed c.args.self.now c.deref.result.now c.in-Mixed.mixed c.args.from c.args.to c.requires.range c.deref.ensures c.in-Mixed.is c.requires.held

pub part-requires-in-WholeOwned-clause-places : goal.part-requires-in-WholeOwned-clause-places
part-requires-in-WholeOwned-clause-places c =
    (whole-held c.args.self.now c.args.from c.args.to c.requires.range c.in-WholeOwned.whole c.in-WholeOwned.is).1 c.requires.held

pub part-requires-in-Owned-clause-there : goal.part-requires-in-Owned-clause-there
part-requires-in-Owned-clause-there c =
    (reach-held c.args.self.now c.deref-in-Owned.result.now c.args.from c.args.to c.requires.range c.in-Owned.numbers
    c.deref-in-Owned.ensures c.in-Owned.is).1 c.requires.held
