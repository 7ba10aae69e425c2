use Rattle.std.proofs.Common.{arith}
use Rattle.blocks.proofs.WalkLemmas.{in_range-true}
use Rattle.blocks.proofs.BlockLemmas.{no_room}
use Rattle.blocks.proofs.block.Block.take_range.Goals as goal

pub unreachable-requires : goal.unreachable-requires
unreachable-requires c =
    c.in_ok-open.ensures.open c.args.from (in_range-true c.args.from c.args.to c.args.from (omega arith) c.requires.range)
    (no_room c.open.new.self c.in-Empty-self.is c.args.from)
