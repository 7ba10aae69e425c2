use Rattle.blocks.proofs.BlockLemmas.{no_room, none_without_room}
use Rattle.blocks.proofs.block.Block.take.Goals as goal

pub returns-in-Empty-clause-copied : goal.returns-in-Empty-clause-copied
returns-in-Empty-clause-copied c =
    none_without_room c.args.self.now c.args.other.now c.requires (no_room c.args.self.now c.in-Empty.is)

pub returns-in-Empty-2-clause-copied : goal.returns-in-Empty-2-clause-copied
returns-in-Empty-2-clause-copied c =
    none_without_room c.args.self.now c.args.other.now c.requires (no_room c.args.self.now c.in-Empty.is)

pub returns-in-Empty-3-clause-copied : goal.returns-in-Empty-3-clause-copied
returns-in-Empty-3-clause-copied c =
    none_without_room c.args.self.now c.args.other.now c.requires (no_room c.args.self.now c.in-Empty.is)

pub returns-in-Empty-4-clause-copied : goal.returns-in-Empty-4-clause-copied
returns-in-Empty-4-clause-copied c =
    none_without_room c.args.self.now c.args.other.now c.requires (no_room c.args.self.now c.in-Empty.is)

pub returns-in-Empty-5-clause-copied : goal.returns-in-Empty-5-clause-copied
returns-in-Empty-5-clause-copied c =
    none_without_room c.args.self.now c.args.other.now c.requires (no_room c.args.self.now c.in-Empty.is)
