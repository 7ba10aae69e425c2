use Rattle.blocks.proofs.BlockLemmas.{IsReady-along}
use Rattle.blocks.proofs.block.Block.cut.Goals as goal

pub returns-in_err-open-clause-keeps : goal.returns-in_err-open-clause-keeps
returns-in_err-open-clause-keeps c = λ f t cut ready.
    IsReady-along c.args.self.now c.open.new.self f t cut c.open.ensures.same c.open.ensures.keeps ready

pub returns-clause-keeps : goal.returns-clause-keeps
returns-clause-keeps c = λ f t cut ready.
    IsReady-along c.args.self.now c.open.new.self f t cut c.open.ensures.same c.open.ensures.keeps ready
