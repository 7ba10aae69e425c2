use Rattle.trace_text.proofs.Cuts.{cut_found}
use Rattle.trace_text.proofs.cut.cut_at.Goals as goal

pub returns : goal.returns
returns c = cut_found c.args.mark c.args.text.now c.split_once.result c.split_once.ensures.cases c.requires
