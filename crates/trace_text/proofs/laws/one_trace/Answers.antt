use Rattle.trace_text.proofs.OneTrace.{one_trace}
use Rattle.trace_text.proofs.laws.one_trace.Goals as goal

pub returns : goal.returns
returns c text h g es fs first second = one_trace text h g es fs first second
