use Rattle.std.proofs.Common.{arith}
use Rattle.trace_numbers.proofs.Spans.{at_more}
use Rattle.trace_layout.proofs.Moved.{stolen_more}
use Rattle.trace_layout.proofs.moves.moves_of.Goals as goal

pub loop-number-preserved : goal.loop-number-preserved
loop-number-preserved c =
    let es = c.args.events.now in
    let n = c.loop-number.number in
    let e = c.index-events-number.result in
    record {
      chains = at_more es n e _ c.loop-number.chains c.happens-in-loop-number.new.self (omega arith) c.index-events-number.is
          c.loop-number.invariant.chains c.in_ok-happens-2.ensures;
      stolen = stolen_more es n e _ c.loop-number.queues.moves.steals.items c.happens.new.self.moves.steals.items (omega arith)
          c.index-events-number.is c.loop-number.invariant.stolen c.in_ok-happens.ensures;
    }
