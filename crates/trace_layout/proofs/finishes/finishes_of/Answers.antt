use Rattle.std.proofs.Common.{length, refl, arith}
use Rattle.std.proofs.lemmas.Option.{slice_get_read}
use Rattle.trace_numbers.proofs.Spans.{at_more}
use Rattle.trace_layout.proofs.Opened.{all_finishes}
use Rattle.trace_layout.proofs.finishes.finishes_of.Goals as goal

pub loop-number-preserved : goal.loop-number-preserved
loop-number-preserved c =
    let is = c.index-events-number.is in
    let at = slice_get_read c.args.events.now (length c.args.events.now) c.loop-number.number _ refl (omega arith) is in
    record {
      chains = at_more c.args.events.now c.loop-number.number _ _ c.loop-number.chains c.happens-in-loop-number.new.self
          (omega arith) is c.loop-number.invariant.chains c.in_ok-happens-2.ensures;
      scopes = c.in_ok-happens.ensures c.args.events.now at c.loop-number.invariant.scopes;
    }

pub returns : goal.returns
returns c =
    all_finishes c.args.events.now c.loop-number.number c.loop-number.scopes _ (omega arith) refl c.loop-number.invariant.scopes
