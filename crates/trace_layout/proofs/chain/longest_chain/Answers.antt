use Rattle.std.proofs.Common.{◌+◌, length, ap, ◌∙◌, arith}
use Rattle.std.proofs.lemmas.List.{length_push}
use Rattle.trace_numbers.proofs.Spans.{at_more}
use Rattle.trace_layout.proofs.chain.longest_chain.Goals as goal

pub loop-number-preserved : goal.loop-number-preserved
loop-number-preserved c =
    record {
      chains = at_more c.args.events.now c.loop-number.number c.index-events-number.result _ c.loop-number.chains
          c.happens-in-loop-number.new.self (omega arith) c.index-events-number.is c.loop-number.invariant.chains c.in_ok-happens.ensures;
      before = ap length c.in_ok-push.ensures.items ∙ length_push c.happens.new.self.before.items c.in_ok-before.before
          ∙ ap (λ b. length b.items + 1) c.happens.ensures ∙ ap (λ n. n + 1) c.loop-number.invariant.before;
    }
