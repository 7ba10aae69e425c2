use Rattle.std.proofs.Common.{◌∙◌, ap, arith}
use Rattle.std.proofs.lemmas.List.{get_or_read}
use Rattle.trace_numbers.specs.Tables.{none_back}
use Rattle.trace_numbers.specs.declared.chains.ScopeChain.{ScopeChain}
use Rattle.trace_numbers.proofs.Spans.{at_last, at_more, root_there}
use Rattle.trace_numbers.proofs.chains.span.Goals as goal

pub loop-event-preserved : goal.loop-event-preserved
loop-event-preserved c =
    at_more c.args.events.now c.loop-event.event-index c.event-item.result _ c.loop-event.chains c.happens.new.self (omega arith)
    c.event-item.is c.loop-event.invariant c.in_ok-happens.ensures

pub index-requires : goal.index-requires
index-requires c = omega (arith, root_there c.args.events.now c.loop-event.event-index c.loop-event.chains c.loop-event.invariant)

pub returns : goal.returns
returns c =
    let at = c.loop-event.invariant in
    let there = root_there c.args.events.now c.loop-event.event-index c.loop-event.chains at in
    ap (λ (s : ScopeChain). s.came_back) (get_or_read c.loop-event.chains.scopes.items 0 c.index.result.now there c.index.ensures none_back)
    ∙ at_last c.args.events.now c.loop-event.event-index c.loop-event.chains c.loop-event-test.false at
