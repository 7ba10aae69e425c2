use Rattle.std.proofs.lemmas.Option.{slice_get-get_or}
use Rattle.effects.proofs.ClosingLemmas.{rounded_none, rounded_more, rounded_all}
use Rattle.effects.proofs.closing.round.Goals as goal

pub loop-flow-init : goal.loop-flow-init
loop-flow-init c = rounded_none c.args.flows.now c.args.table.now.items

pub loop-flow-preserved : goal.loop-flow-preserved
loop-flow-preserved c =
    rounded_more c.args.flows.now c.args.table.now.items c.loop-flow.table.items c.bring.new.table.items c.loop-flow.grown
    c.in_ok-grown.field-0 c.loop-flow.flow-index _ c.loop-flow.invariant
    (slice_get-get_or c.args.flows.now c.loop-flow.flow-index _ c.loop-flow-test.true)
    c.in_ok-grown.ensures.number c.in_ok-grown.ensures.both c.in_ok-grown.ensures.grown c.in_ok-grown.ensures.new

pub returns : goal.returns
returns c =
    let inv = c.loop-flow.invariant in
    record {
      number = inv.number;
      more = inv.more;
      reached = inv.reached;
      same = inv.same;
      closed = rounded_all c.args.flows.now c.args.table.now.items c.loop-flow.table.items c.loop-flow.grown c.loop-flow.flow-index inv
          c.loop-flow-test.false;
      new = inv.new;
    }
