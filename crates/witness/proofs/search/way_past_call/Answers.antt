use Rattle.std.proofs.Common.{refl, rules, ◌<◌, length}
use Rattle.witness.proofs.Knowns.{below_none, below_more, below_all}
use Rattle.witness.proofs.search.way_past_call.Goals as goal

pub loop-number-init : goal.loop-number-init
loop-number-init c =
    below_none c.args.known.now c.args.sought.pending c.args.procedure.number c.args.sections.now c.args.sought.access.section.number c.args.step

pub loop-number-preserved : goal.loop-number-preserved
loop-number-preserved c =
    let within : c.loop-number.number < length c.args.sections.now = search rules in
    below_more c.args.known.now c.args.sought.pending c.args.procedure.number c.args.sections.now c.args.sought.access.section.number c.args.step
    c.loop-number.number _ _ _ _ _ within (search rules) refl c.shorter-best.ensures c.in_ok-way.ensures c.loop-number.invariant

pub returns : goal.returns
returns c =
    below_all c.args.known.now c.args.sought.pending c.args.procedure.number c.args.sections.now c.args.sought.access.section.number c.args.step
    c.loop-number.number _ (search rules) c.loop-number.invariant
