use Rattle.std.proofs.Common.{rules}
use Rattle.witness.proofs.Entries.{added_none, added_more, added_all}
use Rattle.witness.proofs.settling.add_entries.Goals as goal

pub loop-number-init : goal.loop-number-init
loop-number-init c = added_none c.args.procedure.number c.args.entries.now.items

pub loop-number-preserved : goal.loop-number-preserved
loop-number-preserved c =
    added_more c.args.procedure.number c.loop-number.number c.args.entries.now.items c.loop-number.entries.items _ _ c.loop-number.invariant
    c.in_ok-push.ensures.items c.in_ok-push-2.ensures.items

pub returns : goal.returns
returns c =
    added_all c.args.procedure.number c.loop-number.number c.args.parameters c.args.entries.now.items c.loop-number.entries.items
    (search rules) c.loop-number.invariant
