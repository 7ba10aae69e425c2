use Rattle.std.proofs.Common.{◌∙◌, map, sym}
use Rattle.types.specs.Translation.{budget, input as lists_in}
use Rattle.types.specs.Typed.{code_of}
use Rattle.events.specs.Events.{event as event_of}
use Rattle.viewing.proofs.Viewing.{comes_same, refused_at}
use Rattle.viewing.proofs.traces.judge.Goals as goal

pub returns-in-Ok-clause-legal : goal.returns-in-Ok-clause-legal
returns-in-Ok-clause-legal c =
    let replayed = c.in-Ok.ensures.legal in
    record {
      world = replayed.world;
      legal = sym (comes_same _ _ c.in-Some.ensures.1 _ _ c.deref.ensures.value) ∙ replayed.legal;
    }

pub returns-in-Err-IllegalAt-clause-why : goal.returns-in-Err-IllegalAt-clause-why
returns-in-Err-IllegalAt-clause-why c =
    let header = c.args.trace.now.header in
    let n = c.in-Err-IllegalAt.number in
    let e = c.in-Err-IllegalAt in
    (c.replays_refuse_the_first.ensures (code_of c.args.accepted.now.typed) header.w0 (lists_in c.args.input.now)
    (budget header.budget) (map event_of c.args.trace.now.events.items) n).0
    (sym (comes_same _ _ c.in-Some.ensures.1 _ _ c.deref.ensures.value)
    ∙ refused_at c.in-Some.job c.deref.result.now e.field-0 n e.field-0-is e.ensures.refused)
