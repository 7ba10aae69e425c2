use Rattle.std.proofs.Common.{arith, rules, sym, ◌∙◌}
use Rattle.std.proofs.lemmas.Grind.{common_steps}
use Rattle.std.specs.Prelude.{option_map}
use Rattle.shared_lemmas.proofs.Results.{if_ok_then}
use Rattle.events.specs.Events.{event}
use Rattle.trace_text.proofs.Arms.{told_resume, told_steal, told_take}
use Rattle.trace_text.proofs.read.event_behind.Goals as goal

pub returns-in_ok-by-in-Take-clause-told : goal.returns-in_ok-by-in-Take-clause-told
returns-in_ok-by-in-Take-clause-told c = λ e h kind same.
    told_take c.args.format c.args.rest.now (option_map event c.map.result)
    (λ w p fits is.
    let by = c.in_ok-by-in-Take.ensures.told w p fits is in
    first_of (search rules, grind (arith, common_steps)))
    e h (sym c.in-Take.is ∙ kind) same

pub returns-in-Resume-clause-told : goal.returns-in-Resume-clause-told
returns-in-Resume-clause-told c =
    if_ok_then c.resume_in.result c.resume_in.ensures.told (λ o found e h kind same.
    told_resume c.args.format c.args.rest.now (option_map event o) found e h (sym c.in-Resume.is ∙ kind) same)

pub returns-in-Steal-clause-spelled : goal.returns-in-Steal-clause-spelled
returns-in-Steal-clause-spelled c = c.steal_in.ensures.spelled c.args.format

pub returns-in-Pass-clause-spelled : goal.returns-in-Pass-clause-spelled
returns-in-Pass-clause-spelled c = c.pass_in.ensures.spelled c.args.format

pub returns-in-Steal-clause-told : goal.returns-in-Steal-clause-told
returns-in-Steal-clause-told c =
    if_ok_then c.steal_in.result c.steal_in.ensures.told (λ o found e h kind same.
    told_steal c.args.format c.args.rest.now (option_map event o) found e h (sym c.in-Steal.is ∙ kind) same)
