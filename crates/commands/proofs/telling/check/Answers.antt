use Rattle.std.proofs.Common.{◌∙◌}
use Rattle.std.proofs.lemmas.Result.{IfOk-at_ok}
use Rattle.commands.specs.Answers.{command_about}
use Rattle.commands.proofs.Answering.{accepted_answers, check_answers, checks_look, passes_not_accepted, shown}
use Rattle.commands.proofs.telling.check.Goals as goal

pub returns-in_err-accepted : goal.returns-in_err-accepted
returns-in_err-accepted g c s held =
    passes_not_accepted (command_about c.args.about) (checks_look c.args.about) s held c.args.text.now _ _ _
    c.from_residual.ensures.1 c.in_err-accepted.ensures.why

pub returns : goal.returns
returns g c s held =
    let about = c.args.about in let text = c.args.text.now in let told = c.as_str.result.now in
    shown (command_about about) s held text _ _ c.answer.result told 0
    (check_answers about s held text told 0
    (accepted_answers text told c.in_ok-accepted.accepted.typed c.typed.result.now c.typed.ensures.field
    c.in_ok-accepted.ensures.spelled c.typed.ensures.no_clash about
    (c.as_str.ensures.value ∙ IfOk-at_ok _ c.in_ok-told.ensures.value c.told_of.ensures)))
    c.answer.ensures.text c.answer.ensures.status c.answer.ensures.failure
