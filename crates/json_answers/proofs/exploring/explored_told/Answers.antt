use Rattle.std.proofs.Common.{ap, ◌∙◌, map, subst, sym}
use Rattle.types.specs.Translation.{input as lists_of, outcome as outcome_of}
use Rattle.types.specs.Typed.{code_of}
use Rattle.step_trees.specs.Standing.{MayStep, candidate_of, standing_of}
use Rattle.command_line.specs.Requests.{settings}
use Rattle.files.specs.Held.{Held}
use Rattle.commands.proofs.Answering.{declared_of}
use Rattle.files.specs.Choosing.{TellsNoChoices}
use Rattle.json_answers.proofs.Explored.{by_choices, stands_by, chosen_fails, fails_passed, given_fails, memory_fails, memory_only, missing_fails, object_ended, object_open}
use Rattle.json_answers.proofs.exploring.explored_told.Goals as goal

pub returns-in_err-given-clause-why : goal.returns-in_err-given-clause-why
returns-in_err-given-clause-why g c =
    let s = settings c.args.question.settings in let held = g.F.FileSource.held c.args.files.now in
    let text = c.args.question.text.now in
    fails_passed s held text c.from_residual.result _ c.from_residual.ensures.1
    (given_fails s held text _ c.in_err-given.ensures.why)

pub returns-in_err-choices-clause-why : goal.returns-in_err-choices-clause-why
returns-in_err-choices-clause-why g c =
    let s = settings c.args.question.settings in let held = g.F.FileSource.held c.args.files.now in
    let text = c.args.question.text.now in let given = c.in_ok-given.given in
    fails_passed s held text c.from_residual-in_err-choices.result _ c.from_residual-in_err-choices.ensures.1
    (chosen_fails s held text (code_of given.typed) (lists_of given.input) c.in_ok-given.ensures.given _
    (subst (λ (h : Held). TellsNoChoices s.choices h c.in_err-choices.field-0.0) c.in_ok-given.ensures.keeps c.in_err-choices.ensures.why))

pub returns-in_default-clause-why : goal.returns-in_default-clause-why
returns-in_default-clause-why g c =
    memory_fails (settings c.args.question.settings) (g.F.FileSource.held c.args.files.now) c.args.question.text.now

pub returns-in-Ended-clause-object : goal.returns-in-Ended-clause-object
returns-in-Ended-clause-object g c =
    let s = settings c.args.question.settings in let held = g.F.FileSource.held c.args.files.now in
    let text = c.args.question.text.now in let given = c.in_ok-given.given in
    let run = by_choices s held text given c.in_ok-given.ensures.given _ c.in_ok-given.ensures.keeps c.in_ok-choices.choices
    c.in_ok-choices.ensures.chosen in
    object_ended s held text run (outcome_of c.in-Ended.outcome) _
    (declared_of _ _ given.typed c.deref-in-Ended.ensures.value c.code.ensures.field)
    (sym (ap standing_of c.in-Ended.is) ∙ stands_by given.typed given.input _ _ c.deref.ensures.value _ c.in-Ok.ensures)
    c.outcome_told.result c.outcome_told.ensures.object

pub returns-in-Ended-clause-why : goal.returns-in-Ended-clause-why
returns-in-Ended-clause-why g c =
    memory_only (settings c.args.question.settings) (g.F.FileSource.held c.args.files.now) c.args.question.text.now
    c.outcome_told.result c.outcome_told.ensures.why

pub returns-in-Open-clause-object : goal.returns-in-Open-clause-object
returns-in-Open-clause-object g c =
    let s = settings c.args.question.settings in let held = g.F.FileSource.held c.args.files.now in
    let text = c.args.question.text.now in let given = c.in_ok-given.given in
    let run = by_choices s held text given c.in_ok-given.ensures.given _ c.in_ok-given.ensures.keeps c.in_ok-choices.choices
    c.in_ok-choices.ensures.chosen in
    object_open s held text run (map candidate_of c.deref-in-Open.result.now)
    (ap (λ cs. MayStep (map candidate_of cs)) c.deref-in-Open.ensures.value ∙ sym (ap standing_of c.in-Open.is)
    ∙ stands_by given.typed given.input _ _ c.deref.ensures.value _ c.in-Ok.ensures)
    c.open_told.result c.open_told.ensures.object

pub returns-in-Open-clause-why : goal.returns-in-Open-clause-why
returns-in-Open-clause-why g c =
    memory_only (settings c.args.question.settings) (g.F.FileSource.held c.args.files.now) c.args.question.text.now
    c.open_told.result c.open_told.ensures.why

pub returns-clause-why : goal.returns-clause-why
returns-clause-why g c =
    let s = settings c.args.question.settings in let held = g.F.FileSource.held c.args.files.now in
    let text = c.args.question.text.now in let given = c.in_ok-given.given in
    let run = by_choices s held text given c.in_ok-given.ensures.given _ c.in_ok-given.ensures.keeps c.in_ok-choices.choices
    c.in_ok-choices.ensures.chosen in
    missing_fails s held text run c.in-NoSuchChoice.choice
    (sym (ap standing_of c.in-NoSuchChoice.is) ∙ stands_by given.typed given.input _ _ c.deref.ensures.value _ c.in-Ok.ensures)
