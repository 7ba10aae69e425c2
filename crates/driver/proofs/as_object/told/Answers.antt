use Rattle.std.proofs.Common.{ℕ, Err, subst, sym}
use Rattle.command_line.specs.Requests.{settings}
use Rattle.failures.specs.declared.failure.Failure.{Failure}
use Rattle.json_answers.specs.declared.object_line.ObjectLine.{ObjectLine}
use Rattle.statement_steps.proofs.Watching.{behind_end, still_failed}
use Rattle.command_words.specs.Orders.{command_of}
use Rattle.files.specs.Held.{Held}
use Rattle.driver.specs.Acts.{Leaves}
use Rattle.driver.specs.Watching.{is_watched}
use Rattle.driver.proofs.Objects.{refusal_told}
use Rattle.driver.proofs.as_object.told.Goals as goal

pub returns-in-Err-clause-done : goal.returns-in-Err-clause-done
returns-in-Err-clause-done g c =
    let request = c.args.loaded.request in
    let s = settings request.settings in
    let text = c.args.loaded.text.now in
    refusal_told c.args.subject request.file.now s text _ _ _ _ c.in-Err.failure c.in-Err.ensures.why c.tell_explained-explanation.ensures.told
    (subst (λ (h : Held). Leaves (command_of c.args.subject) s text (g.F.FileSource.held c.args.files.now) h (Err c.in-Err.failure))
    (sym c.tell_explained-explanation.ensures.keeps) c.in-Err.ensures.leaves)

pub returns-in-Ok-clause-watched : goal.returns-in-Ok-clause-watched
returns-in-Ok-clause-watched g c =
    behind_end g.W.Watch.Told Failure (is_watched (command_of c.args.subject) (settings c.args.loaded.request.settings)) c.in-Ok.told
    c.answer_object.result _ _ c.in-Ok.ensures.watched

pub returns-in-Err-clause-watched : goal.returns-in-Err-clause-watched
returns-in-Err-clause-watched g c =
    still_failed g.W.Watch.Told ObjectLine ℕ (is_watched (command_of c.args.subject) (settings c.args.loaded.request.settings))
    c.in-Err.failure c.in-Err.failure _ _ c.in-Err.ensures.watched
