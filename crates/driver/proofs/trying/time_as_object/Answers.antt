use Rattle.std.proofs.Common.{◌∙◌, string_bytes}
use Rattle.command_line.specs.Requests.{settings}
use Rattle.command_line.specs.declared.request.Command.TheVariants.{Run}
use Rattle.commands.specs.Answers.{Explains}
use Rattle.json_answers.specs.Failing.{TellsFailure}
use Rattle.json_answers.proofs.Written.{object_refused}
use Rattle.test_and_bench.specs.TimesObject.{ObjectOfTimes}
use Rattle.test_and_bench.proofs.Objects.{object_answered}
use Rattle.driver.proofs.trying.time_as_object.Goals as goal

pub returns-in-Ok : goal.returns-in-Ok
returns-in-Ok g c =
    let request = c.args.loaded.request in let s = settings request.settings in
    let held = g.F.FileSource.held c.args.files.now in let text = c.args.loaded.text.now in
    record {
      done = object_answered (ObjectOfTimes s held text) (Explains Run s held text) (TellsFailure request.file.now text) _ _
          c.answer_object.result (string_bytes c.in-Ok.told.line) c.in-Ok.told.status tt c.in-Ok.ensures.object
          c.answer_object.ensures.text c.answer_object.ensures.status c.answer_object.ensures.failure;
      keeps = c.in-Ok.ensures.keeps;
    }

pub returns-in-Err : goal.returns-in-Err
returns-in-Err g c =
    let request = c.args.loaded.request in let s = settings request.settings in
    let held = g.F.FileSource.held c.args.files.now in let text = c.args.loaded.text.now in
    let fails = c.in-Err.ensures.why in
    record {
      done = object_refused (ObjectOfTimes s held text) (Explains Run s held text) (TellsFailure request.file.now text) _ _
          c.in-Err.failure fails.why fails.early c.tell_explained-explanation.ensures.told;
      keeps = c.tell_explained-explanation.ensures.keeps ∙ c.in-Err.ensures.keeps;
    }
