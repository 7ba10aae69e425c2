use Rattle.std.proofs.Common.{◌∙◌, string_bytes}
use Rattle.command_line.specs.Requests.{settings}
use Rattle.json_answers.specs.Explored.{TellsUnexplored, not_written}
use Rattle.json_answers.specs.Failing.{TellsFailure}
use Rattle.json_answers.proofs.Written.{object_refused}
use Rattle.test_and_bench.proofs.Objects.{object_answered}
use Rattle.driver.specs.Objects.{ObjectOfSchedules}
use Rattle.driver.proofs.as_object.schedules_told.Goals as goal

pub returns-in-Ok : goal.returns-in-Ok
returns-in-Ok g c =
    let request = c.args.loaded.request in let s = settings request.settings in
    let held = g.F.FileSource.held c.args.files.now in let text = c.args.loaded.text.now in
    let told = c.in-Ok.told in
    record {
      done = object_answered (ObjectOfSchedules c.args.schedules s held text) (TellsUnexplored s held text)
          (TellsFailure request.file.now text) _ _ c.answer_object.result (string_bytes told.line) told.status not_written
          c.in-Ok.ensures.object c.answer_object.ensures.text c.answer_object.ensures.status c.answer_object.ensures.failure;
      keeps = c.in-Ok.ensures.keeps;
    }

pub returns-in-Err : goal.returns-in-Err
returns-in-Err g c =
    let request = c.args.loaded.request in let s = settings request.settings in
    let held = g.F.FileSource.held c.args.files.now in let text = c.args.loaded.text.now in
    let fails = c.in-Err.ensures.why in
    record {
      done = object_refused (ObjectOfSchedules c.args.schedules s held text) (TellsUnexplored s held text)
          (TellsFailure request.file.now text) _ _ c.in-Err.failure fails.why fails.early c.tell_explained-explanation.ensures.told;
      keeps = c.tell_explained-explanation.ensures.keeps ∙ c.in-Err.ensures.keeps;
    }
