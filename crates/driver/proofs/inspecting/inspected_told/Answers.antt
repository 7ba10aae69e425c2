use Rattle.std.proofs.Common.{◌∙◌, string_bytes}
use Rattle.command_line.specs.Requests.{settings}
use Rattle.failures.specs.declared.failure.Failure.TheVariants.{NoMemory}
use Rattle.json_answers.specs.Failing.{TellsFailure}
use Rattle.json_answers.specs.Inspected.{ObjectOfInspect}
use Rattle.json_answers.proofs.Written.{object_refused}
use Rattle.test_and_bench.proofs.Objects.{object_answered}
use Rattle.driver.specs.Objects.{IsNotInspected}
use Rattle.driver.proofs.inspecting.inspected_told.Goals as goal

pub returns-in-Ok : goal.returns-in-Ok
returns-in-Ok g c =
    let request = c.args.loaded.request in let s = settings request.settings in
    let held = g.F.FileSource.held c.args.files.now in let text = c.args.loaded.text.now in
    let told = c.in-Ok.told in
    record {
      done = object_answered (ObjectOfInspect request.file.now s held text) IsNotInspected (TellsFailure request.file.now text) _ _
          c.answer_object.result (string_bytes told.line) told.status tt c.in-Ok.ensures.object
          c.answer_object.ensures.text c.answer_object.ensures.status c.answer_object.ensures.failure;
      keeps = c.in-Ok.ensures.keeps;
    }

pub returns-in-Err : goal.returns-in-Err
returns-in-Err g c =
    let request = c.args.loaded.request in let s = settings request.settings in
    let held = g.F.FileSource.held c.args.files.now in let text = c.args.loaded.text.now in
    record {
      done = object_refused (ObjectOfInspect request.file.now s held text) IsNotInspected (TellsFailure request.file.now text) _ _
          NoMemory tt (λ is. cc is) c.tell_explained-explanation.ensures.told;
      keeps = c.tell_explained-explanation.ensures.keeps ∙ c.object_of.ensures.keeps;
    }
