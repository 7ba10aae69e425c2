use Rattle.std.proofs.Common.{map, string_bytes}
use Rattle.command_line.specs.Requests.{settings}
use Rattle.driver.proofs.Tried.{object_of_tests, object_untested}
use Rattle.driver.proofs.trying.tell_tests.Goals as goal

pub returns-in-Ok : goal.returns-in-Ok
returns-in-Ok g c =
    let tests = c.args.tests in
    object_of_tests (g.F.FolderSource.named c.args.files.now) (g.F.FileSource.held c.args.files.now) _
    (map string_bytes tests.names.now) tests.writes (settings tests.settings) _ _ c.answer_object.result
    (string_bytes c.in-Ok.told.line) c.in-Ok.told.status c.in-Ok.ensures.object c.answer_object.ensures.text
    c.answer_object.ensures.status c.answer_object.ensures.failure c.in-Ok.ensures.keeps

pub returns-in-Err : goal.returns-in-Err
returns-in-Err g c =
    let tests = c.args.tests in
    object_untested (g.F.FolderSource.named c.args.files.now) (g.F.FileSource.held c.args.files.now) _
    (map string_bytes tests.names.now) tests.writes (settings tests.settings) _ _ _ c.in-Err.failure c.name_in.result.now
    c.in-Err.ensures.why c.tell_unread_file.ensures.keeps c.name_in.ensures c.tell_unread_file.ensures.told
