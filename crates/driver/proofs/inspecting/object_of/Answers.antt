use Rattle.command_line.specs.Requests.{settings}
use Rattle.command_line.specs.declared.request.Command.TheVariants.{Check, Labels, Serial}
use Rattle.driver.proofs.Objects.{describes, inspect_object}
use Rattle.driver.proofs.inspecting.object_of.Goals as goal

pub returns-clause-object : goal.returns-clause-object
returns-clause-object g c =
    let request = c.args.loaded.request in let file = request.file.now in let s = settings request.settings in
    let held = g.F.FileSource.held c.args.files.now in let text = c.args.loaded.text.now in
    let check = c.in_ok-check in let list = c.in_ok-list in let serial = c.in_ok-serial in
    let checked = c.check_told in let listed = c.list_told in let ran = c.serial_told-ran in
    inspect_object file s held text check.check list.list serial.serial
    (describes Check file s held text checked.result check.check (checked.ensures.object s held) (checked.ensures.why s held)
    check.ensures.told)
    (describes Labels file s held text listed.result list.list (listed.ensures.object s held) (listed.ensures.why s held)
    list.ensures.told)
    (describes Serial file s held text ran.result serial.serial ran.ensures.object ran.ensures.why serial.ensures.told)
    c.inspected.result c.inspected.ensures.line c.inspected.ensures.status
