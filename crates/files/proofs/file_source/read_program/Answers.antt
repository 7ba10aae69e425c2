use Rattle.std.proofs.Common.{◌<◌, length, rules}
use Rattle.files.proofs.Programs.{too_long}
use Rattle.files.proofs.file_source.read_program.Goals as goal

pub returns-then-len-gt-MOST_BYTES-clause-why : goal.returns-then-len-gt-MOST_BYTES-clause-why
returns-then-len-gt-MOST_BYTES-clause-why g c =
    let long : 1048576 < length c.in-Ok.bytes.items = search rules in
    too_long (g.F.FileSource.held c.args.files.now) c.args.name.now c.in-Ok.bytes.items long c.in-Ok.ensures.given
