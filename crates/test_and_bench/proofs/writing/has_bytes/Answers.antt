use Rattle.std.proofs.Common.{Err, subst}
use Rattle.files.specs.Held.{IsGiven}
use Rattle.files.specs.declared.file_source.FileError.{FileError}
use Rattle.test_and_bench.proofs.Written.{has_so, unread_differs}
use Rattle.test_and_bench.proofs.writing.has_bytes.Goals as goal

pub returns-in-Ok-clause-has : goal.returns-in-Ok-clause-has
returns-in-Ok-clause-has g c =
    has_so (g.F.FileSource.held c.args.files.now c.args.name.now) c.as_slice.result.now c.args.told.now c.eq.result c.eq.ensures
    (rw c.as_slice.ensures.value c.in-Ok.ensures.given)

pub returns-in-Err-Failed-clause-has : goal.returns-in-Err-Failed-clause-has
returns-in-Err-Failed-clause-has g c =
    let known = g.F.FileSource.held c.args.files.now c.args.name.now in
    unread_differs known c.args.told.now
    (subst (λ (e : FileError). IsGiven known (Err e)) c.in-Err-Failed.field-0-is c.in-Err-Failed.ensures.given)
