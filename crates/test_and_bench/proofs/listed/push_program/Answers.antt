use Rattle.std.proofs.Common.{[], ◌∷◌, map, refl, string_bytes}
use Rattle.commands.proofs.Answering.{err_passed}
use Rattle.test_and_bench.specs.Listing.{TellsUnlistedProgram, listed_in}
use Rattle.test_and_bench.proofs.listed.push_program.Goals as goal

pub returns-in_err-names-clause-why : goal.returns-in_err-names-clause-why
returns-in_err-names-clause-why g c =
    let named = g.F.FolderSource.named c.args.files.now in let base = c.args.base.now in
    err_passed c.from_residual.result _ (TellsUnlistedProgram named base) c.from_residual.ensures.1
    (record {
      folder = c.folder_and_stem.result.0.now;
      stem = c.folder_and_stem.result.1.now;
      is_in = c.folder_and_stem.ensures;
      why = c.in_err-names.ensures.why;
    })

pub returns-in-Ok-clause-added : goal.returns-in-Ok-clause-added
returns-in-Ok-clause-added g c =
    let base = c.args.base.now in let names = map string_bytes c.in_ok-names.names.items in
    let stem = c.folder_and_stem.result.1.now in
    record {
      ps = listed_in names stem base base ∷ [];
      are = record {
        folder = c.folder_and_stem.result.0.now;
        stem = stem;
        is_in = c.folder_and_stem.ensures;
        names = names;
        given = c.in_ok-names.ensures.given;
        are = refl;
      };
      added = rw c.deref.ensures.value at c.in-Ok.ensures;
    }

pub returns-clause-why : goal.returns-clause-why
returns-clause-why g c = record {
  folder = c.folder_and_stem.result.0.now;
  stem = c.folder_and_stem.result.1.now;
  is_in = c.folder_and_stem.ensures;
  why = tt;
}
