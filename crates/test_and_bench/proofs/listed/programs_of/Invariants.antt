use Rattle.std.proofs.Common.{map}
use Rattle.test_and_bench.specs.Listing.{listed}
use Rattle.test_and_bench.proofs.Named.{HaveListed}
use Rattle.test_and_bench.proofs.listed.programs_of.Given as goal

abbrev pub invariant-loop-name : goal.invariant-loop-name
invariant-loop-name g l =
    HaveListed (g.F.FolderSource.named l.fn.files) (g.F.FileSource.held l.fn.files) l.names
    (g.F.FolderSource.named l.files) (g.F.FileSource.held l.files) l.name-index (map listed l.programs.items)
