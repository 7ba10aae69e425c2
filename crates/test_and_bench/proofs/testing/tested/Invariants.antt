use Rattle.std.proofs.Common.{map}
use Rattle.command_line.specs.Requests.{settings}
use Rattle.test_and_bench.specs.Trials.{judged}
use Rattle.test_and_bench.proofs.Tested.{HaveTested}
use Rattle.test_and_bench.proofs.testing.tested.Given as goal

-- the programs so far are tested
abbrev pub invariant-loop-program : goal.invariant-loop-program
invariant-loop-program g l =
    HaveTested l.testing.writes (settings l.testing.settings) (g.F.FileSource.held l.fn.files) l.programs
    (g.F.FileSource.held l.files) l.program-index (map judged l.found.items)
