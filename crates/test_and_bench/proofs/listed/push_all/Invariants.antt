use Rattle.std.proofs.Common.{◌≡◌, ◌++◌, drop, map}
use Rattle.std.specs.String.{string_bytes}
use Rattle.test_and_bench.specs.Listing.{listed, of_folder}
use Rattle.test_and_bench.proofs.listed.push_all.Given as goal

-- what was added, and what is left
abbrev pub invariant-loop-stem : goal.invariant-loop-stem
invariant-loop-stem l =
    let program = of_folder l.folder (map string_bytes l.names) in
    map listed l.programs.items ++ map program (map string_bytes (drop l.stem-index l.stems))
    ≡ map listed l.fn.programs.items ++ map program (map string_bytes l.stems)
