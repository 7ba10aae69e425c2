use Rattle.std.proofs.Common.{◌≡◌, ◌++◌, drop, map}
use Rattle.std.specs.List.{flat_map}
use Rattle.std.specs.String.{string_bytes}
use Rattle.test_and_bench.specs.Listing.{stem}
use Rattle.test_and_bench.proofs.stems.unordered.Given as goal

-- what was found, and what is left
abbrev pub invariant-loop-name : goal.invariant-loop-name
invariant-loop-name l =
    map string_bytes l.stems.items ++ flat_map stem (map string_bytes (drop l.name-index l.names))
    ≡ flat_map stem (map string_bytes l.names)
