use Rattle.std.proofs.Common.{◌≡◌, drop, map}
use Rattle.std.specs.String.{string_bytes}
use Rattle.test_and_bench.specs.Listing.{has_name}
use Rattle.test_and_bench.proofs.stems.has_name.Given as goal

-- whether it is among the rest is whether it is one of all
abbrev pub invariant-loop-one : goal.invariant-loop-one
invariant-loop-one l =
    has_name (map string_bytes (drop l.one-index l.names)) l.name ≡ has_name (map string_bytes l.names) l.name
