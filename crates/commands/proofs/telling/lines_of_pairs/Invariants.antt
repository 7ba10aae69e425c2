use Rattle.std.proofs.Common.{◌≡◌, length, take}
use Rattle.std.specs.List.{flat_map}
use Rattle.std.specs.String.{string_bytes}
use Rattle.parallel_relation.specs.Pairs.{pairs_left}
use Rattle.commands.specs.Statements.{named_pair}
use Rattle.commands.proofs.telling.lines_of_pairs.Given as goal

-- the lines of the first pairs are there
abbrev pub invariant-loop-one : goal.invariant-loop-one
invariant-loop-one l =
    string_bytes l.told ≡ flat_map (named_pair l.statements) (take (length l.yielded) (pairs_left l.fn.pairs))
