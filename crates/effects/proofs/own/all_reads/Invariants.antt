use Rattle.std.proofs.Common.{◌≡◌, ◌++◌, map, drop}
use Rattle.std.specs.Prelude.{flat_map}
use Rattle.sections.specs.Translation.{section}
use Rattle.types.specs.Indexed.{indexed}
use Rattle.types.specs.Translation.{number}
use Rattle.effects.proofs.own.all_reads.Given as goal

-- with those of the remaining expressions, all are found
abbrev pub invariant-loop-number : goal.invariant-loop-number
invariant-loop-number l =
    map section l.sections.items ++ flat_map indexed (map number (drop l.number-index l.numbers))
    ≡ flat_map indexed (map number l.numbers)
