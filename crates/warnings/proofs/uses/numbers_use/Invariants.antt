use Rattle.std.proofs.Common.{◌≡◌, drop, map}
use Rattle.types.specs.Translation.{number}
use Rattle.warnings.specs.Uses.{numbers_use}
use Rattle.warnings.proofs.uses.numbers_use.Given as goal

-- if one of the remaining ones is a use, one of all is
abbrev pub invariant-loop-number : goal.invariant-loop-number
invariant-loop-number l =
    numbers_use l.thing (map number (drop l.number-index l.numbers)) ≡ numbers_use l.thing (map number l.numbers)
