-- What is reported for a program that isn't accepted.
use Rattle.std.specs.Prelude.{◌≡◌}
use Rattle.types.specs.declared.typed.Typed.{Typed}
use Rattle.types.specs.Typed.{code_of}
use Rattle.race_checker.specs.declared.check.Refused.{Refused}
use Rattle.race_checker.specs.declared.check.Refused.TheVariants.{Race, OutOfMemory}
use Rattle.race_checker.specs.Races.{IsLeastRace}
use Rattle.race_checker.specs.Translation.{race as race_of}

-- a reported race is the least race of the program, which is returned with it
abbrev pub IsRefusalOf : Typed → Refused → Type 0
IsRefusalOf typed (Race race back) = (back ≡ typed) × IsLeastRace (code_of typed) (race_of race)
IsRefusalOf typed OutOfMemory = Unit {0}
