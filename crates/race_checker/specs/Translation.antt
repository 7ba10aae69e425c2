-- The Rust types as plain values.
use Rattle.std.specs.Prelude.{Option, option_map}
use Rattle.effects.specs.Translation.{access}
use Rattle.race_checker.specs.Races.{Race}
use Rattle.race_checker.specs.declared.race.Race.{Race as rRace}

-- a race
abbrev pub race : rRace → Race
race r = record {
  procedure = r.procedure.number;
  first = access r.first;
  second = access r.second;
}

-- a race that was found, or none
abbrev pub found : Option rRace → Option Race
found = option_map race
