-- The kinds of events, by letters.
use Rattle.std.specs.Prelude.{ℕ, List, codes}
use Rattle.std.specs.List.{flat_map}
use Rattle.events.specs.Events.{Event, Take, Steal, Steps, Replenish, Spawns, Opens, Parks}
use Rattle.events.specs.Events.{Ends, Pass, Resume}

-- the letter of an event
abbrev pub kind_letter : Event → List ℕ
kind_letter (Take worker path) = codes "t"
kind_letter (Steal worker from path) = codes "l"
kind_letter (Steps path) = codes "s"
kind_letter (Replenish path) = codes "r"
kind_letter (Spawns path) = codes "w"
kind_letter (Opens path) = codes "o"
kind_letter (Parks path) = codes "p"
kind_letter (Ends path) = codes "e"
kind_letter (Pass scope) = codes "d"
kind_letter (Resume worker path faults) = codes "b"

-- each event once, in order
abbrev pub kinds_text : List Event → List ℕ
kinds_text = flat_map kind_letter
