-- The kinds of events, and their names.
use Rattle.std.specs.Prelude.{ℕ, List, codes}
use Rattle.events.specs.Events.{Event, Take, Steal, Steps, Replenish, Spawns, Opens, Parks}
use Rattle.events.specs.Events.{Ends, Pass, Resume}
use Rattle.trace_text.specs.declared.kind.EventKind.{EventKind}
use Rattle.trace_text.specs.declared.kind.EventKind.TheVariants.{Take as IsTake, Steal as IsSteal, Step as IsStep}
use Rattle.trace_text.specs.declared.kind.EventKind.TheVariants.{Replenish as IsReplenish, Spawn as IsSpawn}
use Rattle.trace_text.specs.declared.kind.EventKind.TheVariants.{Open as IsOpen, Park as IsPark, End as IsEnd}
use Rattle.trace_text.specs.declared.kind.EventKind.TheVariants.{Pass as IsPass, Resume as IsResume}

-- what happens, and to which task; for `pass`, to the owner of the scope
abbrev pub deed_of : Event → EventKind × List ℕ
deed_of (Take worker path) = (IsTake, path)
deed_of (Steal worker from path) = (IsSteal, path)
deed_of (Steps path) = (IsStep, path)
deed_of (Replenish path) = (IsReplenish, path)
deed_of (Spawns path) = (IsSpawn, path)
deed_of (Opens path) = (IsOpen, path)
deed_of (Parks path) = (IsPark, path)
deed_of (Ends path) = (IsEnd, path)
deed_of (Pass scope) = (IsPass, scope.owner)
deed_of (Resume worker path faults) = (IsResume, path)

abbrev pub kind_of : Event → EventKind
kind_of e = (deed_of e).0

abbrev pub task_of : Event → List ℕ
task_of e = (deed_of e).1

abbrev pub kind_name : EventKind → List ℕ
kind_name IsTake = codes "take"
kind_name IsSteal = codes "steal"
kind_name IsStep = codes "step"
kind_name IsReplenish = codes "replenish"
kind_name IsSpawn = codes "spawn"
kind_name IsOpen = codes "open"
kind_name IsPark = codes "park"
kind_name IsEnd = codes "end"
kind_name IsPass = codes "pass"
kind_name IsResume = codes "resume"
