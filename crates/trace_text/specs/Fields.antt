-- The fields in the line of an event after the name of its kind.
use Rattle.std.specs.Prelude.{ℕ, List, ◌++◌, Option, Some, None, codes}
use Rattle.std.specs.Fmt.{decimal}
use Rattle.types.specs.Names.{path_text}
use Rattle.events.specs.Events.{Event, Take, Steal, Pass, Resume}
use Rattle.trace_text.specs.Kinds.{task_of}

-- `,"worker":0}`
abbrev pub worker_field : (worker : ℕ) → List ℕ
worker_field worker = codes ",\"worker\":" ++ (decimal worker ++ codes "}")

-- `,"path":"0.1"}`
abbrev pub task_fields : (path : List ℕ) → List ℕ
task_fields path = codes ",\"path\":\"" ++ (path_text path ++ codes "\"}")

-- `,"path":"0.1","worker":0}`
abbrev pub worker_fields : (worker : ℕ) → (path : List ℕ) → List ℕ
worker_fields worker path =
    codes ",\"path\":\"" ++ (path_text path ++ (codes "\"" ++ worker_field worker))

-- `,"from":0,"path":"0.1","worker":1}`
abbrev pub steal_fields : (worker from : ℕ) → (path : List ℕ) → List ℕ
steal_fields worker from path =
    codes ",\"from\":" ++ (decimal from ++ worker_fields worker path)

-- `,"faults":0,"path":"0.1","worker":0}`
abbrev pub counted_fields : (worker : ℕ) → (path : List ℕ) → (faults : ℕ) → List ℕ
counted_fields worker path faults =
    codes ",\"faults\":" ++ (decimal faults ++ worker_fields worker path)

-- with the number of faults, or without
abbrev pub resume_fields : (worker : ℕ) → (path : List ℕ) → (faults : Option ℕ) → List ℕ
resume_fields worker path None = worker_fields worker path
resume_fields worker path (Some n) = counted_fields worker path n

-- `,"number":1,"owner":"0"}`
abbrev pub pass_fields : (n : ℕ) → (owner : List ℕ) → List ℕ
pass_fields n owner =
    codes ",\"number\":" ++ (decimal n ++ (codes ",\"owner\":\"" ++ (path_text owner ++ codes "\"}")))

abbrev pub fields : Event → List ℕ
fields (Take worker path) = worker_fields worker path
fields (Steal worker from path) = steal_fields worker from path
fields (Resume worker path faults) = resume_fields worker path faults
fields (Pass scope) = pass_fields scope.number scope.owner
fields e = task_fields (task_of e)
