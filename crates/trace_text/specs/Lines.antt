-- The lines of a trace: each is the compact text of one JSON object, with its keys in ascending order.
use Rattle.std.specs.Prelude.{ℕ, List, ◌++◌, Option, Some, None, codes}
use Rattle.std.specs.List.{flat_map}
use Rattle.types.specs.Names.{path_text}
use Rattle.events.specs.Events.{Event, Take, Steal, Pass, Resume}
use Rattle.serde_json.specs.Data.{Data, Members, object, member, no_members, string, number, unsigned}
use Rattle.serde_json.specs.Written.{compact_text}
use Rattle.trace_text.specs.Headers.{TraceHeader, format_number}
use Rattle.trace_text.specs.Kinds.{kind_name, kind_of, task_of}
use Rattle.trace_text.specs.declared.kind.EventKind.{EventKind}
use Rattle.trace_text.specs.declared.kind.EventKind.TheVariants.{Pass as IsPass, Resume as IsResume}
use Rattle.trace_text.specs.declared.kind.EventKind.TheVariants.{Steal as IsSteal}

-- a text or a number under a key, before the keys after it
abbrev pub text_under : (key text : List ℕ) → Members → Members
text_under key text more = member key (string text) more

abbrev pub number_under : (key : List ℕ) → ℕ → Members → Members
number_under key n more = member key (number (unsigned n)) more

-- `{"e":"step","path":"0.1"}`
abbrev pub task_object : EventKind → (path : List ℕ) → Data
task_object kind path =
    object (text_under (codes "e") (kind_name kind)
    (text_under (codes "path") (path_text path) no_members))

-- `{"e":"take","path":"0.1","worker":0}`
abbrev pub worker_object : EventKind → (worker : ℕ) → (path : List ℕ) → Data
worker_object kind worker path =
    object (text_under (codes "e") (kind_name kind)
    (text_under (codes "path") (path_text path)
    (number_under (codes "worker") worker no_members)))

-- `{"e":"steal","from":0,"path":"0.1","worker":1}`
abbrev pub steal_object : (worker from : ℕ) → (path : List ℕ) → Data
steal_object worker from path =
    object (text_under (codes "e") (kind_name IsSteal)
    (number_under (codes "from") from
    (text_under (codes "path") (path_text path)
    (number_under (codes "worker") worker no_members))))

-- `{"e":"resume","faults":0,"path":"0.1","worker":0}`
abbrev pub counted_object : (worker : ℕ) → (path : List ℕ) → (faults : ℕ) → Data
counted_object worker path faults =
    object (text_under (codes "e") (kind_name IsResume)
    (number_under (codes "faults") faults
    (text_under (codes "path") (path_text path)
    (number_under (codes "worker") worker no_members))))

-- a resume, with the number of faults or without
abbrev pub resume_object : (worker : ℕ) → (path : List ℕ) → (faults : Option ℕ) → Data
resume_object worker path None = worker_object IsResume worker path
resume_object worker path (Some n) = counted_object worker path n

-- `{"e":"pass","number":1,"owner":"0"}`
abbrev pub pass_object : (n : ℕ) → (owner : List ℕ) → Data
pass_object n owner =
    object (text_under (codes "e") (kind_name IsPass)
    (number_under (codes "number") n
    (text_under (codes "owner") (path_text owner) no_members)))

abbrev pub event_object : Event → Data
event_object (Take worker path) = worker_object (kind_of (Take worker path)) worker path
event_object (Steal worker from path) = steal_object worker from path
event_object (Resume worker path faults) = resume_object worker path faults
event_object (Pass scope) = pass_object scope.number scope.owner
event_object e = task_object (kind_of e) (task_of e)

-- `{"format":1,"nest":100,"steps":1000000,"w0":8,"workers":1}`
abbrev pub header_object : TraceHeader → Data
header_object h =
    object (number_under (codes "format") (format_number h.format)
    (number_under (codes "nest") h.nest
    (number_under (codes "steps") h.steps
    (number_under (codes "w0") h.w0
    (number_under (codes "workers") h.workers no_members)))))

-- an object's line, with its line feed
unfoldable pub line : Data → List ℕ
line d = compact_text d ++ codes "\n"

abbrev pub event_line : Event → List ℕ
event_line e = line (event_object e)

abbrev pub header_line : TraceHeader → List ℕ
header_line h = line (header_object h)

-- the header's line, and one for each event
abbrev pub trace_text : TraceHeader → List Event → List ℕ
trace_text h es = header_line h ++ flat_map event_line es
