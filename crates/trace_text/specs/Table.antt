-- The table of a trace: a line for each event.
use Rattle.std.specs.Prelude.{ℕ, ◌+◌, ◌-◌, List, [], ◌∷◌, ◌++◌, Option, Some, None, codes, length, replicate}
use Rattle.std.specs.Fmt.{decimal}
use Rattle.types.specs.Names.{path_text, scope_text}
use Rattle.events.specs.Events.{Event, Take, Steal, Pass, Resume}
use Rattle.trace_text.specs.Kinds.{kind_name, kind_of, task_of}

-- a text aligned to the right or to the left in a column of this width
abbrev pub right_in : ℕ → List ℕ → List ℕ
right_in width text = replicate (width - length text) 32 ++ text

abbrev pub left_in : ℕ → List ℕ → List ℕ
left_in width text = text ++ replicate (width - length text) 32

-- the worker of an event, if it names one
abbrev pub worker_of : Event → Option ℕ
worker_of (Take worker path) = Some worker
worker_of (Steal worker from path) = Some worker
worker_of (Resume worker path faults) = Some worker
worker_of _ = None

-- the worker that it is stolen from
abbrev pub from_of : Event → Option ℕ
from_of (Steal worker from path) = Some from
from_of _ = None

-- the task, or the scope
abbrev pub whose : Event → List ℕ
whose (Pass scope) = scope_text scope.owner scope.number
whose e = path_text (task_of e)

-- a worker, aligned to the right in two columns, or spaces; and a space
abbrev pub column : Option ℕ → List ℕ
column None = codes "   "
column (Some worker) = right_in 2 (decimal worker) ++ codes " "

-- the workers and the task or scope of an event
abbrev pub deed : Event → List ℕ
deed e = column (worker_of e) ++ (column (from_of e) ++ (whose e ++ codes "\n"))

-- the number right-aligned in eight columns, the kind left-aligned in nine, workers, and the task or scope
abbrev pub table_line : ℕ → Event → List ℕ
table_line n e =
    right_in 8 (decimal n)
    ++ (codes " " ++ (left_in 9 (kind_name (kind_of e)) ++ (codes " " ++ deed e)))

-- the lines of events, numbered from this number
abbrev pub table_from : ℕ → List Event → List ℕ
table_from n [] = []
table_from n (e ∷ es) = table_line n e ++ table_from (n + 1) es

abbrev pub table_text : List Event → List ℕ
table_text = table_from 0
