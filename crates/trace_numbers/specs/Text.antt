-- The text of the numbers of a trace, one per line.
use Rattle.std.specs.Prelude.{ℕ, zero, suc, ◌+◌, ◌*◌, ◌/◌, ◌%◌, List, [], ◌∷◌, ◌++◌, codes}
use Rattle.std.specs.Prelude.{if◌then◌else◌, map, nat_lt, ◌||◌}
use Rattle.std.specs.Fmt.{decimal}
use Rattle.types.specs.Names.{scope_text}
use Rattle.trace_numbers.specs.Faults.{Gathered}
use Rattle.trace_numbers.specs.Tables.{gathered}
use Rattle.trace_numbers.specs.declared.summary.TraceSummary.{TraceSummary}

-- `3.59`: the steps divided by the span, with two digits, rounded down; `-` if there is no span
abbrev pub parallelism : (steps span : ℕ) → List ℕ
parallelism steps zero = codes "-"
parallelism steps (suc n) =
    let hundredths = steps % suc n * 100 / suc n in
    decimal (steps / suc n) ++ (codes "." ++ (decimal (hundredths / 10) ++ decimal (hundredths % 10)))

abbrev pub line : (name number : List ℕ) → List ℕ
line name number = name ++ (codes ": " ++ (number ++ codes "\n"))

-- the number of steps, the span and the parallelism
abbrev pub work_lines : TraceSummary → List ℕ
work_lines s =
    line (codes "tasks") (decimal s.tasks)
    ++ (line (codes "steps") (decimal s.steps)
    ++ (line (codes "span") (decimal s.span)
    ++ line (codes "parallelism") (parallelism s.steps s.span)))

-- how tasks moved between workers, and how many were live
abbrev pub task_lines : TraceSummary → List ℕ
task_lines s =
    line (codes "steals") (decimal s.steals)
    ++ (line (codes "replenishments") (decimal s.replenishings)
    ++ (line (codes "deepest nest") (decimal s.deepest_nest)
    ++ line (codes "most live tasks") (decimal s.most_tasks)))

-- the steps of a worker, if it is one of the run's workers or did some steps
abbrev pub worker_line : (workers number steps : ℕ) → List ℕ
worker_line workers number steps =
    if nat_lt number workers || nat_lt 0 steps
    then line (codes "steps of worker " ++ decimal number) (decimal steps)
    else []

-- the lines of workers from this number on
abbrev pub worker_lines : (workers number : ℕ) → (by_worker : List ℕ) → List ℕ
worker_lines workers number [] = []
worker_lines workers number (steps ∷ more) =
    worker_line workers number steps ++ worker_lines workers (number + 1) more

-- the faults of a finish
abbrev pub faults_line : Gathered → List ℕ
faults_line g = line (codes "faults of " ++ scope_text g.owner g.number) (decimal g.faults)

abbrev pub faults_lines : List Gathered → List ℕ
faults_lines [] = []
faults_lines (g ∷ more) = faults_line g ++ faults_lines more

abbrev pub summary_text : (workers : ℕ) → TraceSummary → List ℕ
summary_text workers s =
    work_lines s
    ++ (task_lines s ++ (worker_lines workers 0 s.by_worker.items ++ faults_lines (map gathered s.faults.items)))
