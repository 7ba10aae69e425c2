-- The number of faults that results have.
use Rattle.std.specs.Prelude.{ℕ, ◌+◌, List, [], ◌∷◌, length}
use Rattle.task_run.specs.Results.{Listed, TaskResult}

-- those of a task between its children
abbrev pub before_children : List Listed → ℕ
before_children [] = 0
before_children (c ∷ cs) = length c.faults + before_children cs

-- those in a result
abbrev pub faults_in : TaskResult → ℕ
faults_in r = length r.faults + before_children r.children

-- those in several results
abbrev pub faults_of : List TaskResult → ℕ
faults_of [] = 0
faults_of (r ∷ rs) = faults_in r + faults_of rs
