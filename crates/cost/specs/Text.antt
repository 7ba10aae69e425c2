-- The text of a cost, one number per line, and the share of each label or procedure.
use Rattle.std.specs.Prelude.{ℕ, ◌+◌, ◌/◌, ◌&&◌, Bool, List, [], ◌∷◌, ◌++◌, codes, slice_index}
use Rattle.std.specs.Prelude.{nat_eq, nat_le, nat_lt}
use Rattle.std.specs.Prelude.{if◌then◌else◌}
use Rattle.std.specs.Fmt.{decimal}
use Rattle.trace_numbers.specs.Text.{line, parallelism}
use Rattle.types.specs.Code.{Procedure, Program}
use Rattle.cost.specs.Shares.{share_of}
use Rattle.cost.specs.declared.cost.Cost.{Cost}

-- the work, the span and the parallelism
abbrev pub work_lines : Cost → List ℕ
work_lines c =
    line (codes "work") (decimal c.work)
    ++ (line (codes "span") (decimal c.span)
    ++ line (codes "parallelism") (parallelism c.work c.span))

-- the numbers of tasks, finishes and copied places, and how deep asyncs are nested
abbrev pub task_lines : Cost → List ℕ
task_lines c =
    line (codes "tasks") (decimal c.tasks)
    ++ (line (codes "deepest nest") (decimal c.deepest_nest)
    ++ (line (codes "finishes") (decimal c.finishes)
    ++ line (codes "copied places") (decimal c.copied)))

-- there are at least 100 tasks, and more than half of them are small
abbrev pub is_too_fine : Cost → Bool
is_too_fine c = nat_le 100 c.tasks && nat_lt (c.tasks / 2) c.small

-- what to change, if tasks are too small to pay
abbrev pub advice : Cost → List ℕ
advice c =
    if is_too_fine c
    then codes "help: most tasks are too small to pay; stop dividing sooner, or take larger pieces\n"
    else []

-- how many steps a task takes on average
abbrev pub steps_line : Cost → List ℕ
steps_line c = line (codes "steps per task") (parallelism c.work c.tasks)

-- how many tasks take fewer than 1,000 steps
abbrev pub small_line : Cost → List ℕ
small_line c = line (codes "tasks under 1000 steps") (decimal c.small)

-- both, and what to change
abbrev pub grain_lines : Cost → List ℕ
grain_lines c = steps_line c ++ (small_line c ++ advice c)

abbrev pub cost_text : Cost → List ℕ
cost_text c = work_lines c ++ (task_lines c ++ grain_lines c)

-- the line of a share: the number of steps, and how many of them are on the longest chain
abbrev pub share_line : (name : List ℕ) → (work span : ℕ) → List ℕ
share_line name work span =
    name ++ (codes ": work " ++ (decimal work ++ (codes ", span " ++ (decimal span ++ codes "\n"))))

-- the line of a label; 0 is the label of no statement
abbrev pub label_line : (label work span : ℕ) → List ℕ
label_line l work span = if nat_eq l 0 then [] else share_line (codes "label " ++ decimal l) work span

-- the lines of labels from this one on, with these steps
abbrev pub label_lines : (label : ℕ) → (work span : List ℕ) → List ℕ
label_lines l [] span = []
label_lines l (n ∷ work) span = label_line l n (slice_index span l) ++ label_lines (l + 1) work span

-- a line for each label that has a row
abbrev pub labels_text : (work span : List ℕ) → List ℕ
labels_text work span = label_lines 0 work span

-- the line of a procedure, including all statements inside
abbrev pub procedure_line : (work span : List ℕ) → Procedure → List ℕ
procedure_line work span f = share_line f.name (share_of work f.body) (share_of span f.body)

abbrev pub procedure_lines : (work span : List ℕ) → List Procedure → List ℕ
procedure_lines work span [] = []
procedure_lines work span (f ∷ fs) = procedure_line work span f ++ procedure_lines work span fs

-- a line for each procedure, in the order of the text, and for `main`
abbrev pub procedures_text : (work span : List ℕ) → Program → List ℕ
procedures_text work span p =
    procedure_lines work span p.procedures
    ++ share_line (codes "main") (share_of work p.main.body) (share_of span p.main.body)
