-- Slots of results, the last added one first, and the position of the first result with each path.
use Rattle.std.specs.Prelude.{ℕ, ◌≡◌, Bool, List, [], ◌∷◌, length, nat_eq, Option, Some, None, if◌then◌else◌}
use Rattle.std.specs.Cmp.Lexicographic.{pointwise}
use Rattle.std.specs.Option.{option_flatten}
use Rattle.indexmap.specs.IndexMap.{IndexMap, get}
use Rattle.types.specs.Translation.{is_path}
use Rattle.types.specs.declared.path.Path.{Path}
use Rattle.task_run.specs.declared.result.TaskResult.{TaskResult}
use Rattle.gather.specs.declared.table.ResultEntry.{ResultEntry}

-- whether a result has a path
abbrev pub is_of : List ℕ → TaskResult → Bool
is_of path r = pointwise nat_eq r.path.turns.items path

-- the results that are left in some slots
abbrev pub left_in : List (Option ResultEntry) → List TaskResult
left_in [] = []
left_in (None ∷ places) = left_in places
left_in (Some e ∷ places) = e.task ∷ left_in places

-- the position of the first result with a path: the number of slots after it
abbrev pub first_of : List ℕ → List (Option ResultEntry) → Option ℕ
first_of path [] = None
first_of path (None ∷ places) = first_of path places
first_of path (Some e ∷ places) =
    if is_of path e.task then Some (length places) else first_of path places

-- the stored positions of the next result with the same path, for each result that is left
abbrev pub said_next : List (Option ResultEntry) → List (Option ℕ)
said_next [] = []
said_next (None ∷ places) = said_next places
said_next (Some e ∷ places) = e.next ∷ said_next places

-- the actual positions of the next result with the same path, for each result that is left
abbrev pub next_in : List (Option ResultEntry) → List (Option ℕ)
next_in [] = []
next_in (None ∷ places) = next_in places
next_in (Some e ∷ places) = first_of e.task.path.turns.items places ∷ next_in places

-- for each result that is left, the stored position is the actual one
abbrev pub AreChained : List (Option ResultEntry) → Type 0
AreChained places = said_next places ≡ next_in places

-- the position that a table stores for the first result with a path
abbrev pub said_of : {S : Type 0} → IndexMap Path (Option ℕ) S → Path → Option ℕ
said_of table path = option_flatten (get is_path table path)

-- a table stores the position of the first result with each path
abbrev pub FindsFirsts : {S : Type 0} → IndexMap Path (Option ℕ) S → List (Option ResultEntry) → Type 0
FindsFirsts table places =
    (path : Path) → said_of table path ≡ first_of path.turns.items places
