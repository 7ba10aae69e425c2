-- The conditions for the errors of gathering.
use Rattle.std.specs.Prelude.{ℕ, ◌+◌, ◌<◌, ◌≡◌, List, [], ◌∷◌, ◌++◌, ◌||◌, true, nat_eq}
use Rattle.std.specs.Prelude.{Option, Some, None, if◌then◌else◌, ◌⊎◌}
use Rattle.std.specs.Cmp.Lexicographic.{pointwise}
use Rattle.task_run.specs.Places.{meets}
use Rattle.task_run.specs.Results.{Listed, TaskResult, Settled, returned}
use Rattle.task_run.specs.Settling.{take}
use Rattle.task_run.specs.Lists.{Inserted}
use Rattle.gather.specs.declared.error.GatherError.{GatherError}
use Rattle.gather.specs.declared.error.GatherError.TheVariants.{Lost, Double, Stranger, OutOfMemory}

-- the results don't settle, or memory ran out
abbrev pub Refuses : Option Settled → GatherError → Type 0
Refuses comes OutOfMemory = Unit {0}
Refuses comes (Lost path) = comes ≡ None
Refuses comes (Double path) = comes ≡ None
Refuses comes (Stranger path) = comes ≡ None

-- the number of times that a path occurs in a list
abbrev pub times : (path : List ℕ) → List (List ℕ) → ℕ
times path [] = 0
times path (p ∷ ps) = (if pointwise nat_eq p path then 1 else 0) + times path ps

-- the paths of these results
abbrev pub paths_of : List TaskResult → List (List ℕ)
paths_of [] = []
paths_of (r ∷ rs) = r.path ∷ paths_of rs

-- the paths that are listed
abbrev pub listed : List Listed → List (List ℕ)
listed [] = []
listed (c ∷ cs) = c.path ∷ listed cs

-- the paths that results list
abbrev pub listed_by : List TaskResult → List (List ℕ)
listed_by [] = []
listed_by (r ∷ rs) = listed r.children ++ listed_by rs

-- a path is listed, by the start or by an opened result, more often than results with it were
-- opened
abbrev pub IsDue : (start : TaskResult) (opened : List TaskResult) (path : List ℕ) → Type 0
IsDue start opened path =
    times path (paths_of opened) < times path (listed_by (start ∷ opened))

-- results are opened one after the other, each the first with a path that is due; the others are
-- left
pub data Opening (start : TaskResult) (rs : List TaskResult)
    : (opened left : List TaskResult) → Type 0 where
  begun : Opening start rs [] rs
  further : {opened rest : List TaskResult} {x : TaskResult} (left : List TaskResult)
      → Opening start rs opened left → IsDue start opened x.path
      → take x.path left ≡ Some (x, rest) → Opening start rs (x ∷ opened) rest

-- a path is due, and no result with it is left
pub record IsLost (start : TaskResult) (rs : List TaskResult) (path : List ℕ) : Type 0 where
  pub opened : List TaskResult
  pub left : List TaskResult
  pub opening : Opening start rs opened left
  pub due : IsDue start opened path
  pub none : times path (paths_of left) ≡ 0

-- all that is listed was opened, and a result is left
pub record IsLeftOver (start : TaskResult) (rs : List TaskResult) (path : List ℕ) : Type 0 where
  pub opened : List TaskResult
  pub left : List TaskResult
  pub opening : Opening start rs opened left
  pub all : (p : List ℕ) → times p (paths_of opened) ≡ times p (listed_by (start ∷ opened))
  pub over : 0 < times path (paths_of left)

-- a place comes back from a path, but the parent owns it, or it came back from an earlier child
pub record ComesBackTwice (start : TaskResult) (rs : List TaskResult) (path : List ℕ)
    : Type 0 where
  pub opened : List TaskResult
  pub left : List TaskResult
  pub opening : Opening start rs opened left
  -- the parent is the start or an opened result
  pub parent : TaskResult
  pub others : List TaskResult
  pub among : Inserted parent others (start ∷ opened)
  -- the parent lists the path after other paths
  pub before : List Listed
  pub child : Listed
  pub behind : List Listed
  pub lists : parent.children ≡ before ++ child ∷ behind
  pub of_path : child.path ≡ path
  pub twice : meets (λ q. parent.owned q || returned before q) child.windows ≡ true

-- a left result with a path that neither the start nor an opened result lists
pub record IsStranger (start : TaskResult) (rs : List TaskResult) (path : List ℕ) : Type 0 where
  pub is : IsLeftOver start rs path
  pub unlisted : times path (listed_by (start ∷ is.opened)) ≡ 0

-- the path is listed, and a result with it is left
pub record HasOneMore (start : TaskResult) (rs : List TaskResult) (path : List ℕ) : Type 0 where
  pub is : IsLeftOver start rs path
  pub listed : 0 < times path (listed_by (start ∷ is.opened))

-- each error is returned only in its own case
abbrev pub IsCaseOf : (start : TaskResult) (rs : List TaskResult) → GatherError → Type 0
IsCaseOf start rs OutOfMemory = Unit {0}
IsCaseOf start rs (Lost path) = IsLost start rs path.turns.items
IsCaseOf start rs (Double path) =
    HasOneMore start rs path.turns.items ⊎ ComesBackTwice start rs path.turns.items
IsCaseOf start rs (Stranger path) = IsStranger start rs path.turns.items
