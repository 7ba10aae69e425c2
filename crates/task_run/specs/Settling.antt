-- Settling of results: each hole is filled once by the result with its path, at any position in the
-- list.
use Rattle.std.specs.Prelude.{ℕ, zero, suc, ◌+◌, ◌≡◌, ◌≢◌, List, [], ◌∷◌, length, true, false}
use Rattle.std.specs.Prelude.{◌||◌, nat_eq, Option, Some, None, if◌then◌else◌}
use Rattle.std.specs.Cmp.Lexicographic.{pointwise}
use Rattle.sections.specs.Covers.{has}
use Rattle.sections.specs.Place.{Place}
use Rattle.task_run.specs.Places.{Places, meets}
use Rattle.task_run.specs.Lists.{Each}
use Rattle.task_run.specs.Results.{Listed, TaskResult, Settled, none_yet, fill, complete, and_then}

-- a result that is passed over stays among the others
abbrev pub behind : TaskResult → Option (TaskResult × List TaskResult)
    → Option (TaskResult × List TaskResult)
behind r None = None
behind r (Some (found, others)) = Some (found, r ∷ others)

-- takes the first result with a path out of a list
abbrev pub take : List ℕ → List TaskResult → Option (TaskResult × List TaskResult)
take path [] = None
take path (r ∷ rs) = if pointwise nat_eq r.path path then Some (r, rs) else behind r (take path rs)

-- fills holes and uses up results; None if a result is missing, or a place comes back that is
-- already owned
abbrev pub fill_all : (TaskResult → List TaskResult → Option (Settled × List TaskResult))
    → (owned : Places) → List Listed → Settled
    → List TaskResult → Option (Settled × List TaskResult)
fill_all deeper owned [] so_far rs = Some (so_far, rs)
fill_all deeper owned (c ∷ cs) so_far rs =
    if meets owned c.windows then None else
    and_then (take c.path rs) (λ found.
    and_then (deeper found.0 found.1) (λ child.
    fill_all deeper (λ q. owned q || has c.windows q) cs (fill c child.0 so_far) child.1))

-- settles a result with others, nested at most k levels deep, and returns the unused ones too
abbrev pub settle_within : ℕ → TaskResult → List TaskResult → Option (Settled × List TaskResult)
settle_within zero r rs = None
settle_within (suc k) r rs =
    and_then (fill_all (settle_within k) r.owned r.children none_yet rs)
    (λ all. Some (complete r all.0, all.1))

-- None if a result is left: its path has a second result, or no task lists it
abbrev pub none_left : Settled × List TaskResult → Option Settled
none_left (s, []) = Some s
none_left (s, r ∷ rs) = None

-- settles a result with the results of all tasks listed at any depth
abbrev pub settle : TaskResult → List TaskResult → Option Settled
settle r rs = and_then (settle_within (length rs + 1) r rs) none_left

-- no place comes back that is already owned
abbrev pub Parted : Places → List Listed → Type 0
Parted owned [] = Unit {0}
Parted owned (c ∷ cs) =
    ((q : Place) → has c.windows q ≡ true → owned q ≡ false)
    × Parted (λ q. owned q || has c.windows q) cs

-- no place comes back that the result already owns
abbrev pub IsParted : TaskResult → Type 0
IsParted r = Parted r.owned r.children

-- no path has two results
abbrev pub NoTwice : List TaskResult → Type 0
NoTwice [] = Unit {0}
NoTwice (r ∷ rs) = Each (λ other. other.path ≢ r.path) rs × NoTwice rs
