-- The faults of finishes, as resumes record them.
use Rattle.std.specs.Prelude.{ℕ, List, [], ◌∷◌, ◌++◌, Option, None, Some, if◌then◌else◌, nat_lt}
use Rattle.events.specs.declared.event.Event.{Event}
use Rattle.events.specs.declared.event.Event.TheVariants.{Take, Steal, Step, Replenish, Spawn}
use Rattle.events.specs.declared.event.Event.TheVariants.{Open, Park, End, Pass, Resume}
use Rattle.trace_numbers.specs.Chains.{at_path}

-- a finish, by its owner and its number, and the number of faults that it has gathered
pub record Gathered : Type 0 where
  pub owner : List ℕ
  pub number : ℕ
  pub faults : ℕ

-- for each task, by its path: the number of the scope of it that has passed last; and the finishes with faults so
-- far
pub record Finishes : Type 0 where
  pub last : List ℕ → ℕ
  pub found : List Gathered

-- a scope passes
abbrev pub passed : (owner : List ℕ) → (number : ℕ) → Finishes → Finishes
passed owner number f = record f { last = at_path owner number f.last }

-- a resume records the number of faults of a finish, or none
abbrev pub with_faults : (owner : List ℕ) → (number : ℕ) → (faults : Option ℕ) → List Gathered → List Gathered
with_faults owner number None found = found
with_faults owner number (Some n) found =
    if nat_lt 0 n then found ++ record { owner = owner; number = number; faults = n } ∷ [] else found

-- a task continues after the scope of it that has passed last
abbrev pub resumed : (path : List ℕ) → (faults : Option ℕ) → Finishes → Finishes
resumed path faults f = record f { found = with_faults path (f.last path) faults f.found }

abbrev pub told : Event → Finishes → Finishes
told (Take worker path) f = f
told (Steal worker from path) f = f
told (Step path) f = f
told (Replenish path) f = f
told (Spawn path) f = f
told (Open path) f = f
told (Park path) f = f
told (End path) f = f
told (Pass scope) f = passed scope.owner.turns.items scope.number f
told (Resume worker path faults) f = resumed path.turns.items faults f

abbrev pub finishes_after : List Event → Finishes → Finishes
finishes_after [] f = f
finishes_after (e ∷ es) f = finishes_after es (told e f)

-- nothing has passed
abbrev pub no_finishes : Finishes
no_finishes = record { last = λ path. 0; found = [] }

-- the finishes that have gathered at least one fault, in the order in which their owners continue
abbrev pub faults_of : List Event → List Gathered
faults_of es = (finishes_after es no_finishes).found
