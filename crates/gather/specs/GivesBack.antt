-- What a task owns at its end, together with what comes back to it, is what its parent lists for
-- it.
use Rattle.std.specs.Prelude.{◌≡◌, List, true, ◌||◌, nat_eq}
use Rattle.std.specs.Cmp.Lexicographic.{pointwise}
use Rattle.sections.specs.Covers.{has}
use Rattle.sections.specs.Place.{Place}
use Rattle.task_run.specs.Places.{Places}
use Rattle.task_run.specs.Results.{Listed, TaskResult, returned}
use Rattle.task_run.specs.Lists.{Each}

-- all places that a task owns once what it lists has come back
abbrev pub all_owned : TaskResult → Places
all_owned r q = r.owned q || returned r.children q

-- if a result has the listed path, it owns in the end exactly what is listed
abbrev pub GivesBack : Listed → TaskResult → Type 0
GivesBack c r =
    pointwise nat_eq r.path c.path ≡ true → (q : Place) → all_owned r q ≡ has c.windows q

-- all results of a task's listed children give back what is listed
abbrev pub AreGivenBack : List TaskResult → List Listed → Type 0
AreGivenBack rs cs = Each (λ c. Each (GivesBack c) rs) cs

-- so do the results of all children that these results list
abbrev pub GiveBack : TaskResult → List TaskResult → Type 0
GiveBack r rs = AreGivenBack rs r.children × Each (λ x. AreGivenBack rs x.children) rs
