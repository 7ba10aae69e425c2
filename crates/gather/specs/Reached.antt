-- How a stage of the gathering was reached.
use Rattle.std.specs.Prelude.{ℕ, ◌+◌, ◌≡◌, List, [], ◌∷◌, ◌++◌, map, ◌||◌}
use Rattle.sections.specs.Place.{Place}
use Rattle.types.specs.declared.path.Path.{Path}
use Rattle.task_run.specs.Results.{Listed, TaskResult, returned}
use Rattle.task_run.specs.Lists.{Each, Inserted}
use Rattle.gather.specs.Parts.{Part, Waiting, Gathering, unopened}
use Rattle.gather.specs.Refusal.{IsCaseOf, Opening, listed, listed_by, paths_of, times}
use Rattle.gather.specs.declared.error.GatherError.{GatherError}
use Rattle.gather.specs.declared.settle.Results.{Results}

-- a part of one of these results: its first holes are filled, and the places that came back are
-- owned
pub record IsPartOf (rs : List TaskResult) (f : Part) : Type 0 where
  pub whole : TaskResult
  pub others : List TaskResult
  pub among : Inserted whole others rs
  pub before : List Listed
  pub lists : whole.children ≡ before ++ f.holes
  pub owned : (q : Place) → f.owned q ≡ (whole.owned q || returned before q)

-- the listed paths for which no result is opened yet
abbrev pub outstanding : List Waiting → Part → List (List ℕ)
outstanding [] f = listed f.holes
outstanding (w ∷ ws) f = listed w.part.holes ++ outstanding ws f

-- results with these paths were opened one after the other, and the parts belong to them
pub record IsReached (start : TaskResult) (rs : List TaskResult) (used : List (List ℕ))
    (g : Gathering) : Type 0 where
  pub opened : List TaskResult
  pub opening : Opening start rs opened g.left
  pub counted : (p : List ℕ) → times p used ≡ times p (paths_of opened)
  pub listed : (p : List ℕ) → times p (listed_by (start ∷ opened))
      ≡ times p (paths_of opened) + times p (outstanding g.waiting g.part)
  pub part : IsPartOf (start ∷ opened) g.part
  pub waiting : Each (λ w. IsPartOf (start ∷ opened) (unopened w)) g.waiting

-- the paths of the results that were used
abbrev pub used_by : Results → List (List ℕ)
used_by r = map (λ p. p.turns.items) r.used.items

-- and one more
abbrev pub used_with : Results → Path → List (List ℕ)
used_with r path = used_by r ++ path.turns.items ∷ []

-- a gathering continues to another one, in whichever way the first was reached
abbrev pub GoesOn : (used : List (List ℕ)) → Gathering → (more : List (List ℕ)) → Gathering → Type 0
GoesOn used g more h =
    (start : TaskResult) (rs : List TaskResult) → IsReached start rs used g → IsReached start rs more h

-- an error is the right one, in whichever way the gathering was reached
abbrev pub IsOwnCase : (used : List (List ℕ)) → Gathering → GatherError → Type 0
IsOwnCase used g e =
    (start : TaskResult) (rs : List TaskResult) → IsReached start rs used g → IsCaseOf start rs e
