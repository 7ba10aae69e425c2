-- The state of the search for the ends of a program's runs.
use Rattle.std.specs.Prelude.{ℕ, ℤ, ◌≡◌, ◌⊎◌, ◌≤◌, true, List, ◌++◌, map}
use Rattle.std.specs.List.{Contains}
use Rattle.syntax.specs.declared.place.TextPlace.{TextPlace}
use Rattle.types.specs.Code.{Program}
use Rattle.types.specs.Outcome.{Outcome}
use Rattle.step_trees.specs.Standing.{HasEnded, standing}
use Rattle.json_answers.specs.declared.all_ends.FoundEnd.{FoundEnd}
use Rattle.json_answers.specs.declared.all_ends.FoundEnds.{FoundEnds}
use Rattle.json_answers.specs.declared.all_ends.Search.{Search}
use Rattle.json_answers.specs.AllEnds.{AreAllEnds, AreEnds, End, end_lines, end_of, line_of_end, outcome_line}

-- a list of choices begins with one of those that wait
pub record Waits (ws : List (List ℕ)) (choices : List ℕ) : Type 0 where
  pub first : List ℕ
  pub rest : List ℕ
  pub waits : Contains ws first
  pub begins : choices ≡ first ++ rest

module _ (p : Program) (input : List (List ℤ)) (places : List TextPlace) where
  -- the ends so far; each run that ends comes to one of them, or its choices begin with a list that waits
  pub record Searches (ws : List (List ℕ)) (es : List End) : Type 0 where
    pub ends : AreEnds p input places es
    pub covers : (choices : List ℕ) (o : Outcome) → standing p input choices ≡ HasEnded o
        → (Contains (end_lines p places es) (outcome_line p places o)) ⊎ Waits ws choices

  -- the state of a search, with these lists waiting; the stored lines are right
  pub record IsSearchWith (ws : List (List ℕ)) (es : List FoundEnd) : Type 0 where
    pub lines : map line_of_end es ≡ end_lines p places (map end_of es)
    pub searches : Searches ws (map end_of es)

  abbrev pub IsSearch : Search → Type 0
  IsSearch s = IsSearchWith (map (λ v. v.items) s.waiting.items) s.ends.items

  -- what was found: all ends, if nothing waits
  pub record AreFound (most : ℕ) (f : FoundEnds) : Type 0 where
    pub ends : AreEnds p input places (map end_of f.ends.items)
    pub complete : f.all ≡ true → AreAllEnds p input places (map end_of f.ends.items)
    pub few : f.tried ≤ most
