-- The different ends that the runs of a program come to, and their object.
use Rattle.std.specs.Prelude.{ℕ, ℤ, ◌≡◌, ◌≢◌, ◌≤◌, List, [], ◌∷◌, ◌++◌, Bool, true, false, codes}
use Rattle.std.specs.Prelude.{map, suc, zero}
use Rattle.std.specs.Prelude.{if◌then◌else◌}
use Rattle.std.specs.List.{All, AllPairs, Contains}
use Rattle.std.specs.Str.{bytes_eq}
use Rattle.std.specs.String.{string_bytes}
use Rattle.serde_json.specs.Data.{Data, boolean}
use Rattle.syntax.specs.declared.place.TextPlace.{TextPlace}
use Rattle.types.specs.Code.{Array, Program}
use Rattle.types.specs.Outcome.{Outcome}
use Rattle.types.specs.Translation.{outcome as outcome_in}
use Rattle.step_trees.specs.Standing.{HasEnded, standing}
use Rattle.command_line.specs.Requests.{Settings}
use Rattle.files.specs.Held.{Held}
use Rattle.commands.specs.Answers.{HasInput}
use Rattle.json_answers.specs.declared.all_ends.FoundEnd.{FoundEnd}
use Rattle.json_answers.specs.Objects.{ArePlaces}
use Rattle.json_answers.specs.Outcomes.{outcome_json}
use Rattle.json_answers.specs.Pieces.{line, list_by, natural, object_of}

-- an outcome, and choices that lead to it
pub record End : Type 0 where
  pub choices : List ℕ
  pub outcome : Outcome

module _ (p : Program) (places : List TextPlace) where
  -- the line of the object of an outcome
  abbrev pub outcome_line : Outcome → List ℕ
  outcome_line o = line (outcome_json p.arrays places o)

  abbrev pub end_lines : List End → List (List ℕ)
  end_lines es = map (λ (e : End). outcome_line e.outcome) es

module _ (p : Program) (input : List (List ℤ)) where
  -- the choices of an end lead to it
  abbrev pub IsReached : End → Type 0
  IsReached e = standing p input e.choices ≡ HasEnded e.outcome

  -- the choices of each lead to it, and no two have the same line
  pub record AreEnds (places : List TextPlace) (es : List End) : Type 0 where
    pub reached : All IsReached es
    pub differ : AllPairs (λ one other. one ≢ other) (end_lines p places es)

  -- every end of a run has the line of one of these
  abbrev pub AreAllEnds : (places : List TextPlace) → List End → Type 0
  AreAllEnds places es =
      (choices : List ℕ) (o : Outcome) → standing p input choices ≡ HasEnded o
      → Contains (end_lines p places es) (outcome_line p places o)

-- ---- the object

abbrev pub end_members : (declared : List Array) → List TextPlace → End → List (List ℕ × Data)
end_members declared places e =
    (codes "choices", list_by natural e.choices) ∷ (codes "outcome", outcome_json declared places e.outcome) ∷ []

abbrev pub end_json : (declared : List Array) → List TextPlace → End → Data
end_json declared places e = object_of (end_members declared places e)

-- the ends, how many lists of choices were tried, and whether no list is left
abbrev pub ends_members : (declared : List Array) → List TextPlace → (all : Bool) → List End → (tried : ℕ)
    → List (List ℕ × Data)
ends_members declared places all es tried =
    (codes "all", boolean all)
    ∷ (codes "ends", list_by (end_json declared places) es)
    ∷ (codes "status", natural 0)
    ∷ (codes "tried", natural tried) ∷ []

abbrev pub ends_json : (declared : List Array) → List TextPlace → (all : Bool) → List End → (tried : ℕ) → Data
ends_json declared places all es tried = object_of (ends_members declared places all es tried)

-- `explore --all N`: different ends of the runs of the text's program, whether or not it has a race; all of them, if no
-- list of choices is left
pub record ObjectOfEnds (most : ℕ) (s : Settings) (held : Held) (text told : List ℕ) (status : ℕ) : Type 0 where
  pub code : Program
  pub input : List (List ℤ)
  pub given : HasInput s held text code input
  pub places : List TextPlace
  pub begun : ArePlaces text places
  pub ends : List End
  pub are : AreEnds code input places ends
  pub all : Bool
  pub complete : all ≡ true → AreAllEnds code input places ends
  pub tried : ℕ
  pub few : tried ≤ most
  pub told_is : told ≡ line (ends_json code.arrays places all ends tried)
  pub status_is : status ≡ 0

-- ---- the search

-- whether no line is this one
abbrev pub is_new_in : (line : List ℕ) → List (List ℕ) → Bool
is_new_in line [] = true
is_new_in line (x ∷ xs) = if bytes_eq x line then false else is_new_in line xs

-- a list of choices, with each choice below a number added
abbrev pub further : (choices : List ℕ) → (count : ℕ) → List (List ℕ)
further choices zero = []
further choices (suc n) = (choices ++ n ∷ []) ∷ further choices n

-- the plain values
abbrev pub end_of : FoundEnd → End
end_of e = record { choices = e.choices.items; outcome = outcome_in e.outcome }

abbrev pub line_of_end : FoundEnd → List ℕ
line_of_end e = string_bytes e.line

-- an end is added if its line is new
abbrev pub noted : List FoundEnd → FoundEnd → List FoundEnd
noted es e = if is_new_in (line_of_end e) (map line_of_end es) then es ++ e ∷ [] else es
