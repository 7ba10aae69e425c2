-- The choices that a program is run by, and the result of that run.
use Rattle.std.specs.Prelude.{ℕ, ℤ, ◌≡◌, ◌<◌, List, [], Option, None, Some}
use Rattle.types.specs.Code.{Program}
use Rattle.types.specs.TreeRuns.{Explored, Open, explored}
use Rattle.step_trees.specs.Drawing.{drawn_choices}
use Rattle.command_line.specs.Requests.{Choosing, Listed, InFile, Random}
use Rattle.files.specs.Choices.{said_by}
use Rattle.files.specs.Choosing.{SaysChoices}
use Rattle.files.specs.Held.{Held}

-- these choices are given: those of a list, of a file or of the generator, or none
abbrev pub AreChosen : Option Choosing → Held → Program → (input : List (List ℤ))
    → (choices : List ℕ) → Type 0
AreChosen None held p input choices = choices ≡ []
AreChosen (Some (Listed text)) held p input choices = said_by text ≡ Some choices
AreChosen (Some (InFile name)) held p input choices = SaysChoices held name (Some choices)
AreChosen (Some (Random seed)) held p input choices = choices ≡ drawn_choices p input seed

-- the result of the run of a program on an input by the choices that are given
pub record ComesTo (c : Option Choosing) (held : Held) (p : Program) (input : List (List ℤ))
    (e : Explored) : Type 0 where
  pub choices : List ℕ
  pub given : AreChosen c held p input choices
  pub comes_to : e ≡ explored p input choices

-- an open result has a leaf that can step
abbrev pub HasLeaves : Explored → Type 0
HasLeaves e = (leaves : ℕ) → e ≡ Open leaves → 0 < leaves
