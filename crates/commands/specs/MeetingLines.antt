-- The lines of `mhp --accesses`: which accesses of a program's procedures may run together.
use Rattle.std.specs.Prelude.{ℕ, suc, ◌≡◌, ◌++◌, List, [], ◌∷◌, codes}
use Rattle.types.specs.Code.{Procedure, Program}
use Rattle.effects.specs.Effects.{accesses}
use Rattle.effects.specs.Summarized.{body_of}
use Rattle.parallel_relation.specs.Order.{AreMeetings, Meeting}
use Rattle.parallel_relation.specs.Together.{Together}
use Rattle.failures.specs.Races.{section_text, told_procedure}

-- the line of two accesses of a procedure, each as in the message of a race: `main: 2 write a, 5 write a`
abbrev pub meeting_line : Procedure → Meeting → List ℕ
meeting_line g m =
    g.name
    ++ (codes ": " ++ (section_text g m.first ++ (codes ", " ++ (section_text g m.second ++ codes "\n"))))

abbrev pub meeting_lines : Procedure → List Meeting → List ℕ
meeting_lines g [] = []
meeting_lines g (m ∷ ms) = meeting_line g m ++ meeting_lines g ms

-- the lines of the procedure with this number come after a text: those of all its accesses that may run
-- together, each two of them once, in order
pub record AddsLines (p : Program) (f : ℕ) (before told : List ℕ) : Type 0 where
  pub meetings : List Meeting
  pub are : AreMeetings (Together p accesses (body_of p f)) meetings
  pub told_is : told ≡ before ++ meeting_lines (told_procedure p f) meetings

-- the lines of the first n procedures; `main` is numbered after the others
pub data HasLines (p : Program) : (n : ℕ) → (told : List ℕ) → Type 0 where
  none : HasLines p 0 []
  one_more : (n : ℕ) (before told : List ℕ) → HasLines p n before → AddsLines p n before told
      → HasLines p (suc n) told
