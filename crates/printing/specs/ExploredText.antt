-- The text of the result of a run by choices, and its exit status.
use Rattle.std.specs.Prelude.{ℕ, List, ◌++◌, Bool, codes, Option, Some, None}
use Rattle.std.specs.Fmt.{decimal}
use Rattle.types.specs.Code.{Array}
use Rattle.types.specs.TreeRuns.{Explored, Ends, Open, NoSuchChoice}
use Rattle.printing.specs.OutcomeText.{outcome_text, status_of}

-- the number of leaves that can take a step
abbrev pub open_text : ℕ → List ℕ
open_text leaves = codes "open " ++ (decimal leaves ++ codes "\n")

-- the text of an outcome, or the number of leaves that can take a step; none if a choice names no
-- leaf
abbrev pub explored_text : (declared : List Array) → (arrays : Bool) → Explored → Option (List ℕ)
explored_text declared arrays (Ends o) = Some (outcome_text declared arrays o)
explored_text declared arrays (Open leaves) = Some (open_text leaves)
explored_text declared arrays (NoSuchChoice n) = None

-- the status of an outcome, or 3 if leaves can take a step; 1 if a choice names no leaf
abbrev pub explored_status : Explored → ℕ
explored_status (Ends o) = status_of o
explored_status (Open leaves) = 3
explored_status (NoSuchChoice n) = 1
