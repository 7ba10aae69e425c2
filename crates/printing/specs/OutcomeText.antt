-- The text of an outcome: what `afx` prints after a run, and its exit status.
use Rattle.std.specs.Prelude.{ℕ, List, [], ◌∷◌, ◌++◌, map, codes, Bool, if◌then◌else◌, ℤ}
use Rattle.std.specs.Fmt.{decimal, signed_decimal}
use Rattle.std.specs.List.{concat, flat_map, join_with_byte, zip}
use Rattle.types.specs.Code.{Array}
use Rattle.types.specs.Names.{path_text, kind_text}
use Rattle.types.specs.Run.{Fault}
use Rattle.types.specs.Outcome.{Outcome, Ended, Stopped, Ending}

-- the code of a space
abbrev pub space : ℕ
space = 32

-- values in decimal, separated by one space
abbrev pub joined_text : List ℤ → List ℕ
joined_text values = join_with_byte space (map signed_decimal values)

-- values in decimal, with one space before each
abbrev pub spaced_text : List ℤ → List ℕ
spaced_text values = flat_map (λ n. codes " " ++ signed_decimal n) values

-- a printed line
abbrev pub line_text : List ℤ → List ℕ
line_text values = joined_text values ++ codes "\n"

-- `fault PATH at LABEL: CODE`
abbrev pub fault_text : Fault → List ℕ
fault_text f =
    concat (codes "fault " ∷ path_text f.path ∷ codes " at " ∷ decimal f.label ∷ codes ": "
    ∷ kind_text f.kind ∷ codes "\n" ∷ [])

-- `array NAME` and its elements
abbrev pub array_text : Array × List ℤ → List ℕ
array_text (a, elements) = concat (codes "array " ∷ a.name ∷ spaced_text elements ∷ codes "\n" ∷ [])

-- the printed lines, then the faults, then, if they are to be shown, the arrays that are declared
-- and have elements
abbrev pub ending_text : (declared : List Array) → (arrays : Bool) → Ending → List ℕ
ending_text declared arrays e =
    flat_map line_text e.lines ++ flat_map fault_text e.faults
    ++ (if arrays then flat_map array_text (zip declared e.arrays) else [])

-- the text of an outcome
abbrev pub outcome_text : (declared : List Array) → (arrays : Bool) → Outcome → List ℕ
outcome_text declared arrays (Ended e) = ending_text declared arrays e
outcome_text declared arrays Stopped = codes "stopped\n"

-- 0 without faults, 2 with faults
abbrev pub status_by : List Fault → ℕ
status_by [] = 0
status_by (f ∷ fs) = 2

-- the exit status of an outcome: 3 if the run was stopped
abbrev pub status_of : Outcome → ℕ
status_of (Ended e) = status_by e.faults
status_of Stopped = 3
