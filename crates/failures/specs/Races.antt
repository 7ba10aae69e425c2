-- The line of a race.
use Rattle.std.specs.Prelude.{ℕ, Bool, true, false, List, [], ◌++◌, codes, slice_get, unwrap_or}
use Rattle.std.specs.Fmt.{decimal}
use Rattle.types.specs.Code.{Procedure, Program}
use Rattle.effects.specs.Accesses.{Access}
use Rattle.race_checker.specs.Races.{Race}

abbrev pub kind_of : (write : Bool) → List ℕ
kind_of true = codes "write"
kind_of false = codes "read"

-- an access as a message prints it: `2 write a`
abbrev pub access_text : (label : ℕ) → (write : Bool) → (name : List ℕ) → List ℕ
access_text label write name =
    decimal label ++ (codes " " ++ (kind_of write ++ (codes " " ++ name)))

-- the procedure with this number; `main` is numbered after the others
abbrev pub told_procedure : Program → ℕ → Procedure
told_procedure p f = unwrap_or (slice_get p.procedures f) p.main

-- the name of a section of a procedure
abbrev pub section_name : Procedure → ℕ → List ℕ
section_name g s = unwrap_or (slice_get g.section_names s) []

-- an access of a section
abbrev pub section_text : Procedure → Access → List ℕ
section_text g a = access_text a.label a.write (section_name g a.section)

-- `C1 race in main: 2 write a, 3 read a`: a procedure, and both accesses of a race in its names
abbrev pub race_line : Procedure → Race → List ℕ
race_line g r =
    (codes "C1 race in " ++ g.name)
    ++ ((codes ": " ++ section_text g r.first) ++ (codes ", " ++ section_text g r.second))

-- the line of a race of a program
abbrev pub race_text : Program → Race → List ℕ
race_text p r = race_line (told_procedure p r.procedure) r
