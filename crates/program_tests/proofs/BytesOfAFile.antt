-- Worked rows: inputs in which one array has the bytes of a file, and what is wrong with others.
use Rattle.std.proofs.Common.{◌≡◌, List, [], ◌∷◌, Some, None, codes, pos, refl}
use Rattle.syntax_tree.specs.declared.tree.ElementType.TheVariants.{Byte, Int}
use Rattle.types.specs.Code.{Array}
use Rattle.types.specs.Inputs.{OtherLength, Stranger}
use Rattle.files.specs.Held.{with_bytes, wrong_bytes}

-- `array a: byte[2]; array b: int[3];`
abbrev arrays : List Array
arrays =
    record { name = codes "a"; element = Byte; length = 2 }
    ∷ record { name = codes "b"; element = Int; length = 3 } ∷ []

-- the text `hi` for the first, and a text of three bytes for the second
text_of_first : with_bytes (codes "a") (codes "hi") arrays
    ≡ (pos 104 ∷ pos 105 ∷ []) ∷ (pos 0 ∷ pos 0 ∷ pos 0 ∷ []) ∷ []
text_of_first = refl

text_of_second : with_bytes (codes "b") (codes "hi!") arrays
    ≡ (pos 0 ∷ pos 0 ∷ []) ∷ (pos 104 ∷ pos 105 ∷ pos 33 ∷ []) ∷ []
text_of_second = refl

first_fits : wrong_bytes (codes "a") (codes "hi") arrays ≡ None
first_fits = refl

-- too short, too long, and the name of no array
short : wrong_bytes (codes "b") (codes "hi") arrays ≡ Some (OtherLength (codes "b"))
short = refl

long : wrong_bytes (codes "a") (codes "hi!") arrays ≡ Some (OtherLength (codes "a"))
long = refl

stranger : wrong_bytes (codes "c") (codes "hi") arrays ≡ Some (Stranger (codes "c"))
stranger = refl
