-- The lists of an input.
use Rattle.std.proofs.Common.{◌≤◌, List, [], ◌∷◌, length, map, Vec, Global, arith}
use Rattle.std.proofs.lemmas.List.Elements.{All-cons, All-nil}
use Rattle.std.specs.List.{All}
use Rattle.std.specs.Prelude.{ℤ}
use Rattle.types.specs.Contents.{FitsArrays, also}
use Rattle.types.specs.Translation.{array as array_of}
use Rattle.types.specs.declared.code.Array.{Array as rArray}

-- a list has no more numbers than arrays have elements
abbrev pub IsShort : Vec ℤ Global → Type 0
IsShort v = length v.items ≤ 4194304

pub short_lists : (xs : List rArray) (vs : List (Vec ℤ Global)) → FitsArrays (map array_of xs) (map (λ v. v.items) vs) → All IsShort vs
short_lists xs [] fits = All-nil IsShort
short_lists [] (v ∷ vs) fits = elim fits [ ]
short_lists (x ∷ xs) (v ∷ vs) (also long rest) =
    All-cons IsShort v vs (omega (arith, long, x.within)) (short_lists xs vs rest)
