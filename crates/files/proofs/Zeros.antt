-- Zeros fit every program.
use Rattle.std.proofs.Common.{◌≡◌, List, [], ◌∷◌, subst, sym}
use Rattle.std.proofs.lemmas.List.{length-replicate}
use Rattle.std.specs.Prelude.{ℤ, pos}
use Rattle.types.specs.Code.{Array}
use Rattle.types.specs.Inputs.{IsInput, no_more, also}
use Rattle.types.proofs.InputLemmas.{zeros_held}
use Rattle.files.specs.Held.{zeros}

zeros_fit : (xs : List Array) → IsInput xs (zeros xs)
zeros_fit [] = no_more
zeros_fit (x ∷ xs) =
    also (record { long = length-replicate x.length (pos 0); held = zeros_held x.element x.length }) (zeros_fit xs)

pub are_zeros_fit : (xs : List Array) (rows : List (List ℤ)) → rows ≡ zeros xs → IsInput xs rows
are_zeros_fit xs rows is = subst (IsInput xs) (sym is) (zeros_fit xs)
