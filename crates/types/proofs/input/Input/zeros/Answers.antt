use Rattle.std.proofs.Common.{◌≡◌, List, [], ◌∷◌, map, pos, replicate, ℤ, arith, sym, subst}
use Rattle.std.proofs.lemmas.Grind.{common_steps}
use Rattle.std.proofs.lemmas.List.{length-replicate}
use Rattle.types.specs.Code.{Array}
use Rattle.types.specs.Contents.{FitsArrays, no_more, also}
use Rattle.types.specs.Translation.{array}
use Rattle.types.proofs.input.Input.zeros.Goals as goal

zeros_fit : (xs : List Array) → FitsArrays xs (map (λ a. replicate a.length (pos 0)) xs)
zeros_fit [] = no_more
zeros_fit (x ∷ xs) = also (length-replicate x.length (pos 0)) (zeros_fit xs)

pub returns-clause-fits : goal.returns-clause-fits
returns-clause-fits c =
    let arrays = map array c.args.typed.now.code.arrays.items in
    let zeros : map (λ v. v.items) c.loop-array.arrays.items ≡ map (λ a. replicate a.length (pos 0)) arrays = grind (arith, common_steps) in
    let P : List (List ℤ) → Type 0 = λ ls. FitsArrays arrays ls in
    subst P (sym zeros) (zeros_fit arrays)
