use Rattle.std.proofs.Common.{◌≡◌, drop, map}
use Rattle.types.specs.Inputs.{wrong_rows}
use Rattle.types.specs.Translation.{array as array_of}
use Rattle.types.proofs.input.Input.fits.Given as goal

-- a mistake is in the arrays that remain
abbrev pub invariant-loop-number : goal.invariant-loop-number
invariant-loop-number l =
    wrong_rows (map array_of l.arrays) (map (λ v. v.items) l.self.arrays.items)
    ≡ wrong_rows (map array_of (drop l.number l.arrays)) (map (λ v. v.items) (drop l.number l.self.arrays.items))
