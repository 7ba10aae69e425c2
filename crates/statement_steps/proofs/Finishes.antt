-- The faults since the start of a finish.
use Rattle.std.proofs.Common.{◌≡◌, ℕ, zero, suc, ◌<◌, ◌≤◌, List, [], ◌∷◌, length, drop, refl, arith}
use Rattle.std.specs.Prelude.{map}
use Rattle.types.specs.declared.fault.Fault.{Fault as rFault}
use Rattle.types.specs.Meaning.{after_finish}
use Rattle.types.specs.Run.{On, Faulted}
use Rattle.types.specs.Translation.{fault}

some_left : (n : ℕ) (xs : List rFault) → n < length xs
    → (after_finish On (drop n (map fault xs)) ≡ Faulted) × (after_finish Faulted (drop n (map fault xs)) ≡ Faulted)
some_left n [] lt = absurd (omega (arith, lt))
some_left zero (x ∷ xs) lt = (refl, refl)
some_left (suc n) (x ∷ xs) lt = some_left n xs (omega (arith, lt))

none_left : (n : ℕ) (xs : List rFault) → length xs ≤ n
    → (after_finish On (drop n (map fault xs)) ≡ On) × (after_finish Faulted (drop n (map fault xs)) ≡ On)
none_left zero [] le = (refl, refl)
none_left (suc n) [] le = (refl, refl)
none_left zero (x ∷ xs) le = absurd (omega (arith, le))
none_left (suc n) (x ∷ xs) le = none_left n xs (omega (arith, le))

pub gathered_on : (n : ℕ) (xs : List rFault) → n < length xs → after_finish On (drop n (map fault xs)) ≡ Faulted
gathered_on n xs lt = (some_left n xs lt).0

pub gathered_faulted : (n : ℕ) (xs : List rFault) → n < length xs → after_finish Faulted (drop n (map fault xs)) ≡ Faulted
gathered_faulted n xs lt = (some_left n xs lt).1

pub none_on : (n : ℕ) (xs : List rFault) → length xs ≤ n → after_finish On (drop n (map fault xs)) ≡ On
none_on n xs le = (none_left n xs le).0

pub none_faulted : (n : ℕ) (xs : List rFault) → length xs ≤ n → after_finish Faulted (drop n (map fault xs)) ≡ On
none_faulted n xs le = (none_left n xs le).1
