-- The errors that the type checker can return.
use Rattle.std.specs.Prelude.{◌≡◌, ◌⊎◌, List, [], ◌∷◌}
use Rattle.types.specs.declared.error.TypeError.{TypeError}
use Rattle.types.specs.declared.error.TypeError.TheVariants.{OutOfMemory}

-- the error is one of these errors, or out of memory
abbrev pub Told : List TypeError → TypeError → Type 0
Told [] e = e ≡ OutOfMemory
Told (x ∷ xs) e = (e ≡ x) ⊎ Told xs e
