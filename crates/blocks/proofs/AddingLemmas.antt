-- Copies taken into blocks.
use Rattle.std.proofs.Common.{◌≡◌, Option, Some, None, refl}
use Rattle.std.specs.Prelude.{option_map}
use Rattle.blocks.specs.Held.{Held, number_of}

pub number-none : (o : Option Held) → option_map number_of o ≡ None → o ≡ None
number-none None e = refl
number-none (Some h) e = absurd (cc)
