-- The least race of a program has a witness.
use Rattle.std.proofs.Common.{◌≡◌, Option, None, sym, subst, true≢false}
use Rattle.std.proofs.Math.Logic.{∥∥₁_elim}
use mathlib.Core.HLevel.{⊥_prop}
use Rattle.std.specs.Prelude.{IsSome, false, true}
use Rattle.types.specs.Code.{Program}
use Rattle.race_checker.specs.Races.{IsLeastRace, IsRace, Race}
use Rattle.witness.specs.declared.witness.Witness.{Witness}

-- it isn't true that none was found
pub is_found : (p : Program) (r : Race) (found : Option Witness) → ∥ IsLeastRace p r ∥₁ → (IsRace p r → IsSome found)
    → found ≡ None → ⊥
is_found p r found least some none =
    ∥∥₁_elim least ⊥_prop (λ (l : IsLeastRace p r).
    let none_is_some : false ≡ true = subst IsSome none (some l.among) in true≢false (sym none_is_some))
