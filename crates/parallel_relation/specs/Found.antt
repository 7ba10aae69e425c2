-- What is found of the labels that may run together.
use Rattle.std.specs.Prelude.{ℕ}
use Rattle.types.specs.Code.{Program}
use Rattle.types.specs.Run.{procedure_of}
use Rattle.effects.specs.Effects.{labels, All, Pending}
use Rattle.parallel_relation.specs.Together.{Together}
use Rattle.parallel_relation.specs.Rows.{HasAt}
use Rattle.parallel_relation.specs.declared.found.FoundPairs.{FoundPairs}

-- x meets y: as a label, or because a procedure that does x is called, or leaves x pending
pub data FoundMeets (p : Program) (found : FoundPairs) (x y : ℕ) : Type 0 where
  label : HasAt found.labels x y → FoundMeets p found x y
  call : (f : ℕ) → All p labels (procedure_of p f).body x → HasAt found.calls f y
      → FoundMeets p found x y
  end : (f : ℕ) → Pending p labels (procedure_of p f).body x → HasAt found.ends f y
      → FoundMeets p found x y

-- x may be pending while y is done, in a procedure or in `main`
pub data Arises (p : Program) (x y : ℕ) : Type 0 where
  in_procedure : (f : ℕ) → Together p labels (procedure_of p f).body x y → Arises p x y
  in_main : Together p labels p.main.body x y → Arises p x y
