-- The watch isn't notified if the command fails before its run.
use Rattle.std.proofs.Common.{ℕ, List, [], Bool, Result, Ok, Err}
use Rattle.std.specs.Prelude.{IsErrAnd}
use Rattle.statement_steps.specs.Watched.{Watches}
use Rattle.statement_steps.proofs.Watching.{not_begun}

module _ {W : Type 0} (Told : List ℕ → W → W → Type 0) where
  pub fails_before : {A E : Type 0} (asked : Bool) (r : Result A E) (Q : E → Type 0) → IsErrAnd r Q → (w : W) → Told [] w w
      → Watches Told asked r w w
  fails_before asked (Ok a) Q fails w nothing = absurd fails
  fails_before {A = A} asked (Err e) Q fails w nothing = not_begun Told A asked e w nothing
