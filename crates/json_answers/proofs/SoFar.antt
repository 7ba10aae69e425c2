-- The values of the steps of a path so far.
use Rattle.std.proofs.Common.{◌≡◌, ℕ, List, ◌++◌, map, drop}
use Rattle.serde_json.specs.Data.{Data}
use Rattle.serde_json.specs.View.{view}
use Rattle.serde_json.specs.declared.value.Value.{Value}
use Rattle.witness.specs.declared.step.WayStep.{WayStep}
use Rattle.json_answers.specs.Steps.{StepIn, steps_in}

module _ (f : StepIn → Data) (start : ℕ) (way : List WayStep) where
  -- together with those of the steps from the n-th on, which start in this procedure, these are all values
  pub record SoFar (n here : ℕ) (vs : List Value) : Type 0 where
    pub left : map view vs ++ map f (steps_in here (drop n way)) ≡ map f (steps_in start way)
