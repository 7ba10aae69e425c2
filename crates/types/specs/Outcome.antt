-- The outcome of a program, an input and a budget on one thread.
use Rattle.std.specs.Prelude.{ℕ, ◌+◌, ◌≡◌, ◌≤◌, List, [], ◌∷◌, ℤ}
use Rattle.types.specs.Code.{Array, Program}
use Rattle.sections.specs.Place.{Window}
use Rattle.types.specs.Contents.{Contents, held_by, shown}
use Rattle.types.specs.Run.{Flow, On, Faulted, Fault, State, Block, entry}
use Rattle.types.specs.Meaning.{one_rules, one}

-- the number of steps that each task may take, and the maximum nesting of asyncs
pub record Budget : Type 0 where
  pub steps : ℕ
  pub nest : ℕ

-- neither number is smaller
pub record IsLarger (larger budget : Budget) : Type 0 where
  pub steps : budget.steps ≤ larger.steps
  pub nest : budget.nest ≤ larger.nest

-- the contents of the arrays at the end, in the order of declaration, and the output in depth-first
-- order
pub record Ending : Type 0 where
  pub arrays : List (List ℤ)
  pub lines : List (List ℤ)
  pub faults : List Fault

-- the reported result of a run
pub data Outcome : Type 0 where
  Ended : Ending → Outcome
  -- a task exceeded its budget, and nothing more is reported
  Stopped : Outcome

-- all places of each array, the first of which has the number `array`
abbrev pub whole_arrays : (array : ℕ) → List Array → List Window
whole_arrays array [] = []
whole_arrays array (x ∷ xs) =
    record { array = array; at = 0; length = x.length } ∷ whole_arrays (array + 1) xs

-- a task with the path of the root at the start of `main`
abbrev pub start : {X : Type 0} → X → Program → (steps : ℕ) → Contents → State X
start x p steps input = record {
  flow = On;
  environment = entry [] (whole_arrays 0 p.arrays);
  store = input;
  lines = [];
  faults = [];
  steps = steps;
  path = [];
  spawned = 0;
  extra = x;
}

-- only that the run was stopped, or otherwise its ending
abbrev pub outcome_by : Flow → Ending → Outcome
outcome_by Flow.Stopped e = Stopped
outcome_by On e = Ended e
outcome_by Faulted e = Ended e

-- the contents and the output of a run of `main`
abbrev pub ending_of : {X : Type 0} → Program → State X → Ending
ending_of p st = record { arrays = shown p.arrays st.store; lines = st.lines; faults = st.faults }

-- the outcome of a run of `main`
abbrev pub outcome_of : {X : Type 0} → Program → State X → Outcome
outcome_of p st = outcome_by st.flow (ending_of p st)

-- the one-thread outcome; `main` is inside an outer finish
abbrev pub outcome : Program → (input : List (List ℤ)) → Budget → Outcome
outcome p input b =
    let st = start tt p b.steps (held_by input) in
    let out = one p b.steps b.nest (Block p.main.body) st in
    outcome_of p ((one_rules p b.steps b.nest).leave st out)

-- some budget gives this ending
abbrev pub Means : Program → (input : List (List ℤ)) → Ending → Type 0
Means p input e = (b : Budget) × (outcome p input b ≡ Ended e)
