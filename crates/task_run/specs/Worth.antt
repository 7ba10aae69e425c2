-- The worth of results and starts by a measure, and the children that a task lists at its open
-- finishes.
use Rattle.std.specs.Prelude.{ℕ, ◌+◌, ◌≡◌, List, [], ◌∷◌, ◌++◌, sum_by}
use Rattle.types.specs.Code.{Codes, Program}
use Rattle.types.specs.Outcome.{Budget}
use Rattle.effects.specs.Needs.{Needs}
use Rattle.effects.specs.Rounds.{needs_of}
use Rattle.task_run.specs.Results.{TaskResult}
use Rattle.task_run.specs.OwnRun.{Start, Child, Action, Step, Spawn, EnterFinish, Own, result_of}
use Rattle.task_run.specs.Given.{own, below}
use Rattle.task_run.specs.Frames.{Frame, Rest, Again, Further, AtEnd, OnFault, Back, Standing}

-- the sum of a measure over results
abbrev pub measured : (TaskResult → ℕ) → List TaskResult → ℕ
measured f = sum_by f

module _ (p : Program) (needs : Codes → Needs) (fresh : ℕ) (f : TaskResult → ℕ) where
  -- the worth of a start: the measures of its task's result and of all results below it
  abbrev pub worth_by : Start → ℕ
  worth_by s = f (result_of (own p needs fresh s)) + measured f (below p needs fresh s.nest s)

module _ (p : Program) (b : Budget) (f : TaskResult → ℕ) where
  -- the worth of a start in a run of the program, with the computed needs
  abbrev pub worth : Start → ℕ
  worth = worth_by p (needs_of p) b.steps f

  -- the worth of the children that a task lists
  abbrev pub listed_worth : List Child → ℕ
  listed_worth = sum_by (λ c. worth c.start)

-- ---- the children that a task lists
pub record Lists : Type 0 where
  -- in its innermost open finish, or in its body if it has none open
  pub inner : List Child
  -- in the finishes around, the innermost first, and last the children outside of all finishes
  pub outer : List (List Child)

-- the children listed in the finishes around
abbrev pub around : List (Frame Own) → List (List Child)
around [] = []
around (Rest b ∷ fs) = around fs
around (Again l t b ∷ fs) = around fs
around (Further l s n k q i b ∷ fs) = around fs
around (AtEnd before ∷ fs) = before.extra.pending ∷ around fs
around (OnFault before x c ∷ fs) = around fs
around (Back env ∷ fs) = around fs

-- all children that a task lists in a configuration
abbrev pub lists : Standing Own → Lists
lists t = record { inner = t.state.extra.pending; outer = around t.frames }

-- one more child is listed
abbrev pub with_child : Child → Lists → Lists
with_child c ls = record ls { inner = ls.inner ++ c ∷ [] }

-- a finish is entered
abbrev pub inside : Lists → Lists
inside ls = record { inner = []; outer = ls.inner ∷ ls.outer }

-- a child with this start is listed
pub record ListsChild (s : Start) (old new : Lists) : Type 0 where
  pub child : Child
  pub start : child.start ≡ s
  pub lists : new ≡ with_child child old

-- how the lists change by a turn with these actions
abbrev pub ListsAs : List Action → (old new : Lists) → Type 0
ListsAs [] old new = new ≡ old
ListsAs (Step ∷ []) old new = new ≡ old
ListsAs (Spawn s ∷ []) old new = ListsChild s old new
ListsAs (EnterFinish ∷ []) old new = new ≡ inside old
ListsAs _ old new = ⊥
