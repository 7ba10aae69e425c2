-- The configurations that the tasks of a run can reach: turn by turn, in any order, with results of
-- own runs or of tasks that run whole.
use Rattle.std.specs.Prelude.{◌≡◌, ℕ, List, [], ◌∷◌, Some}
use Rattle.sections.specs.Member.{Member}
use Rattle.types.specs.Code.{Code, While, Async, Codes, Then, Program}
use Rattle.types.specs.Run.{State}
use Rattle.effects.specs.Needs.{Needs}
use Rattle.task_run.specs.Results.{TaskResult, Settled}
use Rattle.task_run.specs.OwnRun.{Start, Child, Own, at_first, beginning, result_of, own_rules}
use Rattle.task_run.specs.Given.{in_truth, IsOfOwnRun}
use Rattle.task_run.specs.InPlace.{whole, IsMade}
use Rattle.task_run.specs.Frames.{Frame, Rest, Again, AtEnd, Standing, turn, handed}
use Rattle.task_run.specs.Holds.{HasOwn, HasNeeds}
use Rattle.task_run.specs.Settling.{settle}
use Rattle.task_run.specs.Lists.{Each}

-- a task at its start
abbrev pub begun : (fresh : ℕ) → Start → Standing Own
begun fresh s = record { frames = Rest s.body ∷ []; state = beginning (at_first s.owned) fresh s }

module _ (p : Program) (needs : Codes → Needs) (fresh : ℕ) (root : Start) where
  -- a task with this start can reach this configuration
  pub data Reached : Start → Standing Own → Type 0 where
    root_begins : Reached root (begun fresh root)
    -- a child of a task that was reached
    child_begins : {s : Start} {t : Standing Own} {c : Child} → Reached s t
        → Member c t.state.extra.pending
        → Reached c.start (begun fresh c.start)
    turns : {s : Start} {f : Frame Own} {fs : List (Frame Own)} {st : State Own}
        → Reached s (record { frames = f ∷ fs; state = st })
        → Reached s (turn p (own_rules needs s.nest (in_truth p needs fresh)) f fs st)
    -- the end of a finish, if results of tasks settle, in any order
    leaves : {s : Start} {before : State Own} {fs : List (Frame Own)} {st : State Own} {x : Settled}
        (rs : List TaskResult)
        → Reached s (record { frames = AtEnd before ∷ fs; state = st })
        → Each (IsMade p needs fresh root) rs → settle (result_of st) rs ≡ Some x
        → Reached s (record { frames = fs; state = handed before x st })

  -- the result of a task that has ended
  pub record IsResult (r : TaskResult) : Type 0 where
    pub start : Start
    pub state : State Own
    pub ended : Reached start (record { frames = []; state = state })
    pub is : r ≡ result_of state

  -- the result of a task that has ended on its own, or that ran whole
  pub data IsWholeOrEnded (r : TaskResult) : Type 0 where
    has_ended : IsResult r → IsWholeOrEnded r
    ran_whole : {s : Start} → Reached s (begun fresh s) → r ≡ whole p needs fresh s
        → IsWholeOrEnded r

  -- results of own runs settle what a task has made so far
  pub record CanSettle (st : State Own) : Type 0 where
    pub results : List TaskResult
    pub owns : Each (IsOfOwnRun p needs fresh root) results
    pub comes : Settled
    pub settles : settle (result_of st) results ≡ Some comes

  -- a task with this start can reach its end
  pub record CanEnd (s : Start) : Type 0 where
    pub state : State Own
    pub ended : Reached s (record { frames = []; state = state })

module _ (needs : Codes → Needs) (st : State Own) where
  -- if the statement is an async, all that its body needs is there
  abbrev pub HasNeedsOf : Code → Type 0
  HasNeedsOf (Async b) = HasNeeds st (needs b)
  HasNeedsOf _ = Unit {0}

  -- the next statement has all that it touches
  abbrev pub HasNext : List (Frame Own) → Type 0
  HasNext (Rest (Then l s rest) ∷ fs) = HasOwn st l s × HasNeedsOf s
  HasNext (Again l t b ∷ fs) = HasOwn st l (While t b)
  HasNext _ = Unit {0}
