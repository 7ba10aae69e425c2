-- Quiet turns, which nobody else sees: each does at most a step.
use Rattle.std.specs.Prelude.{ℕ, ◌≡◌, ◌⊎◌, List, [], ◌∷◌, Option}
use Rattle.types.specs.Code.{Codes, Program}
use Rattle.types.specs.Run.{State}
use Rattle.effects.specs.Needs.{Needs}
use Rattle.task_run.specs.Results.{Settled}
use Rattle.task_run.specs.OwnRun.{Own, Action, Step, own_rules}
use Rattle.task_run.specs.Frames.{Frame, Standing, done_in, turn}

-- nothing was done, or only a step
abbrev pub IsLittle : List Action → Type 0
IsLittle actions = (actions ≡ []) ⊎ (actions ≡ Step ∷ [])

module _ (p : Program) (needs : Codes → Needs) (nest : ℕ) (close : State Own → Option Settled) where
  -- a task gets from one configuration to another by quiet turns
  pub data Quietly : (from to : Standing Own) → Type 0 where
    here : {t : Standing Own} → Quietly t t
    further : {f : Frame Own} {fs : List (Frame Own)} {st : State Own} {to : Standing Own}
        → IsLittle (done_in needs nest f st)
        → Quietly (turn p (own_rules needs nest close) f fs st) to
        → Quietly (record { frames = f ∷ fs; state = st }) to
