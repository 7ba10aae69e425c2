-- A turn of a run in Rust, defined as the turn of the task that it represents.
use Rattle.std.specs.Prelude.{ℕ, ◌≡◌, ◌+◌, ◌<◌, ◌≤◌, ◌⊎◌, ⊤, List, [], ◌∷◌, ◌++◌, Option, ◌||◌, Bool, true}
use Rattle.std.specs.Prelude.{false}
use Rattle.sections.specs.Place.{Place}
use Rattle.types.specs.Code.{Code, Do, If, While, Split, Parts, Begun, Call, Async, Finish, Rescue, Codes}
use Rattle.types.specs.Code.{Then, Program}
use Rattle.types.specs.Contents.{IsThere}
use Rattle.types.specs.Run.{State, counted}
use Rattle.types.specs.Translation.{codes, environment, program}
use Rattle.effects.specs.Needs.{Needs}
use Rattle.effects.specs.Statements.{HasStatement}
use Rattle.statement_steps.specs.Primitive.{CanStore}
use Rattle.statement_steps.specs.declared.flow.Flow.TheVariants.{On as rOn}
use Rattle.task_run.specs.Places.{written, touched}
use Rattle.task_run.specs.Results.{Settled}
use Rattle.task_run.specs.OwnRun.{Own, Action, Spawn, EnterFinish, own_rules, result_of, back_from}
use Rattle.task_run.specs.Frames.{Frame, Rest, Again, Further, AtEnd, OnFault, Back, Standing, acted, by_flow}
use Rattle.task_run.specs.Frames.{turn, done_by, done_at, done_in}
use Rattle.task_run.specs.Quiet.{IsLittle, Quietly}
use Rattle.task_run.specs.Reached.{HasNext}
use Rattle.task_run.specs.Standings.{Shows, IsAt, IsEnd, Stacked, state_of, with_own}
use Rattle.task_run.specs.Stops.{is_over, is_next_over, stops}
use Rattle.task_run.specs.Translation.{contents_of, owned_by, task_result, start}
use Rattle.task_run.specs.declared.frame.TaskFrame.{TaskFrame as rFrame}
use Rattle.task_run.specs.declared.frame.TaskFrame.TheVariants.{EndFinish as rEndFinish}
use Rattle.task_run.specs.declared.frame.Outer.{Outer}
use Rattle.task_run.specs.declared.result.Settled.{Settled as rSettled}
use Rattle.task_run.specs.declared.run.Run.{Run}
use Rattle.task_run.specs.declared.start.Start.{Start as rStart}
use Rattle.task_run.specs.declared.turn.Done.{Done}
use Rattle.task_run.specs.declared.turn.Done.TheVariants.{Gone, Spawned, Entered, Exceeded}
use Rattle.task_run.specs.declared.turn.Paused.{Paused}
use Rattle.task_run.specs.declared.turn.Step.{Step as rStep}
use Rattle.task_run.specs.declared.turn.Step.TheVariants.{Did as rDid, AtEnd as rAtEnd}
use Rattle.task_run.specs.declared.turn.Turn.{Turn}
use Rattle.task_run.specs.declared.turn.Turn.TheVariants.{Going, Spawns, EntersFinish, EndsFinish}
use Rattle.task_run.specs.declared.turn.Turn.TheVariants.{Ended, Over}

-- how frames and a state change
abbrev pub Going_on : Type 0
Going_on = List (Frame Own) → State Own → Standing Own

-- for each task that the old run represents, the new run represents the changed task
pub record Turns (go : Going_on) (old new : Run) : Type 0 where
  pub plan : new.plan ≡ old.plan
  pub nest : new.thread.nest ≡ old.thread.nest
  pub stands : (fs : List (Frame Own)) (x : Own) → Shows old fs x
      → IsAt new (go fs (with_own x (state_of old.thread)))

-- exactly this task was spawned
abbrev pub BeginsAs : List Action → (over : Bool) → rStart → Type 0
BeginsAs actions over s = (over ≡ false) × (actions ≡ Spawn (start s) ∷ [])

-- these actions were done; `over` means that the task went over the budget
abbrev pub DoneAs : List Action → (over : Bool) → Done → Type 0
DoneAs actions over Gone = (over ≡ false) × IsLittle actions
DoneAs actions over (Spawned s) = BeginsAs actions over s.value
DoneAs actions over Entered = (over ≡ false) × (actions ≡ EnterFinish ∷ [])
DoneAs actions over Exceeded = over ≡ true

-- a spawned task has the label and the body of an async
abbrev pub DoneSpawns : (IsAsync : ℕ → Codes → Type 0) → Done → Type 0
DoneSpawns IsAsync Gone = ⊤
DoneSpawns IsAsync (Spawned s) = IsAsync s.value.label (codes s.value.body.now)
DoneSpawns IsAsync Entered = ⊤
DoneSpawns IsAsync Exceeded = ⊤

-- no task was spawned
abbrev pub SpawnsNone : Done → Type 0
SpawnsNone = DoneSpawns (λ l b. ⊥)

-- the same of a step
abbrev pub StepSpawns : (IsAsync : ℕ → Codes → Type 0) → rStep → Type 0
StepSpawns IsAsync (rDid done) = DoneSpawns IsAsync done
StepSpawns IsAsync rAtEnd = ⊤

-- this was done, and the new run represents the changed task
pub record Did (go : Going_on) (actions : State Own → List Action) (over : State Own → Bool)
    (old : Run) (done : Done) (new : Run) : Type 0 where
  pub turns : Turns go old new
  pub noted : (x : Own) →
      let st = with_own x (state_of old.thread) in
      DoneAs (actions st) (over st) done

-- the flow is on, and the step of a statement has been taken
pub record HasRoom (r : Run) : Type 0 where
  pub on : r.thread.flow ≡ rOn
  pub taken : r.thread.spawned + r.thread.steps < r.plan.budget.steps

-- each place that the body of an async may touch is held, and each that it may write is owned
pub record HasNeeded (n : Needs) (r : Run) : Type 0 where
  pub there : (q : Place) → touched (environment r.thread.environment) n q ≡ true
      → IsThere (contents_of r.thread.store.holdings q)
  pub owned : (q : Place) → written (environment r.thread.environment) n q ≡ true
      → owned_by r.thread.store.holdings q ≡ true

module _ (needs : Codes → Needs) (IsAsync : ℕ → Codes → Type 0) where
  -- a run has all that a statement needs
  abbrev pub CanAct : (label : ℕ) → Code → Run → Type 0
  CanAct l (Do s) r =
      CanStore (program r.plan.program.now)
      (λ q. owned_by r.thread.store.holdings q ≡ true) (state_of r.thread) s
  CanAct l (Async b) r = HasNeeded (needs b) r × IsAsync l b
  CanAct l (If t b c) r = ⊤
  CanAct l (While t b) r = ⊤
  CanAct l (Split s e x y b) r = ⊤
  CanAct l (Parts s e q i b) r = ⊤
  CanAct l (Begun s n k q i b) r = ⊤
  CanAct l (Call f es ss) r = ⊤
  CanAct l (Finish b) r = ⊤
  CanAct l (Rescue b x c) r = ⊤

-- a statement whose step has been taken
abbrev pub Acts : (label : ℕ) → Code → (old new : Run) → Type 0
Acts l c old new =
    (needs : Codes → Needs) (close : State Own → Option Settled)
    → Turns (acted (program old.plan.program.now) (own_rules needs old.thread.nest close) l c) old new

module _ (needs : Codes → Needs) where
  -- such a statement, with its actions
  abbrev pub DidAct : (label : ℕ) → Code → (old : Run) → Done → (new : Run) → Type 0
  DidAct l c old done new =
      (close : State Own → Option Settled) →
      let r = own_rules needs old.thread.nest close in
      Did (λ fs st. acted (program old.plan.program.now) r l c fs (counted r l c st))
      (done_by needs old.thread.nest 1 c) (λ st. is_over old.thread.nest 1 c) old done new

  -- a statement before its step is taken; `rest` gives the frames that remain if the flow is off
  abbrev pub DidNext : (List (Frame Own) → List (Frame Own)) → (label : ℕ) → Code → (old : Run) → Done
      → (new : Run) → Type 0
  DidNext rest l c old done new =
      (close : State Own → Option Settled) →
      let r = own_rules needs old.thread.nest close in
      Did (λ fs st. by_flow (program old.plan.program.now) r st.flow l c fs (rest fs) st)
      (λ st. done_at needs old.thread.nest st.flow c st)
      (λ st. is_next_over old.thread.nest st.flow st.steps c) old done new

  -- the turn of a frame that was taken off
  abbrev pub DidTurn : Frame Own → (old : Run) → Done → (new : Run) → Type 0
  DidTurn f old done new =
      (close : State Own → Option Settled) →
      Did (turn (program old.plan.program.now) (own_rules needs old.thread.nest close) f)
      (done_in needs old.thread.nest f) (stops old.thread.nest f) old done new

-- the frames below the top one
abbrev pub below_top : List (Frame Own) → List (Frame Own)
below_top [] = []
below_top (f ∷ fs) = fs

-- the top frame is taken off; at the end of a call the caller's environment comes back
abbrev pub taken_off : Going_on
taken_off [] st = record { frames = []; state = st }
taken_off (Rest b ∷ fs) st = record { frames = fs; state = st }
taken_off (Again l t b ∷ fs) st = record { frames = fs; state = st }
taken_off (Further l s n k q i b ∷ fs) st = record { frames = fs; state = st }
taken_off (AtEnd before ∷ fs) st = record { frames = fs; state = st }
taken_off (OnFault before x c ∷ fs) st = record { frames = fs; state = st }
taken_off (Back env ∷ fs) st = record { frames = fs; state = record st { environment = env } }

-- a run waits at the end of a finish, above these frames
pub record Waits (q : Paused) (fs : List (Frame Own)) (before st : State Own) : Type 0 where
  pub frames : Stacked q.frames.items fs
  pub outer : IsEnd q.outer before
  pub environment : environment q.environment ≡ st.environment
  pub steps : q.steps ≡ st.steps
  pub path : q.path.turns.items ≡ st.path
  pub spawned : q.spawned ≡ st.spawned
  pub few : q.spawned + q.steps ≤ q.plan.budget.steps

-- after a finish, a task owns what it owned at the end of the finish, and the places that come back
abbrev pub ComesBack : rSettled → State Own → Type 0
ComesBack s st =
    owned_by s.holdings ≡ (λ q. st.extra.owned q || back_from st.extra.pending q)

-- the new run represents this configuration, with the same program and nesting level
pub record GoesTo (old : Run) (next : Standing Own) (new : Run) : Type 0 where
  pub plan : new.plan ≡ old.plan
  pub nest : new.thread.nest ≡ old.thread.nest
  pub stands : IsAt new next

-- the turn continues in this configuration, after these actions
abbrev pub GoesAs : (old : Run) → (next : Standing Own) → List Action → (over : Bool) → Turn → Type 0
GoesAs old next actions over (Going r) = GoesTo old next r × DoneAs actions over Gone
GoesAs old next actions over (Spawns r s) = GoesTo old next r × BeginsAs actions over s
GoesAs old next actions over (EntersFinish r) = GoesTo old next r × DoneAs actions over Entered
GoesAs old next actions over (Over r) = GoesTo old next r × DoneAs actions over Exceeded
GoesAs old next actions over (EndsFinish q r) = ⊥
GoesAs old next actions over (Ended r) = ⊥

-- the turn ends a finish: the run waits, and the result is what it has made
abbrev pub WaitsAs : (old : Run) → List (Frame Own) → (before st : State Own) → Turn → Type 0
WaitsAs old fs before st (EndsFinish q r) =
    Waits q fs before st × (q.plan ≡ old.plan) × (q.nest ≡ old.thread.nest)
    × (task_result r ≡ result_of st)
WaitsAs old fs before st _ = ⊥

-- the turn ends the task with the result that it has made
abbrev pub EndsAs : State Own → Turn → Type 0
EndsAs st (Ended r) = task_result r ≡ result_of st
EndsAs st _ = ⊥

module _ (needs : Codes → Needs) (close : State Own → Option Settled) (old : Run) where
  -- the turn of a frame
  abbrev pub GoesFrom : Frame Own → List (Frame Own) → State Own → Turn → Type 0
  GoesFrom f fs st =
      GoesAs old (turn (program old.plan.program.now) (own_rules needs old.thread.nest close) f fs st)
      (done_in needs old.thread.nest f st) (stops old.thread.nest f st)

  -- the turn of a task on these frames
  abbrev pub TurnOf : List (Frame Own) → State Own → Turn → Type 0
  TurnOf [] st = EndsAs st
  TurnOf (AtEnd before ∷ fs) st = WaitsAs old fs before st
  TurnOf (OnFault before x c ∷ fs) st = GoesFrom (OnFault before x c) fs st
  TurnOf (Rest b ∷ fs) st = GoesFrom (Rest b) fs st
  TurnOf (Again l t b ∷ fs) st = GoesFrom (Again l t b) fs st
  TurnOf (Further l s n k q i b ∷ fs) st = GoesFrom (Further l s n k q i b) fs st
  TurnOf (Back env ∷ fs) st = GoesFrom (Back env) fs st

-- for each task that the run represents, this is the task's turn
abbrev pub IsTurn : (Codes → Needs) → Run → Turn → Type 0
IsTurn needs old turn =
    (close : State Own → Option Settled) (fs : List (Frame Own)) (x : Own) → Shows old fs x
    → TurnOf needs close old fs (with_own x (state_of old.thread)) turn

-- the turn of a run that did this
abbrev pub turn_of : Run → Done → Turn
turn_of r Gone = Going r
turn_of r (Spawned s) = Spawns r s.value
turn_of r Entered = EntersFinish r
turn_of r Exceeded = Over r

-- no frame is left, or the top one is the end of a finish
abbrev pub IsAtEnd : Run → Type 0
IsAtEnd r =
    (r.frames.items ≡ [])
    ⊎ ((below : List rFrame) × (o : Outer) × (r.frames.items ≡ below ++ rEndFinish o ∷ []))

-- A turn in place. If the run continues, this is its turn. At the end of a finish or at its own
-- end, the run is unchanged.
abbrev pub IsStep : (Codes → Needs) → (old : Run) → rStep → (new : Run) → Type 0
IsStep needs old (rDid done) new = IsTurn needs old (turn_of new done)
IsStep needs old rAtEnd new = (new ≡ old) × IsAtEnd old

-- if the first statement of a block is an async, it is known
abbrev pub KnowsFirst : (IsAsync : ℕ → Codes → Type 0) → List (Frame Own) → Type 0
KnowsFirst IsAsync (Rest (Then l (Async b) rest) ∷ fs) = IsAsync l b
KnowsFirst IsAsync fs = ⊤

-- the run represents a task that has all that its next statement needs
pub record CanTurn (needs : Codes → Needs) (IsAsync : ℕ → Codes → Type 0) (r : Run) : Type 0 where
  pub frames : List (Frame Own)
  pub own : Own
  pub shows : Shows r frames own
  pub next : HasNext needs (with_own own (state_of r.thread)) frames
  pub known : KnowsFirst IsAsync frames

-- a turn that ends a finish, or the task
abbrev pub IsEnding : Turn → Type 0
IsEnding (Going r) = ⊥
IsEnding (Spawns r s) = ⊥
IsEnding (EntersFinish r) = ⊥
IsEnding (EndsFinish q r) = ⊤
IsEnding (Ended r) = ⊤
IsEnding (Over r) = ⊥

-- for each task that the old run represents, the new run represents a configuration that the task
-- reaches by quiet turns
abbrev pub GoesOn : (needs : Codes → Needs) → (old new : Run) → Type 0
GoesOn needs old new =
    (close : State Own → Option Settled) (fs : List (Frame Own)) (x : Own) → Shows old fs x
    → (t : Standing Own)
    × Quietly (program old.plan.program.now) needs old.thread.nest close
    (record { frames = fs; state = with_own x (state_of old.thread) }) t
    × GoesTo old t new

-- a visible turn: it does more than a step, and more than going over the budget
abbrev pub IsMore : Turn → Type 0
IsMore (Going r) = ⊥
IsMore (Spawns r s) = ⊤
IsMore (EntersFinish r) = ⊤
IsMore (EndsFinish q r) = ⊤
IsMore (Ended r) = ⊤
IsMore (Over r) = ⊥

-- quiet turns, and then this turn, the first visible one
pub record GoesUpTo (needs : Codes → Needs) (old : Run) (t : Turn) : Type 0 where
  pub last : Run
  pub reached : GoesOn needs old last
  pub turn : IsTurn needs last t
  pub more : IsMore t

-- a visible step in place
abbrev pub DoesMore : rStep → (new : Run) → Type 0
DoesMore (rDid done) new = IsMore (turn_of new done)
DoesMore rAtEnd new = ⊤

-- Quiet turns in place, and then the first visible one. At the end of a finish or at its own end,
-- the run stays in the configuration that it has reached.
pub record StepsUpTo (needs : Codes → Needs) (old : Run) (s : rStep) (new : Run) : Type 0 where
  pub last : Run
  pub reached : GoesOn needs old last
  pub step : IsStep needs last s new
  pub more : DoesMore s new

-- if the next item is a block's first statement, this statement is the program's
abbrev pub FirstIsOf : Program → List (Frame Own) → Type 0
FirstIsOf p (Rest (Then l s rest) ∷ fs) = HasStatement p l s
FirstIsOf p fs = ⊤

-- the run represents a task whose next statement is the program's
pub record NextIsOf (p : Program) (r : Run) : Type 0 where
  pub frames : List (Frame Own)
  pub own : Own
  pub shows : Shows r frames own
  pub next : FirstIsOf p frames
