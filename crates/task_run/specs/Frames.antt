-- A task in progress: its frames, the top one first, and its state; and a turn of the top frame.
use Rattle.std.specs.Prelude.{ℕ, zero, suc, ◌+◌, ◌≡◌, List, [], ◌∷◌, ◌++◌, length, map, Bool, true}
use Rattle.std.specs.Prelude.{false, Some, Ok, Err, ok_or, slice_get, if◌then◌else◌}
use Rattle.sections.specs.Place.{sides_of, has_piece}
use Rattle.types.specs.declared.fault.FaultKind.TheVariants.{SplitPoint, PieceSize}
use Rattle.types.specs.Code.{Truth, Code, Do, If, While, Split, Parts, Begun, Call, Async, Finish, Rescue}
use Rattle.types.specs.Code.{Codes, End, Then, Program}
use Rattle.types.specs.Value.{Environment, Valued}
use Rattle.types.specs.Run.{Flow, On, Faulted, Stopped, Fault, State, Rules, Block, Turn, Pieces, stopped}
use Rattle.types.specs.Run.{go_on, fault, number_at, numbers_at, truth_at, window_at, entry, with_sides}
use Rattle.types.specs.Run.{in_turn, piece_size, procedure_of, primitive, counted, run, caught, rescued}
use Rattle.effects.specs.Needs.{Needs}
use Rattle.task_run.specs.Results.{TaskResult, Settled}
use Rattle.task_run.specs.OwnRun.{Start, Child, Action, Step, Spawn, EnterFinish, EndFinish, Own, notes}
use Rattle.task_run.specs.OwnRun.{child_of, begun_by, go_on_with, own_rules, from_receipts, run_by}
use Rattle.task_run.specs.Given.{in_truth, own, given}
use Rattle.task_run.specs.Lists.{Each}

-- one piece of the work that is left
pub data Frame (X : Type 0) : Type 0 where
  -- the statements that are left of a block
  Rest : Codes → Frame X
  -- the next iteration of a loop
  Again : (label : ℕ) → (guard : Truth) → (body : Codes) → Frame X
  -- the turns of a `parts` from the one with the number `next` on
  Further : (label section size next piece turn : ℕ) → (body : Codes) → Frame X
  -- the end of a finish that began at this state
  AtEnd : (before : State X) → Frame X
  -- the handler of a finish, before which there were these faults
  OnFault : (before : List Fault) → (slot : ℕ) → (handler : Codes) → Frame X
  -- the end of a call, which restores this environment
  Back : Environment → Frame X

-- a task in progress: its configuration between two turns
pub record Standing (X : Type 0) : Type 0 where
  pub frames : List (Frame X)
  pub state : State X

module _ {X : Type 0} where
  -- continues with a value, or faults
  abbrev pub by_value : {A : Type 0} → (label : ℕ) → Valued A → (A → Standing X) → List (Frame X)
      → State X → Standing X
  by_value l (Ok x) go fs st = go x
  by_value l (Err f) go fs st = record { frames = fs; state = fault l f st }

  -- a condition was evaluated
  abbrev pub chosen : Bool → (body other : List (Frame X)) → State X → Standing X
  chosen true body other st = record { frames = body; state = st }
  chosen false body other st = record { frames = other; state = st }

  -- after a finish: its handler is next if the task has faulted
  abbrev pub handled : Flow → (before : List Fault) → (slot : ℕ) → (handler : Codes) → List (Frame X)
      → State X → Standing X
  handled On before x c fs st = record { frames = fs; state = st }
  handled Faulted before x c fs st = record { frames = Rest c ∷ fs; state = caught x before st }
  handled Stopped before x c fs st = record { frames = fs; state = st }

module _ (p : Program) {X : Type 0} (r : Rules X) where
  -- the effect of a frame, once the frames above it are done
  abbrev pub frame : Frame X → State X → State X
  frame (Rest b) st = go_on (run p r (Block b)) st
  frame (Again l t b) st = go_on (run p r (Turn l t b)) st
  frame (Further l s n k q i b) st = go_on (run p r (Pieces l s n k q i b)) st
  frame (AtEnd before) st = r.leave before st
  frame (OnFault before x c) st = rescued x (run p r (Block c)) before st
  frame (Back env) st = record st { environment = env }

  -- the effect of all the work that is left
  abbrev pub resume : List (Frame X) → State X → State X
  resume [] st = st
  resume (f ∷ fs) st = resume fs (frame f st)

  -- a statement whose step was taken, above frames
  abbrev pub acted : (label : ℕ) → Code → List (Frame X) → State X → Standing X
  acted l (Do s) fs st = record { frames = fs; state = primitive p l s st }
  acted l (If t b c) fs st =
      by_value l (truth_at st t) (λ v. chosen v (Rest b ∷ fs) (Rest c ∷ fs) st) fs st
  acted l (While t b) fs st =
      by_value l (truth_at st t) (λ v. chosen v (Rest b ∷ Again l t b ∷ fs) fs st) fs st
  acted l (Split s e x y b) fs st =
      by_value l (number_at st e) (λ v.
      by_value l (ok_or (sides_of (window_at st s) v) SplitPoint) (λ ws.
      record {
        frames = Rest b ∷ fs;
        state = record st { environment = with_sides x y ws st.environment };
      }) fs st) fs st
  acted l (Parts s e q i b) fs st =
      by_value l (number_at st e) (λ v.
      by_value l (ok_or (piece_size v) PieceSize) (λ n.
      record { frames = Further l s n 0 q i b ∷ fs; state = st }) fs st) fs st
  acted l (Begun s n k q i b) fs st = record {
    frames = Rest b ∷ Further l s n (k + 1) q i b ∷ fs;
    state = in_turn s n k q i st;
  }
  acted l (Call f es ss) fs st =
      by_value l (numbers_at st es) (λ vs.
      record {
        frames = Rest (procedure_of p f).body ∷ Back st.environment ∷ fs;
        state = record st { environment = entry vs (map (window_at st) ss) };
      }) fs st
  acted l (Async b) fs st = record { frames = fs; state = r.begin l b st }
  acted l (Finish b) fs st = record { frames = Rest b ∷ AtEnd st ∷ fs; state = r.enter l st }
  acted l (Rescue b x c) fs st = record {
    frames = Rest b ∷ AtEnd st ∷ OnFault st.faults x c ∷ fs;
    state = r.enter l st;
  }

  -- a statement before its step is taken, with `steps` steps left
  abbrev pub paid : (steps : ℕ) → (label : ℕ) → Code → List (Frame X) → State X → Standing X
  paid zero l s fs st = record { frames = fs; state = stopped st }
  paid (suc n) l s fs st = acted l s fs (counted r l s (record st { steps = n }))

  -- a statement above frames if the flow is on; otherwise the frames below remain
  abbrev pub by_flow : Flow → (label : ℕ) → Code → (fs below : List (Frame X)) → State X
      → Standing X
  by_flow On l s fs below st = paid st.steps l s fs st
  by_flow Faulted l s fs below st = record { frames = below; state = st }
  by_flow Stopped l s fs below st = record { frames = below; state = st }

  -- one turn of a frame above others; the end of a finish waits, and takes no turn
  abbrev pub turn : Frame X → List (Frame X) → State X → Standing X
  turn (Rest End) fs st = record { frames = fs; state = st }
  turn (Rest (Then l s rest)) fs st = by_flow st.flow l s (Rest rest ∷ fs) fs st
  turn (Again l t b) fs st = by_flow st.flow l (While t b) fs fs st
  turn (Further l s n k q i b) fs st =
      if has_piece (window_at st s) n k then by_flow st.flow l (Begun s n k q i b) fs fs st
      else record { frames = fs; state = st }
  turn (AtEnd before) fs st = record { frames = AtEnd before ∷ fs; state = st }
  turn (OnFault before x c) fs st = handled st.flow before x c fs st
  turn (Back env) fs st = record { frames = fs; state = record st { environment = env } }

-- a task at the end of a finish continues with this settled result
abbrev pub handed : (before : State Own) → Settled → State Own → State Own
handed before s st = go_on_with before (record st { extra = notes EndFinish st.extra }) s

-- a task has spawned another, which has this number
pub record IsBegun (nest : ℕ) (st : State Own) (c : Child) : Type 0 where
  pub number : ℕ
  pub path : c.start.path ≡ st.path ++ suc number ∷ []
  pub listed : c.listed.path ≡ c.start.path
  pub here : slice_get (begun_by st.extra.actions) number ≡ Some c.start
  pub deeper : suc c.start.nest ≡ nest

-- a task has spawned the children that it lists, and counts all that it spawned
pub record HasBegun (nest : ℕ) (st : State Own) : Type 0 where
  pub counted : length (begun_by st.extra.actions) ≡ st.spawned
  pub begun : Each (IsBegun nest st) st.extra.pending

-- it has also spawned the children that it lists outside of its open finishes
abbrev pub HasBegunBelow : (nest : ℕ) → State Own → List (Frame Own) → Type 0
HasBegunBelow nest st [] = Unit {0}
HasBegunBelow nest st (Rest b ∷ fs) = HasBegunBelow nest st fs
HasBegunBelow nest st (Again l t b ∷ fs) = HasBegunBelow nest st fs
HasBegunBelow nest st (Further l s n k q i b ∷ fs) = HasBegunBelow nest st fs
HasBegunBelow nest st (AtEnd before ∷ fs) =
    Each (IsBegun nest st) before.extra.pending × HasBegunBelow nest st fs
HasBegunBelow nest st (OnFault before x c ∷ fs) = HasBegunBelow nest st fs
HasBegunBelow nest st (Back env ∷ fs) = HasBegunBelow nest st fs

module _ (p : Program) (needs : Codes → Needs) (fresh : ℕ) (root : Start) where
  -- a listed task is identified by its path, and started with the start given to this path
  pub record IsGivenChild (c : Child) : Type 0 where
    pub listed : c.listed.path ≡ c.start.path
    pub is : given p needs fresh root c.start.path ≡ Some c.start

  -- a task with this start: what it has so far, followed by what is left, is its own run
  pub record IsTask (s : Start) (t : Standing Own) : Type 0 where
    pub comes : given p needs fresh root s.path ≡ Some s
    pub runs : resume p (own_rules needs s.nest (in_truth p needs fresh)) t.frames t.state
        ≡ own p needs fresh s
    pub path : t.state.path ≡ s.path
    pub awake : t.state.extra.waits ≡ false
    pub fine : HasBegun s.nest t.state
    pub below : HasBegunBelow s.nest t.state t.frames

  -- for all later receipts, its own run is what it has so far, followed by the run of what remains
  pub record Follows (s : Start) (taken : List (List TaskResult)) (t : Standing Own) : Type 0 where
    pub count : t.state.extra.ended ≡ length taken
    pub follows : (later : List (List TaskResult)) → run_by p needs fresh (taken ++ later) s
        ≡ resume p (own_rules needs s.nest (from_receipts (taken ++ later))) t.frames t.state

-- the actions of a statement that other tasks can see, if this number of steps is left
abbrev pub done_by : (needs : Codes → Needs) → (nest steps : ℕ) → Code → State Own → List Action
done_by needs nest zero s st = []
done_by needs zero (suc n) (Async b) st = []
done_by needs (suc m) (suc n) (Async b) st = Spawn (child_of (needs b) m b st).start ∷ []
done_by needs nest (suc n) (Finish b) st = EnterFinish ∷ []
done_by needs nest (suc n) (Rescue b x c) st = EnterFinish ∷ []
done_by needs nest (suc n) (Do s) st = Step ∷ []
done_by needs nest (suc n) (If t b c) st = Step ∷ []
done_by needs nest (suc n) (While t b) st = Step ∷ []
done_by needs nest (suc n) (Split s e x y b) st = Step ∷ []
done_by needs nest (suc n) (Parts s e q i b) st = Step ∷ []
done_by needs nest (suc n) (Begun s m k q i b) st = Step ∷ []
done_by needs nest (suc n) (Call f es ss) st = Step ∷ []

-- the actions of a statement, by the flow
abbrev pub done_at : (needs : Codes → Needs) → (nest : ℕ) → Flow → Code → State Own → List Action
done_at needs nest On s st = done_by needs nest st.steps s st
done_at needs nest Faulted s st = []
done_at needs nest Stopped s st = []

-- the actions of a turn
abbrev pub done_in : (needs : Codes → Needs) → (nest : ℕ) → Frame Own → State Own → List Action
done_in needs nest (Rest End) st = []
done_in needs nest (Rest (Then l s rest)) st = done_at needs nest st.flow s st
done_in needs nest (Again l t b) st = done_at needs nest st.flow (While t b) st
done_in needs nest (Further l s n k q i b) st =
    if has_piece (window_at st s) n k then done_at needs nest st.flow (Begun s n k q i b) st else []
done_in needs nest (AtEnd before) st = []
done_in needs nest (OnFault before x c) st = []
done_in needs nest (Back env) st = []
