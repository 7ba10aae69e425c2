-- What a task does: one recursion over statements, given rules for async and finish.
use Rattle.std.specs.Prelude.{ℕ, zero, suc, ◌+◌, ◌-◌, length, List, [], ◌∷◌, ◌++◌, map, Bool, true, false, ℤ}
use Rattle.std.specs.Prelude.{pos, negsuc, Ok, Err, Option, Some, None, ok_or, nat_eq, slice_index_or}
use Rattle.std.specs.Prelude.{if◌then◌else◌}
use Rattle.syntax_tree.specs.declared.tree.ElementType.TheVariants.{Int}
use Rattle.types.specs.declared.fault.FaultKind.{FaultKind}
use Rattle.types.specs.declared.fault.FaultKind.TheVariants.{OutOfElement, SplitPoint, PieceSize, Raised}
use Rattle.types.specs.Code.{Number, Truth, Primitive, Skip, Assign, Store, Print, Raise, Code, Do, If, While}
use Rattle.types.specs.Code.{Split, Parts, Begun, Call, Async, Finish, Rescue, Codes, End, Then, Array}
use Rattle.types.specs.Code.{Procedure, Program}
use Rattle.sections.specs.Place.{Window, Place, nowhere, sides_of, has_piece, piece_at}
use Rattle.types.specs.Contents.{Contents, read, write}
use Rattle.types.specs.Value.{Environment, Valued, element_of, holds_number, number, numbers, truth}

-- whether a task continues
pub data Flow : Type 0 where
  On : Flow
  -- a fault ended its statements up to the nearest finish
  Faulted : Flow
  -- the task, or a task that it waited for, exceeded its budget
  Stopped : Flow

-- a fault: its kind, its task and its statement; a path is the list of child numbers from the root
-- down, which is empty for the root
pub record Fault : Type 0 where
  pub path : List ℕ
  pub label : ℕ
  pub kind : FaultKind

-- the state of a task; `extra` is what a kind of run keeps in addition: nothing on one thread, the
-- actions so far in a task's own run
pub record State (X : Type 0) : Type 0 where
  pub flow : Flow
  pub environment : Environment
  pub store : Contents
  -- the output since the task started, or since its innermost open finish started
  pub lines : List (List ℤ)
  pub faults : List Fault
  -- the steps left, the task's name, and the number of children that it spawned
  pub steps : ℕ
  pub path : List ℕ
  pub spawned : ℕ
  pub extra : X

-- a state with this as its `extra`
abbrev pub keeping : {X Y : Type 0} → Y → State X → State Y
keeping y st = record {
  flow = st.flow;
  environment = st.environment;
  store = st.store;
  lines = st.lines;
  faults = st.faults;
  steps = st.steps;
  path = st.path;
  spawned = st.spawned;
  extra = y;
}

-- the function that gives v at x and is f elsewhere
abbrev pub bind : {A : Type 0} → ℕ → A → (ℕ → A) → ℕ → A
bind x v f y = if nat_eq x y then v else f y

-- the element of a list with a number, or d past its end
abbrev pub by_number : {A : Type 0} → A → List A → ℕ → A
by_number d xs k = slice_index_or xs k d

-- the environment in which a procedure starts: its parameters, and zeros
abbrev pub entry : List ℤ → List Window → Environment
entry values windows = record {
  scalars = by_number (pos 0) values;
  windows = by_number nowhere windows;
}

-- an environment that names the two sides of a split
abbrev pub with_sides : (left right : ℕ) → Window × Window → Environment → Environment
with_sides left right ws env = record env { windows = bind left ws.0 (bind right ws.1 env.windows) }

-- an environment in which a piece and the number of its turn have names
abbrev pub with_piece : (piece turn : ℕ) → Window → (number : ℕ) → Environment → Environment
with_piece piece turn w number env =
    record { scalars = bind turn (pos number) env.scalars; windows = bind piece w env.windows }

-- the number of places of a piece, which has at least one
abbrev pub piece_size : ℤ → Option ℕ
piece_size (pos zero) = None
piece_size (pos (suc n)) = Some (suc n)
piece_size (negsuc n) = None

-- an array and a procedure that replace those that a program doesn't have
abbrev pub no_array : Array
no_array = record { name = []; element = Int; length = 0 }

abbrev pub no_procedure : Procedure
no_procedure = record {
  name = [];
  section_names = [];
  parameters = [];
  scalars = 0;
  slots = 0;
  sections = [];
  body = End;
}

-- the array, and the procedure, with a number
abbrev pub array_of : Program → ℕ → Array
array_of p a = slice_index_or p.arrays a no_array

abbrev pub procedure_of : Program → ℕ → Procedure
procedure_of p f = slice_index_or p.procedures f no_procedure

-- what remains to be done: a block, the next iteration of a loop, or the turns of a `parts` from the
-- one with the number `next` on
pub data Work : Type 0 where
  Block : Codes → Work
  Turn : (label : ℕ) → (guard : Truth) → (body : Codes) → Work
  Pieces : (label section size next piece turn : ℕ) → (body : Codes) → Work

module _ {X : Type 0} where
  -- the budget is exceeded
  abbrev pub stopped : State X → State X
  stopped st = record st { flow = Stopped }

  -- continues if the flow is on
  abbrev pub at_flow : Flow → State X → (State X → State X) → State X
  at_flow On st go = go st
  at_flow Faulted st go = st
  at_flow Stopped st go = st

  abbrev pub go_on : (State X → State X) → State X → State X
  go_on go st = at_flow st.flow st go

  -- continues with one step less than n, or has exceeded the budget
  abbrev pub spend : (n : ℕ) → State X → (State X → State X) → State X
  spend zero st go = stopped st
  spend (suc n) st go = go (record st { steps = n })

  -- takes a step and continues
  abbrev pub with_step : (State X → State X) → State X → State X
  with_step go st = spend st.steps st go

  -- records a fault, and ends the statements up to the nearest finish
  abbrev pub fault : (label : ℕ) → FaultKind → State X → State X
  fault label kind st = record st {
    flow = Faulted;
    faults = st.faults ++ record { path = st.path; label = label; kind = kind } ∷ [];
  }

  -- continues with a value, or faults
  abbrev pub with_value : {A : Type 0} → (label : ℕ) → Valued A → (A → State X → State X)
      → State X → State X
  with_value label (Ok v) go st = go v st
  with_value label (Err f) go st = fault label f st

  -- values and windows in the state of a task
  abbrev pub number_at : State X → Number → Valued ℤ
  number_at st e = number st.environment (read st.store) e

  abbrev pub numbers_at : State X → List Number → Valued (List ℤ)
  numbers_at st es = numbers st.environment (read st.store) es

  abbrev pub truth_at : State X → Truth → Valued Bool
  truth_at st t = truth st.environment (read st.store) t

  abbrev pub window_at : State X → ℕ → Window
  window_at st s = st.environment.windows s

  -- changes one scalar
  abbrev pub assign : (slot : ℕ) → ℤ → State X → State X
  assign x v st = record st {
    environment = record st.environment { scalars = bind x v st.environment.scalars };
  }

  -- adds a line
  abbrev pub print : List ℤ → State X → State X
  print vs st = record st { lines = st.lines ++ vs ∷ [] }

  -- writes a number to a place if it fits in the element type, or faults
  abbrev pub put : (label : ℕ) → (fits : Bool) → Place → ℤ → State X → State X
  put label true q v st = record st { store = write q v st.store }
  put label false q v st = fault label OutOfElement st

  -- continues with one of two functions, depending on a condition
  abbrev pub choose : (State X → State X) → (State X → State X) → Bool → State X → State X
  choose body other true st = body st
  choose body other false st = other st

  -- at the start of a turn of a `parts` of s
  abbrev pub in_turn : (section size number piece turn : ℕ) → State X → State X
  in_turn s n k x i st = record st {
    environment = with_piece x i (piece_at n k (window_at st s)) k st.environment;
  }

  -- at the start of the handler of a finish, before which there were the faults `before`: the faults
  -- since then are dropped, and their number is in a slot
  abbrev pub caught : (slot : ℕ) → (before : List Fault) → State X → State X
  caught x before out = record (assign x (pos (length out.faults - length before)) out) {
    flow = On;
    faults = before;
  }

  -- continues with the handler of a finish if the finish ended with faults
  abbrev pub rescued_by : Flow → (slot : ℕ) → (handler : State X → State X) → (before : List Fault)
      → State X → State X
  rescued_by On x handler before out = out
  rescued_by Faulted x handler before out = handler (caught x before out)
  rescued_by Stopped x handler before out = out

  abbrev pub rescued : (slot : ℕ) → (handler : State X → State X) → (before : List Fault) → State X
      → State X
  rescued x handler before out = rescued_by out.flow x handler before out

  -- continues in another environment, and then restores its own
  abbrev pub in_environment : Environment → (State X → State X) → State X → State X
  in_environment env go st =
      let out = go (record st { environment = env }) in
      record out { environment = st.environment }

-- what a kind of run does if it isn't alone, at the statement with a label
pub record Rules (X : Type 0) : Type 0 where
  -- a step was taken, other than that of an async or a finish; one thread records nothing, a task's
  -- own run records it in `extra` among its actions
  pub stepped : (label : ℕ) → X → X
  -- an async with its body, whose step was already taken
  pub begin : (label : ℕ) → Codes → State X → State X
  -- the start of a finish, whose step was already taken
  pub enter : (label : ℕ) → State X → State X
  -- the end of a finish that started at `before`
  pub leave : (before : State X) → State X → State X

module _ (p : Program) {X : Type 0} where
  -- a statement of one step, whose step was already taken
  abbrev pub primitive : (label : ℕ) → Primitive → State X → State X
  primitive l Skip st = st
  primitive l (Assign x e) st = with_value l (number_at st e) (assign x) st
  primitive l (Store s i e) st =
      with_value l (number_at st i) (λ at.
      with_value l (number_at st e) (λ v.
      with_value l (element_of (window_at st s) at) (λ q.
      put l (holds_number (array_of p q.array).element v) q v))) st
  primitive l (Print es) st = with_value l (numbers_at st es) print st
  primitive l (Raise e) st = with_value l (number_at st e) (λ v. fault l (Raised v)) st

module _ {X : Type 0} (r : Rules X) where
  -- informs the rules of the step of a statement, unless they see it anyway
  abbrev pub counted : (label : ℕ) → Code → State X → State X
  counted l (Async b) st = st
  counted l (Finish b) st = st
  counted l (Rescue b x c) st = st
  counted l s st = record st { extra = r.stepped l st.extra }

module _ (p : Program) {X : Type 0} (r : Rules X) where
  abbrev mutual
    -- a statement whose step was already taken; `deeper` executes calls, further iterations of a loop
    -- and further turns of a `parts`
    pub act : (deeper : Work → State X → State X) → (label : ℕ) → Code → State X → State X
    act deeper l (Do s) st = primitive p l s st
    act deeper l (If t b c) st =
        with_value l (truth_at st t) (choose (block deeper b) (block deeper c)) st
    act deeper l (While t b) st =
        with_value l (truth_at st t)
        (choose (λ s. go_on (deeper (Turn l t b)) (block deeper b s)) (λ s. s)) st
    act deeper l (Split s e x y b) st =
        with_value l (number_at st e) (λ v.
        with_value l (ok_or (sides_of (window_at st s) v) SplitPoint) (λ ws.
        λ st. block deeper b (record st { environment = with_sides x y ws st.environment }))) st
    act deeper l (Parts s e x i b) st =
        with_value l (number_at st e) (λ v.
        with_value l (ok_or (piece_size v) PieceSize) (λ n. deeper (Pieces l s n 0 x i b))) st
    act deeper l (Begun s n k x i b) st =
        go_on (deeper (Pieces l s n (k + 1) x i b))
        (block deeper b (in_turn s n k x i st))
    act deeper l (Call f es ss) st =
        with_value l (numbers_at st es) (λ vs.
        in_environment (entry vs (map (window_at st) ss))
        (deeper (Block (procedure_of p f).body))) st
    act deeper l (Async b) st = r.begin l b st
    act deeper l (Finish b) st = r.leave st (block deeper b (r.enter l st))
    act deeper l (Rescue b x c) st =
        rescued x (block deeper c) st.faults (r.leave st (block deeper b (r.enter l st)))

    -- a list of statements
    pub block : (deeper : Work → State X → State X) → Codes → State X → State X
    block deeper End st = st
    block deeper (Then l s rest) st =
        go_on (block deeper rest) (with_step (λ st. act deeper l s (counted r l s st)) st)

  -- executes work, where `deeper` executes what is inside its calls and further iterations
  abbrev pub work : (deeper : Work → State X → State X) → Work → State X → State X
  work deeper (Block b) st = block deeper b st
  work deeper (Turn l t b) st =
      with_step (λ st. act deeper l (While t b) (counted r l (While t b) st)) st
  work deeper (Pieces l s n k x i b) st =
      choose (with_step (λ st. act deeper l (Begun s n k x i b) (counted r l (Begun s n k x i b) st)))
      (λ st. st) (has_piece (window_at st s) n k) st

  -- at most k nested calls, iterations and turns
  abbrev pub within : ℕ → Work → State X → State X
  within zero w st = stopped st
  within (suc k) w st = work (within k) w st

  -- each call, each iteration and each turn takes a step
  abbrev pub run : Work → State X → State X
  run w st = within (st.steps + 1) w st
