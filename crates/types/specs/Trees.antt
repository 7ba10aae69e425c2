-- Step trees: all tasks of a program over one shared store, without a budget.
use Rattle.std.specs.Prelude.{ℕ, ◌+◌, List, [], ◌∷◌, ◌++◌, length, Bool, true, false, ◌&&◌, ℤ, pos}
use Rattle.std.specs.Prelude.{if◌then◌else◌}
use Rattle.types.specs.declared.fault.FaultKind.{FaultKind}
use Rattle.types.specs.Code.{Codes, End, Then, Procedure}
use Rattle.types.specs.Value.{Environment}
use Rattle.types.specs.Run.{Fault, bind}

-- what waits for a call to end: the caller's environment and the statements after the call
pub record Caller : Type 0 where
  pub environment : Environment
  pub rest : Codes

-- the state of a task: its remaining statements with their environments, its name, the number of
-- children that it spawned, and its output; it is done if no statement is left
pub record Leaf : Type 0 where
  pub environment : Environment
  pub rest : Codes
  -- the calls that the task is in, the innermost one first
  pub callers : List Caller
  pub path : List ℕ
  pub spawned : ℕ
  pub lines : List (List ℤ)
  pub faults : List Fault

-- what a leaf does with the faults of the finish that it waits for: nothing, or a handler, in which
-- the scalar in the slot is their number
pub data Handler : Type 0 where
  NoHandler : Handler
  HandledBy : (faults : ℕ) → (handler : Codes) → Handler

-- a leaf, `t then <k>` or `t par u`
pub data Tree : Type 0 where
  Single : Leaf → Tree
  AndThen : Tree → Handler → Leaf → Tree
  Beside : (left right : Tree) → Tree

-- one list of statements before another
abbrev pub append : Codes → Codes → Codes
append End more = more
append (Then l s rest) more = Then l s (append rest more)

-- whether no statement is left
abbrev pub is_done : Codes → Bool
is_done End = true
is_done (Then l s rest) = false

-- Of a leaf

-- returns to the innermost call after which statements are left
abbrev pub return_to : List Caller → Leaf → Leaf
return_to [] k = record k { rest = End; callers = [] }
return_to (f ∷ fs) k = elim f.rest [
  | End ↦ return_to fs (record k { environment = f.environment })
  | Then l s rest ↦ record k { environment = f.environment; rest = Then l s rest; callers = fs }
]

-- at the end of a call's body a leaf returns to its caller
abbrev pub returned_by : Codes → Leaf → Leaf
returned_by End k = return_to k.callers k
returned_by (Then l s rest) k = k

-- a leaf whose next statement, if any is left, comes first
abbrev pub returned : Leaf → Leaf
returned k = returned_by k.rest k

-- the tree of one leaf
abbrev pub single : Leaf → Tree
single k = Single (returned k)

-- the environment outside of all calls
abbrev pub outermost : List Caller → Environment → Environment
outermost [] env = env
outermost (f ∷ fs) env = outermost fs f.environment

-- the environment of a leaf outside of all calls
abbrev pub task_environment : Leaf → Environment
task_environment k = outermost k.callers k.environment

-- a leaf that drops its remaining statements
abbrev pub done : Leaf → Leaf
done k = record k { environment = task_environment k; rest = End; callers = [] }

-- a fault makes its leaf done
abbrev pub failed : (label : ℕ) → FaultKind → Leaf → Leaf
failed label f k = done (record k {
  faults = k.faults ++ record { path = k.path; label = label; kind = f } ∷ [];
})

-- a leaf that first does a block
abbrev pub before_rest : Codes → Leaf → Leaf
before_rest b k = record k { rest = append b k.rest }

-- a leaf that starts a call
abbrev pub called : Procedure → Environment → Leaf → Leaf
called f env k = record k {
  environment = env;
  rest = f.body;
  callers = record { environment = k.environment; rest = k.rest } ∷ k.callers;
}

-- the next child with its body; it takes the output so far
abbrev pub child : Codes → Leaf → Leaf
child b k = record k {
  rest = b;
  callers = [];
  path = k.path ++ (k.spawned + 1) ∷ [];
  spawned = 0;
}

-- the leaf after the async; it starts without output
abbrev pub parent : Leaf → Leaf
parent k = record k { spawned = k.spawned + 1; lines = []; faults = [] }

-- the body of a finish at its start; it takes the output so far and the number of children
abbrev pub inside : Codes → Leaf → Leaf
inside b k = record k { rest = b; callers = [] }

-- the leaf that waits for its end; it has no output
abbrev pub held_back : Leaf → Leaf
held_back k = record k { lines = []; faults = [] }

-- Of a tree

-- whether all leaves are done
abbrev pub all_done : Tree → Bool
all_done (Single k) = is_done k.rest
all_done (AndThen t h k) = false
all_done (Beside t u) = all_done t && all_done u

-- the lines of its leaves, from left to right
abbrev pub lines_of : Tree → List (List ℤ)
lines_of (Single k) = k.lines
lines_of (AndThen t h k) = lines_of t
lines_of (Beside t u) = lines_of t ++ lines_of u

-- the faults of its leaves, from left to right
abbrev pub faults_of : Tree → List Fault
faults_of (Single k) = k.faults
faults_of (AndThen t h k) = faults_of t
faults_of (Beside t u) = faults_of t ++ faults_of u

-- the tree's owner: the leaf of the task that spawned the others
abbrev pub rightmost : Tree → Leaf
rightmost (Single k) = k
rightmost (AndThen t h k) = k
rightmost (Beside t u) = rightmost u

-- the owner's environment
abbrev pub owner_environment : Tree → Environment
owner_environment t = task_environment (rightmost t)

-- a leaf continues if there are no faults, otherwise it is done
abbrev pub unless_faulted : List Fault → Leaf → Leaf
unless_faulted [] k = returned k
unless_faulted (f ∷ fs) k = done k

-- a leaf that first handles its faults, which are dropped
abbrev pub handling : (faults : ℕ) → (handler : Codes) → Leaf → Leaf
handling x c k = before_rest c (record k {
  environment = record k.environment {
    scalars = bind x (pos (length k.faults)) k.environment.scalars;
  };
  faults = [];
})

-- a leaf continues if there are no faults, otherwise it handles them
abbrev pub rescued_from : List Fault → (faults : ℕ) → (handler : Codes) → Leaf → Leaf
rescued_from [] x c k = returned k
rescued_from (f ∷ fs) x c k = returned (handling x c k)

abbrev pub after_faults : Handler → List Fault → Leaf → Leaf
after_faults NoHandler fs k = unless_faulted fs k
after_faults (HandledBy x c) fs k = rescued_from fs x c k

-- what `t then <k>` becomes once all leaves of t are done
abbrev pub closed : Tree → Handler → Leaf → Leaf
closed t h k = after_faults h (faults_of t) (record k {
  environment = owner_environment t;
  spawned = (rightmost t).spawned;
  lines = lines_of t;
  faults = faults_of t;
})

-- `t then <k>`, or what it becomes at once
abbrev pub and_then : Tree → Handler → Leaf → Tree
and_then t h k = if all_done t then Single (closed t h k) else AndThen t h k

-- the number of leaves that can step: those that aren't done, and no `<k>` after a `then`
abbrev pub ready : Tree → ℕ
ready (Single k) = if is_done k.rest then 0 else 1
ready (AndThen t h k) = ready t
ready (Beside t u) = ready t + ready u
