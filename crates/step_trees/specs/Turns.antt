-- One step of a leaf, as the definitions see it.
use Rattle.std.specs.Prelude.{ℕ, ◌≡◌, ⊤, Some, List, ◌∷◌}
use Rattle.types.specs.Code.{Code, Codes, While, Then, End}
use Rattle.types.specs.Contents.{Contents, FitsArrays}
use Rattle.types.specs.Run.{State, Flow}
use Rattle.types.specs.Translation.{program, environment}
use Rattle.types.specs.Trees.{Caller, Leaf, Tree, Single, Beside, and_then, before_rest, single}
use Rattle.types.specs.TreeSteps.{before_turns, by_flow, tree_after, store_after, leaf_step}
use Rattle.statement_steps.specs.declared.store.Store.{Store}
use Rattle.statement_steps.specs.declared.flow.Flow.TheVariants.{On}
use Rattle.statement_steps.specs.declared.thread.Plan.{Plan}
use Rattle.statement_steps.specs.Bounds.{LiesInArrays, IsInBounds}
use Rattle.statement_steps.specs.Leading.{Next, Nothing, Inside, Iteration, Turns, Body}
use Rattle.statement_steps.specs.Lists.{lists_of, contents_of, lengths_of}
use Rattle.statement_steps.specs.Standing.{state_of}
use Rattle.step_trees.specs.declared.leaf.Leaf.{Leaf as rLeaf}
use Rattle.step_trees.specs.declared.turn.Becomes.{Becomes}
use Rattle.step_trees.specs.declared.turn.Becomes.TheVariants.{Single as rSingle, Spawned, Entered}
use Rattle.step_trees.specs.declared.turn.LeafTurn.{LeafTurn}
use Rattle.step_trees.specs.Translation.{blocks, callers, leaf_of, handler_of}

-- a task in a state, with the remaining statements and callers
abbrev pub leaf_at : State (Unit {0}) → Codes → List Caller → Leaf
leaf_at st rest fs = record {
  environment = st.environment;
  rest = rest;
  callers = fs;
  path = st.path;
  spawned = st.spawned;
  lines = st.lines;
  faults = st.faults;
}

-- the leaf of a turn
abbrev pub leaf_in : LeafTurn → Leaf
leaf_in t = leaf_at (state_of t.thread) (blocks t.rest.items) (callers t.callers.items)

-- and its store
abbrev pub store_in : LeafTurn → Contents
store_in t = contents_of t.thread.store

-- the tree that a leaf becomes
abbrev pub becomes : Becomes → Tree
becomes (rSingle k) = Single (leaf_of k)
becomes (Spawned child parent) = Beside (Single (leaf_of child)) (Single (leaf_of parent))
becomes (Entered body w) = and_then (Single (leaf_of body)) (handler_of w.handler) (leaf_of w.leaf)

-- a turn gives a tree and a store, and the arrays keep their lengths
pub record Comes (t : Tree) (a : Contents) (turn : LeafTurn) (r : Becomes × Store) : Type 0 where
  pub tree : becomes r.0 ≡ t
  pub store : contents_of r.1 ≡ a
  pub lengths : lengths_of r.1 ≡ lengths_of turn.thread.store

-- what a leaf becomes by what comes next after a statement, if its task has this flow
abbrev pub becomes_by : Next → Flow → Leaf → Tree
becomes_by Nothing f k = by_flow f k
becomes_by (Inside b) f k = single (before_rest b k)
becomes_by (Iteration l t b) f k = single (before_rest b (before_rest (Then l (While t b) End) k))
becomes_by (Turns l s n m x i b) f k = single (before_turns l s n m x i b k)
becomes_by (Body b env) f k = single (record k {
  rest = b;
  callers = record { environment = env; rest = k.rest } ∷ k.callers;
})

-- if a loop comes next, it is this statement
abbrev pub IsLoopOf : (label : ℕ) → Code → Next → Type 0
IsLoopOf l s (Iteration m t b) = (l ≡ m) × (s ≡ While t b)
IsLoopOf l s Nothing = ⊤
IsLoopOf l s (Inside b) = ⊤
IsLoopOf l s (Turns m sec n k x i b) = ⊤
IsLoopOf l s (Body b env) = ⊤

-- the result of executing a statement
abbrev pub After : LeafTurn → (label : ℕ) → Code → Becomes × Store → Type 0
After turn l s =
    let p = program turn.plan.program.now in
    Comes (tree_after p l s (leaf_in turn) (store_in turn))
    (store_after p l s (leaf_in turn) (store_in turn)) turn

-- the flow is on, steps aren't counted, and all windows lie in their arrays
pub record IsReady (turn : LeafTurn) : Type 0 where
  pub on : turn.thread.flow ≡ On
  pub uncounted : turn.thread.steps ≡ 0
  pub bounds : IsInBounds (program turn.plan.program.now) turn.thread

-- there is a number for each element of each array, and the leaf's windows lie in the arrays
pub record MayTurn (plan : Plan) (a : Store) (k : rLeaf) : Type 0 where
  pub store : FitsArrays (program plan.program.now).arrays (lists_of a)
  pub windows : LiesInArrays (program plan.program.now) (environment k.environment)

-- the step of a leaf, with the store, which keeps the lengths of its arrays
pub record Steps (plan : Plan) (a : Store) (k : rLeaf) (r : Becomes × Store) : Type 0 where
  pub step : leaf_step (program plan.program.now) (leaf_of k).rest (leaf_of k) (contents_of a)
      ≡ Some (becomes r.0, contents_of r.1)
  pub lengths : lengths_of r.1 ≡ lengths_of a
