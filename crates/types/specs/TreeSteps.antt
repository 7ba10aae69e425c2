-- One step of a step tree: one step of one of its leaves.
use Rattle.std.specs.Prelude.{ℕ, ◌+◌, ◌-◌, [], map, ℤ, Ok, Err, ok_or, nat_eq, nat_lt}
use Rattle.std.specs.Prelude.{Option, Some, None, if◌then◌else◌}
use Rattle.sections.specs.Place.{Window, sides_of, has_piece, piece_at}
use Rattle.types.specs.declared.fault.FaultKind.TheVariants.{SplitPoint, PieceSize}
use Rattle.types.specs.Code.{Code, Do, If, While, Split, Parts, Begun, Call, Async, Finish, Rescue, Codes}
use Rattle.types.specs.Code.{End, Then, Program}
use Rattle.types.specs.Contents.{Contents, read}
use Rattle.types.specs.Value.{Valued, then_try, number, numbers, truth}
use Rattle.types.specs.Run.{Flow, On, Faulted, Stopped, State, entry, with_sides, with_piece, piece_size}
use Rattle.types.specs.Run.{procedure_of, primitive}
use Rattle.types.specs.Outcome.{whole_arrays}
use Rattle.types.specs.Trees.{Leaf, Tree, Single, AndThen, Beside, NoHandler, HandledBy, single, done, failed}
use Rattle.types.specs.Trees.{before_rest, called, child, parent, inside, held_back, and_then, ready}

-- continues with a value, or is done with its fault
abbrev pub on_value : {A : Type 0} → (label : ℕ) → Leaf → Valued A → (A → Tree) → Tree
on_value label k (Ok v) go = go v
on_value label k (Err f) go = Single (failed label f k)

-- a leaf as a task over the store
abbrev pub as_state : Leaf → Contents → State (Unit {0})
as_state k a = record {
  flow = On;
  environment = k.environment;
  store = a;
  lines = k.lines;
  faults = k.faults;
  steps = 0;
  path = k.path;
  spawned = k.spawned;
  extra = tt;
}

-- a leaf whose task has this flow
abbrev pub by_flow : Flow → Leaf → Tree
by_flow On k = single k
by_flow Faulted k = Single (done k)
by_flow Stopped k = Single (done k)

-- a leaf in this state
abbrev pub with_state : Leaf → State (Unit {0}) → Tree
with_state k st = by_flow st.flow (record k {
  environment = st.environment;
  lines = st.lines;
  faults = st.faults;
})

-- both sides of a section, split at a number
abbrev pub sides_at : Leaf → ℕ → Valued ℤ → Valued (Window × Window)
sides_at k s r = then_try r (λ v. ok_or (sides_of (k.environment.windows s) v) SplitPoint)

-- the number of places of each piece
abbrev pub size_by : Valued ℤ → Valued ℕ
size_by r = then_try r (λ v. ok_or (piece_size v) PieceSize)

-- a leaf that first does the turns of a `parts` from the one with the number `next` on; if none is
-- left, nothing remains of the `parts`
abbrev pub before_turns : (label section size next piece turn : ℕ) → Codes → Leaf → Leaf
before_turns l s n k x i b leaf =
    if has_piece (leaf.environment.windows s) n k
    then record leaf { rest = Then l (Begun s n k x i b) leaf.rest } else leaf

-- a leaf in a turn of a `parts`
abbrev pub in_piece : (section size number piece turn : ℕ) → Leaf → Leaf
in_piece s n k x i leaf = record leaf {
  environment =
      with_piece x i (piece_at n k (leaf.environment.windows s)) k leaf.environment;
}

module _ (p : Program) where
  -- what a leaf becomes in one step of a statement; the statements after it remain in `k`
  abbrev pub tree_after : (label : ℕ) → Code → Leaf → Contents → Tree
  tree_after l (Do s) k a = with_state k (primitive p l s (as_state k a))
  tree_after l (If t b c) k a =
      on_value l k (truth k.environment (read a) t) (λ v.
      single (before_rest (if v then b else c) k))
  tree_after l (While t b) k a =
      on_value l k (truth k.environment (read a) t) (λ v.
      single (if v then before_rest b (before_rest (Then l (While t b) End) k) else k))
  tree_after l (Split s e x y b) k a =
      on_value l k (sides_at k s (number k.environment (read a) e)) (λ ws.
      single (before_rest b (record k { environment = with_sides x y ws k.environment })))
  tree_after l (Parts s e x i b) k a =
      on_value l k (size_by (number k.environment (read a) e)) (λ n.
      single (before_turns l s n 0 x i b k))
  tree_after l (Begun s n m x i b) k a =
      single (if has_piece (k.environment.windows s) n m
      then before_rest b (in_piece s n m x i (before_turns l s n (m + 1) x i b k)) else k)
  tree_after l (Call f es ss) k a =
      on_value l k (numbers k.environment (read a) es) (λ vs.
      single (called (procedure_of p f) (entry vs (map k.environment.windows ss)) k))
  tree_after l (Async b) k a = Beside (single (child b k)) (single (parent k))
  tree_after l (Finish b) k a = and_then (single (inside b k)) NoHandler (held_back k)
  tree_after l (Rescue b x c) k a = and_then (single (inside b k)) (HandledBy x c) (held_back k)

  -- what the store becomes
  abbrev pub store_after : (label : ℕ) → Code → Leaf → Contents → Contents
  store_after l (Do s) k a = (primitive p l s (as_state k a)).store
  store_after l (If t b c) k a = a
  store_after l (While t b) k a = a
  store_after l (Split s e x y b) k a = a
  store_after l (Parts s e x i b) k a = a
  store_after l (Begun s n m x i b) k a = a
  store_after l (Call f es ss) k a = a
  store_after l (Async b) k a = a
  store_after l (Finish b) k a = a
  store_after l (Rescue b x c) k a = a

  -- one step of a leaf with these remaining statements
  abbrev pub leaf_step : Codes → Leaf → Contents → Option (Tree × Contents)
  leaf_step End k a = None
  leaf_step (Then l s rest) k a =
      let j = record k { rest = rest } in Some (tree_after l s j a, store_after l s j a)

-- a step inside a tree
abbrev pub in_tree : (Tree → Tree) → Option (Tree × Contents) → Option (Tree × Contents)
in_tree f None = None
in_tree f (Some ta) = Some (f ta.0, ta.1)

module _ (p : Program) where
  -- one step of the n-th leaf that can step, numbered from 0 and from the left
  abbrev pub step : ℕ → Tree → Contents → Option (Tree × Contents)
  step n (Single k) a = if nat_eq n 0 then leaf_step p k.rest k a else None
  step n (AndThen t h k) a = in_tree (λ u. and_then u h k) (step n t a)
  step n (Beside t v) a =
      if nat_lt n (ready t) then in_tree (λ u. Beside u v) (step n t a)
      else in_tree (λ u. Beside t u) (step (n - ready t) v a)

-- a leaf that can step
abbrev pub unless_done : Codes → Leaf → Option Leaf
unless_done End k = None
unless_done (Then l s rest) k = Some k

-- the n-th leaf that can step
abbrev pub leaf_at : ℕ → Tree → Option Leaf
leaf_at n (Single k) = if nat_eq n 0 then unless_done k.rest k else None
leaf_at n (AndThen t h k) = leaf_at n t
leaf_at n (Beside t v) = if nat_lt n (ready t) then leaf_at n t else leaf_at (n - ready t) v

-- `main` at its start
abbrev pub first_leaf : Program → Leaf
first_leaf p = record {
  environment = entry [] (whole_arrays 0 p.arrays);
  rest = p.main.body;
  callers = [];
  path = [];
  spawned = 0;
  lines = [];
  faults = [];
}

-- `<main>`
abbrev pub first_tree : Program → Tree
first_tree p = single (first_leaf p)
