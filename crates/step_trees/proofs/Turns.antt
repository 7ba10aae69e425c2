-- The result of one step of a leaf.
use Rattle.std.proofs.Common.{◌≡◌, ℕ, ◌+◌, List, [], ◌∷◌, ◌++◌, refl, sym, ap, ◌∙◌, subst, Option, Some, None, Result, Ok, Err}
use Rattle.std.proofs.lemmas.Option.{same_Some}
use Rattle.std.specs.Prelude.{IfOk, Bool, true, false, if◌then◌else◌}
use Rattle.std.specs.declared.alloc.AllocError.{AllocError}
use Rattle.sections.specs.Place.{Window, has_piece, piece_at, piece_of}
use Rattle.types.specs.Code.{Code, Codes, Primitive, Program, Do, Then}
use Rattle.types.specs.Contents.{Contents, read}
use Rattle.types.specs.Run.{Flow, On, Faulted, Stopped, State, primitive}
use Rattle.types.specs.Trees.{Leaf, Handler, Tree, Single, Beside, and_then, single, done, child, parent, inside, held_back, returned}
use Rattle.types.specs.TreeSteps.{as_state, by_flow, with_state, tree_after, store_after, leaf_step}
use Rattle.statement_steps.specs.declared.store.Store.{Store}
use Rattle.statement_steps.specs.declared.thread.Thread.{Thread}
use Rattle.statement_steps.specs.Lists.{lengths_of}
use Rattle.statement_steps.specs.Standing.{flow, state_of}
use Rattle.step_trees.specs.declared.turn.Becomes.{Becomes}
use Rattle.step_trees.specs.declared.turn.LeafTurn.{LeafTurn}
use Rattle.step_trees.specs.Turns.{leaf_at, leaf_in, store_in, Comes, After, IsReady}
use Rattle.step_trees.proofs.Deeds.{Deed, Nothing, Assigns, Writes, Prints, Fails, deed, did, primitive-did}

abbrev pub some_of : Tree → Contents → Option (Tree × Contents)
some_of t a = Some (t, a)

pub same_pair : {t u : Tree} {a b : Contents} → t ≡ u → a ≡ b → some_of t a ≡ some_of u b
same_pair {u = u} {a = a} e f = ap (λ x. some_of x a) e ∙ ap (some_of u) f

-- the step of a leaf that has a statement left
pub step_here : (p : Program) (c : Codes) (k : Leaf) (a : Contents) {l : ℕ} {s : Code} {rest : Codes} → c ≡ Then l s rest
    → leaf_step p c k a
    ≡ Some (tree_after p l s (record k { rest = rest }) a, store_after p l s (record k { rest = rest }) a)
step_here p c k a e = ap (λ c. leaf_step p c k a) e

-- the result of one turn is the result of another one, if their stores have equal lengths, and
-- trees and contents are equal
pub comes_as : (turn new : LeafTurn) {t u : Tree} {a b : Contents} (r : Result (Becomes × Store) AllocError)
    → t ≡ u → a ≡ b → lengths_of new.thread.store ≡ lengths_of turn.thread.store
    → IfOk r (Comes t a new) → IfOk r (Comes u b turn)
comes_as turn new (Ok x) e f g c = record { tree = c.tree ∙ e; store = c.store ∙ f; lengths = c.lengths ∙ g }
comes_as turn new (Err x) e f g c = c

-- the state of the thread is that of the leaf
pub state_in : (turn : LeafTurn) → IsReady turn → state_of turn.thread ≡ as_state (leaf_in turn) (store_in turn)
state_in turn ready =
    ap (λ (f : Flow). let st : State (Unit {0}) = record (state_of turn.thread) { flow = f } in st) (ap flow ready.on)
    ∙ ap (λ (n : ℕ). let st : State (Unit {0}) = record (state_of turn.thread) { flow = On; steps = n } in st) ready.uncounted

-- a statement of one step keeps the task's name
did_name : (l : ℕ) (d : Deed) (st : State (Unit {0}))
    → ((did l d st).path ≡ st.path) × ((did l d st).spawned ≡ st.spawned)
did_name l Nothing st = (refl, refl)
did_name l (Assigns x v) st = (refl, refl)
did_name l (Writes q v) st = (refl, refl)
did_name l (Prints vs) st = (refl, refl)
did_name l (Fails f) st = (refl, refl)

module _ (p : Program) (l : ℕ) (s : Primitive) (st : State (Unit {0})) where
  primitive_path : (primitive p l s st).path ≡ st.path
  primitive_path =
      ap (λ (x : State (Unit {0})). x.path) (primitive-did p l s st)
      ∙ (did_name l (deed p st.environment (read st.store) s) st).0

  primitive_spawned : (primitive p l s st).spawned ≡ st.spawned
  primitive_spawned =
      ap (λ (x : State (Unit {0})). x.spawned) (primitive-did p l s st)
      ∙ (did_name l (deed p st.environment (read st.store) s) st).1

-- the leaf with the environment and the output of a state
abbrev told_at : Leaf → State (Unit {0}) → Leaf
told_at k st = record k { environment = st.environment; lines = st.lines; faults = st.faults }

same_leaf : (k : Leaf) (st : State (Unit {0})) → st.path ≡ k.path → st.spawned ≡ k.spawned
    → leaf_at st k.rest k.callers ≡ told_at k st
same_leaf k st e f =
    ap (λ (q : List ℕ). let j : Leaf = record (told_at k st) { path = q; spawned = st.spawned } in j) e
    ∙ ap (λ (n : ℕ). let j : Leaf = record (told_at k st) { spawned = n } in j) f

-- after a statement of one step the leaf continues or is done
module _ (p : Program) (l : ℕ) (s : Primitive) (turn : LeafTurn) (ready : IsReady turn) (new : Thread Store)
    (is : state_of new ≡ primitive p l s (state_of turn.thread)) where
  abbrev here : Leaf
  here = leaf_in turn

  comes_to : state_of new ≡ primitive p l s (as_state here (store_in turn))
  comes_to = is ∙ ap (primitive p l s) (state_in turn ready)

  stays : leaf_at (state_of new) here.rest here.callers ≡ told_at here (state_of new)
  stays =
      same_leaf here (state_of new)
      (ap (λ (x : State (Unit {0})). x.path) is ∙ primitive_path p l s (state_of turn.thread))
      (ap (λ (x : State (Unit {0})). x.spawned) is ∙ primitive_spawned p l s (state_of turn.thread))

  pub on-tree : (state_of new).flow ≡ On
      → single (leaf_at (state_of new) here.rest here.callers) ≡ tree_after p l (Do s) here (store_in turn)
  on-tree on =
      ap single stays ∙ ap (λ f. by_flow f (told_at here (state_of new))) (sym on) ∙ ap (with_state here) comes_to

  pub faulted-tree : (state_of new).flow ≡ Faulted
      → Single (done (leaf_at (state_of new) here.rest here.callers)) ≡ tree_after p l (Do s) here (store_in turn)
  faulted-tree off =
      ap (λ k. Single (done k)) stays ∙ ap (λ f. by_flow f (told_at here (state_of new))) (sym off) ∙ ap (with_state here) comes_to

  pub stopped-tree : (state_of new).flow ≡ Stopped
      → Single (done (leaf_at (state_of new) here.rest here.callers)) ≡ tree_after p l (Do s) here (store_in turn)
  stopped-tree off =
      ap (λ k. Single (done k)) stays ∙ ap (λ f. by_flow f (told_at here (state_of new))) (sym off) ∙ ap (with_state here) comes_to

  pub store-after : (state_of new).store ≡ store_after p l (Do s) here (store_in turn)
  store-after = ap (λ (x : State (Unit {0})). x.store) comes_to

-- the body of an async in parallel with its parent, given equal parts of the leaf
pub spawned_tree : (b : Codes) (k j : Leaf) (path : List ℕ) (n : ℕ) (x a y : Leaf) → j ≡ k → path ≡ k.path ++ n ∷ [] → n ≡ k.spawned + 1
    → x ≡ returned (record (inside b j) { path = path; spawned = 0 }) → a ≡ held_back j → y ≡ returned (record a { spawned = n })
    → Beside (Single x) (Single y) ≡ Beside (single (child b k)) (single (parent k))
spawned_tree b k j path n x a y same path_is n_is x_is a_is y_is =
    let path_too : path ≡ k.path ++ (k.spawned + 1) ∷ [] = path_is ∙ ap (λ (m : ℕ). k.path ++ m ∷ []) n_is in
    let child_is : returned (record (inside b j) { path = path; spawned = 0 }) ≡ returned (child b k) = cc in
    let parent_is : returned (record (held_back j) { spawned = n }) ≡ returned (parent k) = cc in
    ap (λ (i : Leaf). Beside (Single i) (Single y)) (x_is ∙ child_is)
    ∙ ap (λ (i : Leaf). Beside (single (child b k)) (Single i))
    (y_is ∙ ap (λ (q : Leaf). returned (record q { spawned = n })) a_is ∙ parent_is)

-- the body of a finish, and the leaf that waits for its end
pub entered_tree : (b : Codes) (h : Handler) (k j : Leaf) (path : List ℕ) (n : ℕ) (x a : Leaf) → j ≡ k → path ≡ k.path
    → n ≡ k.spawned → x ≡ returned (record (inside b j) { path = path; spawned = n }) → a ≡ held_back j
    → and_then (Single x) h a ≡ and_then (single (inside b k)) h (held_back k)
entered_tree b h k j path n x a same path_is n_is x_is a_is =
    let body_is : returned (record (inside b j) { path = path; spawned = n }) ≡ returned (inside b k) = cc in
    ap (λ (i : Leaf). and_then (Single i) h a) (x_is ∙ body_is)
    ∙ ap (and_then (single (inside b k)) h) (a_is ∙ ap held_back same)

-- whether a turn is left, by its piece
pub has_none : (w : Window) (n k : ℕ) → piece_of w n k ≡ None → has_piece w n k ≡ false
has_none w n k h = by (has_piece w n k) h
  where
    by : (b : Bool) → if◌then◌else◌ {A = Option Window} b (Some (piece_at n k w)) None ≡ None → b ≡ false
    by true e = cc
    by false e = refl

pub has_some : (w : Window) (n k : ℕ) (v : Window) → piece_of w n k ≡ Some v → (has_piece w n k ≡ true) × (v ≡ piece_at n k w)
has_some w n k v h = by (has_piece w n k) h
  where
    by : (b : Bool) → if◌then◌else◌ {A = Option Window} b (Some (piece_at n k w)) None ≡ Some v
        → (b ≡ true) × (v ≡ piece_at n k w)
    by true e = (refl, sym (same_Some _ _ e))
    by false e = cc

-- a leaf with the turns to come of a `parts` before what remains, if one is left
pub with_turns-leaf : (left : Bool) (k : Leaf) (rest : Codes)
    → ◌≡◌ {A = Leaf} (record k { rest = if left then rest else k.rest }) (if left then record k { rest = rest } else k)
with_turns-leaf true k rest = refl
with_turns-leaf false k rest = refl

-- the result for an equal statement
pub after_as : (turn : LeafTurn) (l : ℕ) {s d : Code} (r : Result (Becomes × Store) AllocError) → s ≡ d
    → IfOk r (After turn l s) → IfOk r (After turn l d)
after_as turn l r is h = subst (λ (s : Code). IfOk r (After turn l s)) is h
