-- Windows of trees stay in their arrays.
use Rattle.std.proofs.Common.{◌≡◌, ℕ, ◌+◌, List, [], ◌∷◌, Ok, Err, Option, None, Some, refl, sym, ap, ◌∙◌, subst}
use Rattle.std.specs.Prelude.{Bool, true, false, map, if◌then◌else◌}
use Rattle.sections.specs.Place.{Window, has_piece, piece_at, piece_of}
use Rattle.types.specs.Code.{Code, Do, If, While, Split, Parts, Begun, Call, Async, Finish, Rescue, Codes, End, Then, Program}
use Rattle.types.specs.Contents.{Contents, read, held_by}
use Rattle.types.specs.Value.{Environment, Valued, number, numbers, truth}
use Rattle.types.specs.Run.{Flow, On, Faulted, Stopped, Fault, State, primitive, with_sides, entry, procedure_of}
use Rattle.types.specs.Trees.{Caller, Leaf, Handler, NoHandler, HandledBy, Tree, Single, AndThen, Beside, append, single, returned_by, return_to, done, outermost, rightmost, owner_environment, all_done, faults_of, unless_faulted, handling, rescued_from, after_faults, closed, and_then, before_rest, called, child, parent, inside, held_back}
use Rattle.types.specs.TreeSteps.{on_value, as_state, by_flow, with_state, sides_at, size_by, before_turns, in_piece, tree_after, step, first_leaf, first_tree, leaf_at}
use Rattle.statement_steps.specs.Bounds.{LiesInArray, LiesInArrays}
use Rattle.statement_steps.proofs.BoundsLemmas.{halves_lie, with_sides_lies, piece_lies, with_piece_lies, entry_lies, main_lies}
use Rattle.step_trees.proofs.Deeds.{primitive_windows}
use Rattle.step_trees.specs.Windows.{CallersLie, LeafLies, TreeLies}
use Rattle.step_trees.proofs.Steps.{Step, step_from, step_at, continuing}

module _ (p : Program) where
  -- the leaf after a return from calls
  returned_to : (fs : List Caller) (k : Leaf) → LiesInArrays p k.environment → CallersLie p fs → LeafLies p (return_to fs k)
  returned_to [] k h g = (h, tt)
  returned_to (f ∷ fs) k h g = by f.rest (returned_to fs (record k { environment = f.environment }) g.0 g.1)
    where
      by : (d : Codes) → LeafLies p (return_to fs (record k { environment = f.environment })) → LeafLies p (elim d [
        | End ↦ return_to fs (record k { environment = f.environment })
        | Then l s rest ↦ record k { environment = f.environment; rest = Then l s rest; callers = fs }
      ])
      by End more = more
      by (Then l s rest) more = (g.0, g.1)

  returned_lies : (c : Codes) (k : Leaf) → LeafLies p k → LeafLies p (returned_by c k)
  returned_lies End k h = returned_to k.callers k h.0 h.1
  returned_lies (Then l s rest) k h = h

  single_lies : (k : Leaf) → LeafLies p k → TreeLies p (single k)
  single_lies k h = returned_lies k.rest k h

  outermost_lies : (fs : List Caller) (env : Environment) → LiesInArrays p env → CallersLie p fs → LiesInArrays p (outermost fs env)
  outermost_lies [] env h g = h
  outermost_lies (f ∷ fs) env h g = outermost_lies fs f.environment g.0 g.1

  done_lies : (k : Leaf) → LeafLies p k → LeafLies p (done k)
  done_lies k h = (outermost_lies k.callers k.environment h.0 h.1, tt)

  -- the windows at the end of a finish
  rightmost_lies : (t : Tree) → TreeLies p t → LeafLies p (rightmost t)
  rightmost_lies (Single k) h = h
  rightmost_lies (AndThen t x k) h = h.1
  rightmost_lies (Beside t u) h = rightmost_lies u h.1

  owner_lies : (t : Tree) → TreeLies p t → LiesInArrays p (owner_environment t)
  owner_lies t h =
      let k = rightmost t in let r = rightmost_lies t h in
      outermost_lies k.callers k.environment r.0 r.1

  unless_lies : (fs : List Fault) (k : Leaf) → LeafLies p k → LeafLies p (unless_faulted fs k)
  unless_lies [] k h = returned_lies k.rest k h
  unless_lies (f ∷ fs) k h = done_lies k h

  rescued_lies : (fs : List Fault) (x : ℕ) (c : Codes) (k : Leaf) → LeafLies p k → LeafLies p (rescued_from fs x c k)
  rescued_lies [] x c k h = returned_lies k.rest k h
  rescued_lies (f ∷ fs) x c k h = returned_lies (append c k.rest) (handling x c k) h

  after_faults_lies : (x : Handler) (fs : List Fault) (k : Leaf) → LeafLies p k → LeafLies p (after_faults x fs k)
  after_faults_lies NoHandler fs k h = unless_lies fs k h
  after_faults_lies (HandledBy x c) fs k h = rescued_lies fs x c k h

  closed_lies : (t : Tree) (x : Handler) (k : Leaf) → TreeLies p t → LeafLies p k → LeafLies p (closed t x k)
  closed_lies t x k h g = after_faults_lies x (faults_of t) (continuing t k) (owner_lies t h, g.1)

  then_lies : (t : Tree) (x : Handler) (k : Leaf) → TreeLies p t → LeafLies p k → TreeLies p (and_then t x k)
  then_lies t x k h g = by (all_done t)
    where
      by : (b : Bool) → TreeLies p (if b then Single (closed t x k) else AndThen t x k)
      by true = closed_lies t x k h g
      by false = (h, g)

  -- of a step
  value_lies : {A : Type 0} (l : ℕ) (k : Leaf) (r : Valued A) (go : A → Tree) → LeafLies p k
      → ((v : A) → Ok v ≡ r → TreeLies p (go v)) → TreeLies p (on_value l k r go)
  value_lies l k (Ok v) go h g = g v refl
  value_lies l k (Err f) go h g = (outermost_lies k.callers k.environment h.0 h.1, tt)

  flow_lies : (f : Flow) (k : Leaf) → LeafLies p k → TreeLies p (by_flow f k)
  flow_lies On k h = single_lies k h
  flow_lies Faulted k h = done_lies k h
  flow_lies Stopped k h = done_lies k h

  state_lies : (k : Leaf) (st : State (Unit {0})) → st.environment.windows ≡ k.environment.windows → LeafLies p k → TreeLies p (with_state k st)
  state_lies k st e h = flow_lies st.flow (record k {
    environment = st.environment;
    lines = st.lines;
    faults = st.faults;
  }) (subst (λ (ws : ℕ → Window). (s : ℕ) → LiesInArray p (ws s)) (sym e) h.0, h.1)

  -- with the turns of a `parts` before its other statements
  before_lies : (l s n m x i : ℕ) (b : Codes) (k : Leaf) → LeafLies p k → LeafLies p (before_turns l s n m x i b k)
  before_lies l s n m x i b k h = by (has_piece (k.environment.windows s) n m)
    where
      by : (left : Bool) → LeafLies p (if left then record k { rest = Then l (Begun s n m x i b) k.rest } else k)
      by true = h
      by false = h

  same_environment : (l s n m x i : ℕ) (b : Codes) (k : Leaf) → (before_turns l s n m x i b k).environment ≡ k.environment
  same_environment l s n m x i b k = by (has_piece (k.environment.windows s) n m)
    where
      by : (left : Bool) → (if left then record k { rest = Then l (Begun s n m x i b) k.rest } else k).environment ≡ k.environment
      by true = refl
      by false = refl

  -- in a turn
  piece_in : (s n m x i : ℕ) (k : Leaf) → has_piece (k.environment.windows s) n m ≡ true → LeafLies p k
      → LeafLies p (in_piece s n m x i k)
  piece_in s n m x i k left h =
      let w = k.environment.windows s in
      let v = piece_at n m w in
      let is : piece_of w n m ≡ Some v = ap (λ b. if◌then◌else◌ {A = Option Window} b (Some v) None) left in
      (with_piece_lies p x i v m k.environment (piece_lies p w v n m (h.0 s) is) h.0, h.1)

  after_lies : (l : ℕ) (s : Code) (k : Leaf) (a : Contents) → LeafLies p k → TreeLies p (tree_after p l s k a)
  after_lies l (Do s) k a h = state_lies k (primitive p l s (as_state k a)) (primitive_windows p l s (as_state k a)) h
  after_lies l (If t b c) k a h = value_lies l k (truth k.environment (read a) t) (λ v. single (before_rest (if v then b else c) k)) h (λ v e. single_lies (before_rest (if v then b else c) k) h)
  after_lies l (While t b) k a h =
      value_lies l k (truth k.environment (read a) t)
      (λ v. single (if v then before_rest b (before_rest (Then l (While t b) End) k) else k)) h (λ v e. turned v)
    where
      turned : (v : Bool) → TreeLies p (single (if v then before_rest b (before_rest (Then l (While t b) End) k) else k))
      turned true = single_lies (before_rest b (before_rest (Then l (While t b) End) k)) h
      turned false = single_lies k h
  after_lies l (Split s e x y b) k a h = value_lies l k (sides_at k s (number k.environment (read a) e))
      (λ ws. single (before_rest b (record k { environment = with_sides x y ws k.environment }))) h (λ ws is.
      single_lies (before_rest b (record k { environment = with_sides x y ws k.environment }))
      (with_sides_lies p x y ws k.environment (halves_lie p (as_state k a) s e ws h.0 is) h.0, h.1))
  after_lies l (Parts s e x i b) k a h = value_lies l k (size_by (number k.environment (read a) e))
      (λ n. single (before_turns l s n 0 x i b k)) h (λ n is. single_lies (before_turns l s n 0 x i b k) (before_lies l s n 0 x i b k h))
  after_lies l (Begun s n m x i b) k a h = by (has_piece (k.environment.windows s) n m) refl
    where
      j : Leaf
      j = before_turns l s n (m + 1) x i b k

      by : (left : Bool) → has_piece (k.environment.windows s) n m ≡ left
          → TreeLies p (single (if left then before_rest b (in_piece s n m x i j) else k))
      by true left =
          single_lies (before_rest b (in_piece s n m x i j)) (piece_in s n m x i j
          (ap (λ (env : Environment). has_piece (env.windows s) n m) (same_environment l s n (m + 1) x i b k) ∙ left)
          (before_lies l s n (m + 1) x i b k h))
      by false left = single_lies k h
  after_lies l (Call f es ss) k a h = value_lies l k (numbers k.environment (read a) es)
      (λ vs. single (called (procedure_of p f) (entry vs (map k.environment.windows ss)) k)) h (λ vs e.
      single_lies (called (procedure_of p f) (entry vs (map k.environment.windows ss)) k) (entry_lies p vs k.environment ss h.0, (h.0, h.1)))
  after_lies l (Async b) k a h = (single_lies (child b k) (h.0, tt), single_lies (parent k) (h.0, h.1))
  after_lies l (Finish b) k a h =
      then_lies (single (inside b k)) NoHandler (held_back k) (single_lies (inside b k) (h.0, tt)) (h.0, h.1)
  after_lies l (Rescue b x c) k a h =
      then_lies (single (inside b k)) (HandledBy x c) (held_back k) (single_lies (inside b k) (h.0, tt)) (h.0, h.1)

  here_lies : {n : ℕ} {k : Leaf} {t u : Tree} {a b : Contents} → Step p n k t a u b → TreeLies p t → LeafLies p k
  here_lies (Step.here r e f) h = h
  here_lies (Step.first s e) h = here_lies s h.0
  here_lies (Step.left s) h = here_lies s h.0
  here_lies (Step.right e s) h = here_lies s h.1

  pub leaf-lies : (n : ℕ) (t : Tree) (k : Leaf) → leaf_at n t ≡ Some k → TreeLies p t → LeafLies p k
  leaf-lies n t k e h = here_lies (step_at p t n k (held_by []) e).step h

  stepped_lies : {n : ℕ} {k : Leaf} {t u : Tree} {a b : Contents} → Step p n k t a u b → TreeLies p t → TreeLies p u
  stepped_lies (Step.here {k = k} {l = l} {s = s} {rest = rest} {a = a} r e f) h = subst (TreeLies p) (sym e) (after_lies l s (record k { rest = rest }) a h)
  stepped_lies (Step.first {x = x} {j = j} {u = u} s e) h = subst (TreeLies p) (sym e) (then_lies u x j (stepped_lies s h.0) h.1)
  stepped_lies (Step.left s) h = (stepped_lies s h.0, h.1)
  stepped_lies (Step.right e s) h = (h.0, stepped_lies s h.1)

  pub step-lies : (n : ℕ) (t u : Tree) (a b : Contents) → step p n t a ≡ Some (u, b) → TreeLies p t → TreeLies p u
  step-lies n t u a b e h = stepped_lies (step_from p t n a u b e).1 h

  pub first-lies : TreeLies p (first_tree p)
  first-lies = returned_lies p.main.body (first_leaf p) (main_lies p, tt)
