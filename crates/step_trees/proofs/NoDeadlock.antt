-- A reachable tree that hasn't ended has a leaf that may step.
use Rattle.std.proofs.Common.{◌≡◌, ℕ, ◌+◌, ◌<◌, refl, sym, subst, arith}
use Rattle.std.specs.Prelude.{Bool, true, false, ◌&&◌, if◌then◌else◌, Ok, Err}
use Rattle.types.specs.Code.{Code, Do, If, While, Split, Parts, Begun, Call, Async, Finish, Rescue, Codes, End, Then, Program}
use Rattle.types.specs.Contents.{Contents}
use Rattle.types.specs.Value.{Valued}
use Rattle.types.specs.Run.{Flow, On, Faulted, Stopped, primitive}
use Rattle.types.specs.Trees.{Leaf, Handler, NoHandler, HandledBy, Tree, Single, AndThen, Beside, single, is_done, all_done, ready, and_then, closed, inside, held_back}
use Rattle.types.specs.TreeSteps.{on_value, by_flow, as_state, tree_after, first_tree}
use Rattle.types.specs.TreeRuns.{Runs, here, next, Reachable}
use Rattle.step_trees.proofs.Steps.{Step, step_from}

-- no `then` waits for what is done
pub data Awake : Tree → Type 0 where
  one_is : {k : Leaf} → Awake (Single k)
  then_is : {t : Tree} {h : Handler} {k : Leaf} → all_done t ≡ false → Awake t → Awake (AndThen t h k)
  both_are : {t u : Tree} → Awake t → Awake u → Awake (Beside t u)

leaf_ready : (c : Codes) → is_done c ≡ false → 0 < (if is_done c then 0 else 1)
leaf_ready End e = cc
leaf_ready (Then l s rest) e = omega arith

some_false : (a b : Bool) {x y : ℕ} → (a ≡ false → 0 < x) → (b ≡ false → 0 < y) → (a && b) ≡ false → 0 < x + y
some_false false b h k e = let z = h refl in omega arith
some_false true b h k e = let z = k e in omega arith

pub ready_if : (t : Tree) → Awake t → all_done t ≡ false → 0 < ready t
ready_if t (one_is {k = k}) e = leaf_ready k.rest e
ready_if t (then_is {t = u} {k = k} h w) e = ready_if u w h
ready_if t (both_are {t = v} {u = u} w x) e = some_false (all_done v) (all_done u) (ready_if v w) (ready_if u x) e

closes : (b : Bool) (t : Tree) (h : Handler) (k : Leaf) → all_done t ≡ b → Awake t
    → Awake (if b then Single (closed t h k) else AndThen t h k)
closes true t h k e w = one_is
closes false t h k e w = then_is e w

awake_then : (t : Tree) (h : Handler) (k : Leaf) → Awake t → Awake (and_then t h k)
awake_then t h k w = closes (all_done t) t h k refl w

awake_value : {A : Type 0} (l : ℕ) (k : Leaf) (r : Valued A) (go : A → Tree) → ((v : A) → Awake (go v))
    → Awake (on_value l k r go)
awake_value l k (Ok v) go h = h v
awake_value l k (Err f) go h = one_is

awake_flow : (f : Flow) (k : Leaf) → Awake (by_flow f k)
awake_flow On k = one_is
awake_flow Faulted k = one_is
awake_flow Stopped k = one_is

module _ (p : Program) where
  awake_after : (l : ℕ) (s : Code) (k : Leaf) (a : Contents) → Awake (tree_after p l s k a)
  awake_after l (Do s) k a = awake_flow (primitive p l s (as_state k a)).flow _
  awake_after l (If t b c) k a = awake_value l k _ _ (λ v. one_is)
  awake_after l (While t b) k a = awake_value l k _ _ (λ v. one_is)
  awake_after l (Split s e x y b) k a = awake_value l k _ _ (λ v. one_is)
  awake_after l (Parts s e x i b) k a = awake_value l k _ _ (λ v. one_is)
  awake_after l (Begun s n m x i b) k a = one_is
  awake_after l (Call f es ss) k a = awake_value l k _ _ (λ v. one_is)
  awake_after l (Async b) k a = both_are one_is one_is
  awake_after l (Finish b) k a = awake_then (single (inside b k)) NoHandler (held_back k) one_is
  awake_after l (Rescue b x c) k a = awake_then (single (inside b k)) (HandledBy x c) (held_back k) one_is

  pub awake_step : {n : ℕ} {k : Leaf} {t u : Tree} {a b : Contents} → Step p n k t a u b → Awake t → Awake u
  awake_step (Step.here {k = k} {l = l} {s = s} {rest = rest} {a = a} r e f) w = subst Awake (sym e) (awake_after l s (record k { rest = rest }) a)
  awake_step (Step.first {x = x} {j = j} {u = u} s e) (then_is h w) = subst Awake (sym e) (awake_then u x j (awake_step s w))
  awake_step (Step.left s) (both_are w x) = both_are (awake_step s w) x
  awake_step (Step.right e s) (both_are w x) = both_are w (awake_step s x)

  awake_run : {n : ℕ} {t u : Tree} {a b : Contents} → Runs p n t a u b → Awake t → Awake u
  awake_run here w = w
  awake_run (next {t = t} {u = u} {a = a} {b = b} n e r) w = awake_run r (awake_step (step_from p t n a u b e).1 w)

  pub first_awake : Awake (first_tree p)
  first_awake = one_is

  pub deadlock_free : (input : Contents) (t : Tree) (a : Contents) → Reachable p input t a → all_done t ≡ false
      → 0 < ready t
  deadlock_free input t a r e = ready_if t (awake_run r.1 one_is) e
