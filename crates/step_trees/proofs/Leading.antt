-- What a statement leads to is what a leaf becomes by it.
use Rattle.std.proofs.Common.{Bor, ◌≡◌, ℕ, List, Ok, Err, refl, sym, ap, ◌∙◌, subst, Result}
use Rattle.std.specs.Prelude.{Bool, true, false, IfOk, map, if◌then◌else◌}
use Rattle.std.specs.declared.alloc.AllocError.{AllocError}
use Rattle.types.specs.Code.{Code, Codes, Truth, Program, Do, If, While, Split, Parts, Begun, Call, Async, Finish, Rescue}
use Rattle.types.specs.Contents.{Contents}
use Rattle.types.specs.Run.{State, number_at, numbers_at, truth_at}
use Rattle.sections.specs.Translation.{section}
use Rattle.sections.specs.declared.id.SectionId.{SectionId as rSection}
use Rattle.types.specs.declared.code.Number.{Number as rNumber}
use Rattle.types.specs.Translation.{number, program}
use Rattle.types.specs.Trees.{Leaf, Tree, before_rest, single}
use Rattle.types.specs.TreeSteps.{as_state, on_value, size_by, store_after, tree_after}
use Rattle.types.specs.Value.{Valued}
use Rattle.statement_steps.specs.declared.next.Next.{Next as rNext}
use Rattle.statement_steps.specs.declared.store.Store.{Store}
use Rattle.statement_steps.specs.declared.thread.Thread.{Thread}
use Rattle.statement_steps.specs.Leading.{Next, Nothing, Inside, Iteration, Led, Leads, by_value, led, leads_to, next_of}
use Rattle.statement_steps.specs.Lists.{contents_of, lengths_of}
use Rattle.statement_steps.specs.Primitive.{halves}
use Rattle.statement_steps.specs.Standing.{flow, state_of}
use Rattle.statement_steps.specs.declared.control.Called.{Called}
use Rattle.statement_steps.proofs.Leading.{IsControl, called_leads}
use Rattle.step_trees.specs.declared.turn.Becomes.{Becomes}
use Rattle.step_trees.specs.declared.turn.LeafTurn.{LeafTurn}
use Rattle.step_trees.specs.Translation.{blocks, callers}
use Rattle.step_trees.specs.Turns.{After, Comes, IsLoopOf, IsReady, becomes_by, leaf_at, leaf_in, store_in}
use Rattle.step_trees.proofs.Turns.{comes_as, state_in}

module _ (p : Program) (l : ℕ) (k : Leaf) (a : Contents) where
  -- what the leaf becomes
  abbrev pub tree_of : Led (Unit {0}) → Tree
  tree_of x = becomes_by x.next x.state.flow (leaf_at x.state k.rest k.callers)

  tree_value : {A : Type 0} (v : Valued A) (go : A → Led (Unit {0})) (to : A → Tree)
      → ((x : A) → to x ≡ tree_of (go x)) → on_value l k v to ≡ tree_of (by_value l v go (as_state k a))
  tree_value (Ok x) go to same = same x
  tree_value (Err f) go to same = refl

  choice : (b c : Codes) (v : Bool)
      → single (before_rest (if v then b else c) k) ≡ tree_of (leads_to (if v then Inside b else Inside c) (as_state k a))
  choice b c true = refl
  choice b c false = refl

  iteration : (t : Truth) (b : Codes) (v : Bool)
      → single (if v then before_rest b (before_rest (Rattle.types.specs.Code.Then l (While t b) Rattle.types.specs.Code.End) k) else k)
      ≡ tree_of (leads_to (if v then Iteration l t b else Nothing) (as_state k a))
  iteration t b true = refl
  iteration t b false = refl

  pub tree_led : (c : Code) → IsControl c → tree_after p l c k a ≡ tree_of (led p l c (as_state k a))
  tree_led (Do s) is = elim is [ ]
  tree_led (If t b c) is = tree_value (truth_at (as_state k a) t) _ _ (choice b c)
  tree_led (While t b) is = tree_value (truth_at (as_state k a) t) _ _ (iteration t b)
  tree_led (Split s e x y b) is = tree_value (halves (as_state k a) s e) _ _ (λ ws. refl)
  tree_led (Parts s e x i b) is = tree_value (size_by (number_at (as_state k a) e)) _ _ (λ n. refl)
  tree_led (Call f es ss) is = tree_value (numbers_at (as_state k a) es) _ _ (λ vs. refl)
  tree_led (Begun s n m x i b) is = elim is [ ]
  tree_led (Async b) is = elim is [ ]
  tree_led (Finish b) is = elim is [ ]
  tree_led (Rescue b x c) is = elim is [ ]

  store_value : {A : Type 0} (v : Valued A) (go : A → Led (Unit {0})) → ((x : A) → a ≡ (go x).state.store)
      → a ≡ (by_value l v go (as_state k a)).state.store
  store_value (Ok x) go same = same x
  store_value (Err f) go same = refl

  -- and what the store becomes
  pub store_led : (c : Code) → IsControl c → store_after p l c k a ≡ (led p l c (as_state k a)).state.store
  store_led (Do s) is = elim is [ ]
  store_led (If t b c) is = store_value (truth_at (as_state k a) t) _ (λ v. refl)
  store_led (While t b) is = store_value (truth_at (as_state k a) t) _ (λ v. refl)
  store_led (Split s e x y b) is = store_value (halves (as_state k a) s e) _ (λ ws. refl)
  store_led (Parts s e x i b) is = store_value (size_by (number_at (as_state k a) e)) _ (λ n. refl)
  store_led (Call f es ss) is = store_value (numbers_at (as_state k a) es) _ (λ vs. refl)
  store_led (Begun s n m x i b) is = elim is [ ]
  store_led (Async b) is = elim is [ ]
  store_led (Finish b) is = elim is [ ]
  store_led (Rescue b x c) is = elim is [ ]

-- ---- loops

module _ (p : Program) (l : ℕ) where
  loop_value : {A : Type 0} (c : Code) (v : Valued A) (go : A → Led (Unit {0})) (st : State (Unit {0}))
      → ((x : A) → IsLoopOf l c (go x).next) → IsLoopOf l c (by_value l v go st).next
  loop_value c (Ok x) go st there = there x
  loop_value c (Err f) go st there = tt

  loop_choice : (c : Code) (b d : Codes) (v : Bool) → IsLoopOf l c (if v then Inside b else Inside d)
  loop_choice c b d true = tt
  loop_choice c b d false = tt

  loop_iteration : (t : Truth) (b : Codes) (v : Bool) → IsLoopOf l (While t b) (if v then Iteration l t b else Nothing)
  loop_iteration t b true = (refl, refl)
  loop_iteration t b false = tt

  -- only a loop leads to its iteration
  led_loops : (c : Code) (st : State (Unit {0})) → IsLoopOf l c (led p l c st).next
  led_loops (Do s) st = tt
  led_loops (If t b d) st = loop_value (If t b d) (truth_at st t) _ st (loop_choice (If t b d) b d)
  led_loops (While t b) st = loop_value (While t b) (truth_at st t) _ st (loop_iteration t b)
  led_loops (Split s e x y b) st = loop_value (Split s e x y b) (halves st s e) _ st (λ ws. tt)
  led_loops (Parts s e x i b) st = loop_value (Parts s e x i b) (size_by (number_at st e)) _ st (λ n. tt)
  led_loops (Call f es ss) st = loop_value (Call f es ss) (numbers_at st es) _ st (λ vs. tt)
  led_loops (Begun s n k x i b) st = tt
  led_loops (Async b) st = tt
  led_loops (Finish b) st = tt
  led_loops (Rescue b x d) st = tt

pub led_loop : (turn : LeafTurn) (t : Thread Store) (l : ℕ) (c : Code) (n : rNext)
    → Leads contents_of lengths_of (led (program turn.plan.program.now) l c (state_of turn.thread)) n turn.thread t
    → IsLoopOf l c (next_of n)
led_loop turn t l c n leads =
    subst (IsLoopOf l c) (sym leads.next) (led_loops (program turn.plan.program.now) l c (state_of turn.thread))

-- ---- a turn

-- what comes next, once a statement has led there, is the step of the statement
pub after_led : (turn : LeafTurn) (t : Thread Store) (l : ℕ) (c : Code) (n : rNext) (r : Result (Becomes × Store) AllocError)
    → IsControl c → IsReady turn
    → Leads contents_of lengths_of (led (program turn.plan.program.now) l c (state_of turn.thread)) n turn.thread t
    → (let new : LeafTurn = record turn { thread = t } in
    IfOk r (Comes (becomes_by (next_of n) (flow t.flow) (leaf_in new)) (store_in new) new))
    → IfOk r (After turn l c)
after_led turn t l c n r is ready leads comes =
    let p = program turn.plan.program.now in
    let rest = blocks turn.rest.items in let fs = callers turn.callers.items in
    let by : Next → State (Unit {0}) → Tree = λ m st. becomes_by m st.flow (leaf_at st rest fs) in
    let from : State (Unit {0}) → Tree = λ st. let x = led p l c st in by x.next x.state in
    let store_from : State (Unit {0}) → Contents = λ st. (led p l c st).state.store in
    comes_as turn (record turn { thread = t }) r
    (ap (λ m. by m (state_of t)) leads.next ∙ ap (by (led p l c (state_of turn.thread)).next) leads.state
    ∙ ap from (state_in turn ready)
    ∙ sym (tree_led p l (leaf_in turn) (store_in turn) c is))
    (ap (λ (st : State (Unit {0})). st.store) leads.state ∙ ap store_from (state_in turn ready)
    ∙ sym (store_led p l (leaf_in turn) (store_in turn) c is))
    leads.memory comes

-- a call with these arguments led there
pub led_call : (turn : LeafTurn) (t : Thread Store) (l f : ℕ) (called : Called) (values : Bor (List rNumber)) (sections : Bor (List rSection))
    (n : rNext) → called.values ≡ values → called.sections ≡ sections
    → Leads contents_of lengths_of (led (program turn.plan.program.now) l (Call f (map number called.values.now)
    (map section called.sections.now)) (state_of turn.thread)) n turn.thread t
    → Leads contents_of lengths_of (led (program turn.plan.program.now) l (Call f (map number values.now)
    (map section sections.now)) (state_of turn.thread)) n turn.thread t
led_call turn t l f called values sections n same_values same_sections leads =
    called_leads contents_of lengths_of (program turn.plan.program.now) l n t turn.thread f (map number called.values.now) (map number values.now)
    (map section called.sections.now) (map section sections.now) (ap (λ (v : Bor (List rNumber)). map number v.now) same_values)
    (ap (λ (v : Bor (List rSection)). map section v.now) same_sections) leads
