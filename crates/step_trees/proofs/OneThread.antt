-- A run in which the first leaf always steps follows the one-thread meaning.
use Rattle.std.proofs.Common.{◌≡◌, ℕ, zero, suc, ◌+◌, ◌-◌, ◌<◌, ◌≤◌, List, [], ◌∷◌, ◌++◌, length, map, refl, sym, ap, ◌∙◌, subst, arith, append_assoc}
use Rattle.std.proofs.lemmas.List.{append-nil}
use Rattle.std.specs.Prelude.{ℤ, pos, Bool, true, false, Ok, Err, ok_or, if◌then◌else◌}
use Rattle.sections.specs.Member.{next}
use Rattle.sections.specs.Place.{sides_of, has_piece, piece_at}
use Rattle.types.specs.declared.fault.FaultKind.{FaultKind}
use Rattle.types.specs.declared.fault.FaultKind.TheVariants.{SplitPoint, PieceSize}
use Rattle.types.specs.Code.{Number, Truth, Primitive, Code, Do, If, While, Split, Parts, Begun, Call, Async, Finish, Rescue, Codes, End, Then, Program}
use Rattle.types.specs.Contents.{Contents, read, held_by}
use Rattle.types.specs.Value.{Environment, Valued, then_try, number, numbers, truth}
use Rattle.types.specs.Run.{Flow, On, Faulted, Stopped, Fault, State, bind, Work, Block, Turn, Pieces, at_flow as flow_goes, go_on, with_step, fault, with_value, choose, caught, rescued, in_environment, act, block, entry, with_sides, with_piece, piece_size, procedure_of, counted}
use Rattle.types.specs.Sound.{IsText, IsTextOf}
use Rattle.types.specs.Meaning.{hushed, joined, child as child_state, after_async, after_body, after_finish, begin_one, one_rules, one as one_run}
use Rattle.types.specs.Outcome.{Budget, IsLarger, Outcome, Ended, start, outcome_by, outcome_of, outcome}
use Rattle.types.proofs.Adds.{only_adds}
use Rattle.types.proofs.Larger.{one_is_thrifty}
use Rattle.types.proofs.Views.{same_told}
use Rattle.types.proofs.Solutions.{solves}
use Rattle.types.specs.Trees.{Caller, Leaf, Handler, NoHandler, HandledBy, Tree, Single, Beside, append, single, is_done, done, failed, owner_environment, outermost, returned, returned_by, return_to, before_rest, all_done, faults_of, lines_of, rightmost, handling, after_faults, and_then, called, child, parent, inside, held_back}
use Rattle.types.specs.TreeSteps.{on_value, as_state, with_state, size_by, before_turns, in_piece, tree_after, store_after, first_leaf, first_tree}
use Rattle.types.specs.TreeRuns.{tree_ending}
use Rattle.effects.proofs.EnvironmentsFit.{at_piece}
use Rattle.effects.proofs.WindowsKept.{run_keeps, one_rules_keep}
use Rattle.step_trees.specs.Laws.{HasLawfulParts}
use Rattle.step_trees.proofs.Lawful.{Lawful, AreLawful, IsLawful, are_lawful, lawful_parts, lawful_append, returned_lawful}
use Rattle.step_trees.proofs.Deeds.{Deed, Nothing, Assigns, Writes, Prints, Fails, deed, did, primitive-did}
use Rattle.step_trees.proofs.Steps.{Step}
use Rattle.step_trees.proofs.FirstLeaves.{LeftRun, ended, goes, stuck, Halves, halves, Finished, finished}
use Rattle.types.proofs.Solutions.{value_twice, flow_agree}

abbrev S : Type 0
S = State (Unit {0})

-- A state with lines and faults before its own

abbrev behind : List (List ℤ) → List Fault → S → S
behind l f st = record st { lines = l ++ st.lines; faults = f ++ st.faults }

abbrev Adds : (S → S) → Type 0
Adds go = (l : List (List ℤ)) (f : List Fault) (st : S) → go (behind l f st) ≡ behind l f (go st)

-- nothing was printed before
behind-nothing : (l : List (List ℤ)) (f : List Fault) (st : S)
    → behind l f (hushed st) ≡ record st { lines = l; faults = f }
behind-nothing l f st = same_told st (l ++ []) l (f ++ []) f (append-nil l) (append-nil f)

go_on_adds : (go : S → S) → Adds go → Adds (go_on go)
go_on_adds go h l f st = by st.flow
  where
    by : (x : Flow) → flow_goes x (behind l f st) go ≡ behind l f (flow_goes x st go)
    by On = h l f st
    by Faulted = refl
    by Stopped = refl

-- Going on twice

go_on_twice : (st : S) (f g h : S → S) → (st.flow ≡ On → f st ≡ go_on g (h st)) → go_on f st ≡ go_on g (go_on h st)
go_on_twice st f g h same = by st.flow refl
  where
    by : (x : Flow) → st.flow ≡ x → flow_goes x st f ≡ go_on g (flow_goes x st h)
    by On e = same e
    by Faulted e = sym (ap (λ x. flow_goes x st g) e)
    by Stopped e = sym (ap (λ x. flow_goes x st g) e)

-- A task's state, as a leaf has it, and at the end of a tree

abbrev state_of : Leaf → Contents → ℕ → S
state_of k a n = record (as_state k a) { steps = n }

abbrev end_state : List ℕ → Tree → Contents → Flow → ℕ → S
end_state path t a flow left = record {
  flow = flow;
  environment = owner_environment t;
  store = a;
  lines = lines_of t;
  faults = faults_of t;
  steps = left;
  path = path;
  spawned = (rightmost t).spawned;
  extra = tt;
}

-- a state is the state of an ended tree after at most n steps, and isn't stopped
record ComesTo (n steps : ℕ) (path : List ℕ) (t : Tree) (a : Contents) (out : S) : Type 0 where
  flow : Flow
  goes : flow ≡ Stopped → ⊥
  left : ℕ
  enough : steps ≤ left + n
  meaning : out ≡ end_state path t a flow left

comes_same : {n steps : ℕ} {path : List ℕ} {t : Tree} {a : Contents} {out other : S} → other ≡ out
    → ComesTo n steps path t a out → ComesTo n steps path t a other
comes_same {n = n} {steps = steps} {path = path} {t = t} {a = a} e c = subst (ComesTo n steps path t a) (sym e) c

async_on : (f : Flow) → (f ≡ Stopped → ⊥) → after_async f ≡ On
async_on On h = refl
async_on Faulted h = refl
async_on Stopped h = absurd (h refl)

finish_on : (f : Flow) → (f ≡ Stopped → ⊥) → after_finish f [] ≡ On
finish_on On h = refl
finish_on Faulted h = refl
finish_on Stopped h = absurd (h refl)

finish_faulted : (f : Flow) → (f ≡ Stopped → ⊥) → (x : Fault) (fs : List Fault) → after_finish f (x ∷ fs) ≡ Faulted
finish_faulted On h x fs = refl
finish_faulted Faulted h x fs = refl
finish_faulted Stopped h x fs = absurd (h refl)

module _ (p : Program) (fresh : ℕ) where
  abbrev blk : ℕ → Codes → S → S
  blk nest b = block p (one_rules p fresh nest) (one_run p fresh nest) b

  abbrev doing : ℕ → ℕ → Code → S → S
  doing nest l s = act p (one_rules p fresh nest) (one_run p fresh nest) l s

  -- a statement with its step; a begun `parts` has its turns to come
  abbrev first : (nest label : ℕ) → Code → S → S
  first nest l (Begun s n m x i b) st = one_run p fresh nest (Pieces l s n m x i b) st
  first nest l s st = with_step (λ st. doing nest l s (counted (one_rules p fresh nest) l s st)) st

  -- a list of such statements
  abbrev list : ℕ → Codes → S → S
  list nest End st = st
  list nest (Then l s rest) st = go_on (list nest rest) (first nest l s st)

  -- what waits for calls
  abbrev calls : ℕ → List Caller → S → S
  calls nest [] st = st
  calls nest (f ∷ fs) st = calls nest fs (go_on (list nest f.rest) (record st { environment = f.environment }))

  -- all that a leaf has left
  abbrev task : ℕ → Codes → List Caller → S → S
  task nest c fs st = calls nest fs (list nest c st)

  first_text : (nest l : ℕ) (s : Code) → IsTextOf s → (st : S)
      → first nest l s st ≡ with_step (λ st. doing nest l s (counted (one_rules p fresh nest) l s st)) st
  first_text nest l (Do s) k st = refl
  first_text nest l (If t b c) k st = refl
  first_text nest l (While t b) k st = refl
  first_text nest l (Split s e x y b) k st = refl
  first_text nest l (Parts s e x i b) k st = refl
  first_text nest l (Begun s n m x i b) k st = absurd k
  first_text nest l (Call f es ss) k st = refl
  first_text nest l (Async b) k st = refl
  first_text nest l (Finish b) k st = refl
  first_text nest l (Rescue b x c) k st = refl

  -- in a text no `parts` has begun
  list_text : (nest : ℕ) (b : Codes) → IsText b → (st : S) → list nest b st ≡ blk nest b st
  list_text nest End k st = refl
  list_text nest (Then l s b) k st =
      ap (go_on (list nest b)) (first_text nest l s k.0 st)
      ∙ flow_agree (with_step (λ st. doing nest l s (counted (one_rules p fresh nest) l s st)) st).flow
      (with_step (λ st. doing nest l s (counted (one_rules p fresh nest) l s st)) st) (list nest b) (blk nest b)
      (list_text nest b k.1 (with_step (λ st. doing nest l s (counted (one_rules p fresh nest) l s st)) st))

  one-block : (nest : ℕ) (b : Codes) (st : S) → one_run p fresh nest (Block b) st ≡ blk nest b st
  one-block nest b st = solves p (one_rules p fresh nest) (one_is_thrifty p fresh nest) (Block b) st

  one-turn : (nest l : ℕ) (t : Truth) (b : Codes) (st : S)
      → one_run p fresh nest (Turn l t b) st ≡ with_step (doing nest l (While t b)) st
  one-turn nest l t b st = solves p (one_rules p fresh nest) (one_is_thrifty p fresh nest) (Turn l t b) st

  one-pieces : (nest l s n m x i : ℕ) (b : Codes) (st : S)
      → one_run p fresh nest (Pieces l s n m x i b) st
      ≡ choose (with_step (doing nest l (Begun s n m x i b))) (λ st. st) (has_piece (st.environment.windows s) n m) st
  one-pieces nest l s n m x i b st = solves p (one_rules p fresh nest) (one_is_thrifty p fresh nest) (Pieces l s n m x i b) st

  -- no turn is left
  no-pieces : (nest l s n m x i : ℕ) (b : Codes) (st : S) → has_piece (st.environment.windows s) n m ≡ false
      → one_run p fresh nest (Pieces l s n m x i b) st ≡ st
  no-pieces nest l s n m x i b st none =
      one-pieces nest l s n m x i b st ∙ ap (λ v. choose (with_step (doing nest l (Begun s n m x i b))) (λ st. st) v st) none

  some-pieces : (nest l s n m x i : ℕ) (b : Codes) (st : S) → has_piece (st.environment.windows s) n m ≡ true
      → one_run p fresh nest (Pieces l s n m x i b) st ≡ with_step (doing nest l (Begun s n m x i b)) st
  some-pieces nest l s n m x i b st left =
      one-pieces nest l s n m x i b st ∙ ap (λ v. choose (with_step (doing nest l (Begun s n m x i b))) (λ st. st) v st) left

  list-append : (nest : ℕ) (b c : Codes) (st : S) → st.flow ≡ On
      → list nest (append b c) st ≡ go_on (list nest c) (list nest b st)
  list-append nest End c st e = sym (ap (λ x. flow_goes x st (list nest c)) e)
  list-append nest (Then l s b) c st e =
      let out = first nest l s st in
      go_on_twice out (list nest (append b c)) (list nest c) (list nest b) (list-append nest b c out)

  work_adds : (nest : ℕ) (w : Work) → Adds (one_run p fresh nest w)
  work_adds nest w l f st =
      let out = one_run p fresh nest w (hushed st) in
      only_adds p fresh nest w (behind l f st)
      ∙ same_told out _ _ _ _ (append_assoc l st.lines out.lines) (append_assoc f st.faults out.faults)
      ∙ sym (ap (behind l f) (only_adds p fresh nest w st))

  block_adds : (nest : ℕ) (b : Codes) → Adds (blk nest b)
  block_adds nest b l f st =
      sym (one-block nest b (behind l f st)) ∙ work_adds nest (Block b) l f st ∙ ap (behind l f) (one-block nest b st)

  nothing_else : (st : S) → go_on (λ st. st) st ≡ st
  nothing_else st = by st.flow
    where
      by : (x : Flow) → flow_goes x st (λ st. st) ≡ st
      by On = refl
      by Faulted = refl
      by Stopped = refl

  step_adds : (nest l : ℕ) (s : Code) → Adds (with_step (λ st. doing nest l s (counted (one_rules p fresh nest) l s st)))
  step_adds nest l s lines faults st =
      let one = with_step (λ st. doing nest l s (counted (one_rules p fresh nest) l s st)) in
      sym (nothing_else (one (behind lines faults st))) ∙ block_adds nest (Then l s End) lines faults st
      ∙ ap (behind lines faults) (nothing_else (one st))

  first_adds : (nest l : ℕ) (s : Code) → Adds (first nest l s)
  first_adds nest l (Do s) = step_adds nest l (Do s)
  first_adds nest l (If t b c) = step_adds nest l (If t b c)
  first_adds nest l (While t b) = step_adds nest l (While t b)
  first_adds nest l (Split s e x y b) = step_adds nest l (Split s e x y b)
  first_adds nest l (Parts s e x i b) = step_adds nest l (Parts s e x i b)
  first_adds nest l (Begun s n m x i b) = work_adds nest (Pieces l s n m x i b)
  first_adds nest l (Call f es ss) = step_adds nest l (Call f es ss)
  first_adds nest l (Async b) = step_adds nest l (Async b)
  first_adds nest l (Finish b) = step_adds nest l (Finish b)
  first_adds nest l (Rescue b x c) = step_adds nest l (Rescue b x c)

  list_adds : (nest : ℕ) (b : Codes) → Adds (list nest b)
  list_adds nest End l f st = refl
  list_adds nest (Then k s b) l f st =
      ap (go_on (list nest b)) (first_adds nest k s l f st) ∙ go_on_adds (list nest b) (list_adds nest b) l f (first nest k s st)

  calls_adds : (nest : ℕ) (fs : List Caller) → Adds (calls nest fs)
  calls_adds nest [] l f st = refl
  calls_adds nest (g ∷ fs) l f st =
      ap (calls nest fs) (go_on_adds (list nest g.rest) (list_adds nest g.rest) l f (record st { environment = g.environment }))
      ∙ calls_adds nest fs l f (go_on (list nest g.rest) (record st { environment = g.environment }))

  -- a faulted task leaves its calls
  faulted_calls : (nest : ℕ) (fs : List Caller) (st : S) → st.flow ≡ Faulted
      → calls nest fs st ≡ record st { environment = outermost fs st.environment }
  faulted_calls nest [] st e = refl
  faulted_calls nest (f ∷ fs) st e =
      ap (λ x. calls nest fs (flow_goes x (record st { environment = f.environment }) (list nest f.rest))) e
      ∙ faulted_calls nest fs (record st { environment = f.environment }) e

  -- a leaf that returns to its callers means the same
  back_by : (nest : ℕ) (k : Leaf) (a : Contents) (n : ℕ) (env : Environment) (fs : List Caller) (c : Codes)
      → (calls nest fs (state_of (record k { environment = env }) a n)
      ≡ (let j = return_to fs (record k { environment = env }) in task nest j.rest j.callers (state_of j a n)))
      → calls nest fs (list nest c (state_of (record k { environment = env }) a n))
      ≡ (let j = elim c as (λ c. Leaf) [
        | End ↦ return_to fs (record k { environment = env })
        | Then l s rest ↦ record k { environment = env; rest = Then l s rest; callers = fs }
      ] in task nest j.rest j.callers (state_of j a n))
  back_by nest k a n env fs End h = h
  back_by nest k a n env fs (Then l s rest) h = refl

  back : (nest : ℕ) (fs : List Caller) (k : Leaf) (a : Contents) (n : ℕ)
      → calls nest fs (state_of k a n) ≡ (let j = return_to fs k in task nest j.rest j.callers (state_of j a n))
  back nest [] k a n = refl
  back nest (f ∷ fs) k a n = back_by nest k a n f.environment fs f.rest (back nest fs (record k { environment = f.environment }) a n)

  returned_by-task : (nest : ℕ) (c : Codes) (k : Leaf) (a : Contents) (n : ℕ) → k.rest ≡ c
      → task nest c k.callers (state_of k a n) ≡ (let j = returned_by c k in task nest j.rest j.callers (state_of j a n))
  returned_by-task nest End k a n e = back nest k.callers k a n
  returned_by-task nest (Then l s rest) k a n e = ap (λ c. task nest c k.callers (state_of k a n)) (sym e)

  -- the end of a finish, if nothing has faulted before
  finish_is : (nest l : ℕ) (b : Codes) (st : S) → st.faults ≡ []
      → doing nest l (Finish b) st ≡ (let out = blk nest b st in record out { flow = after_finish out.flow out.faults })
  finish_is nest l b st e =
      let h = blk nest b (hushed st) in
      ap (λ fs. record (joined st h) { flow = after_finish h.flow fs }) (sym (ap (λ fs. fs ++ h.faults) e))
      ∙ ap (λ (out : S). record out { flow = after_finish out.flow out.faults }) (sym (block_adds nest b st.lines st.faults (hushed st)) ∙ ap (blk nest b) (behind-nothing st.lines st.faults st))

  -- a leaf without remaining statements has reached its end
  done_comes : (n steps : ℕ) (k : Leaf) (a : Contents) (flow : Flow) (t : Tree) (z : Contents) (out : S)
      → (flow ≡ Stopped → ⊥)
      → k.rest ≡ End → LeftRun p n (Single k) a t z → out ≡ end_state k.path (Single k) a flow steps → ComesTo n steps k.path t z out
  done_comes n steps k a flow t z out on e r h =
      let x = stuck p (ap (λ c. if is_done c then 0 else 1) e) r in
      record {
        flow = flow;
        goes = on;
        left = steps;
        enough = omega arith;
        meaning = h ∙ ap (λ t. end_state k.path t a flow steps) (sym x.1) ∙ ap (λ a. end_state k.path t a flow steps) (sym x.2);
      }

  faulted_on : Faulted ≡ Stopped → ⊥
  faulted_on e = cc

  on_on : On ≡ Stopped → ⊥
  on_on e = cc

  -- a fault ends a leaf, and its task
  fault_comes : (n nest steps l : ℕ) (f : FaultKind) (k : Leaf) (a : Contents) (t : Tree) (z : Contents)
      → LeftRun p n (Single (failed l f k)) a t z
      → ComesTo n steps k.path t z (calls nest k.callers (go_on (list nest k.rest) (fault l f (state_of k a steps))))
  fault_comes n nest steps l f k a t z r =
      done_comes n steps (failed l f k) a Faulted t z (calls nest k.callers (fault l f (state_of k a steps))) faulted_on refl r
      (faulted_calls nest k.callers (fault l f (state_of k a steps)) refl)

  -- what comes after a finish: the handler of its faults, if it has one
  abbrev ending : ℕ → Handler → S → S
  ending nest NoHandler out = out
  ending nest (HandledBy x c) out = rescued x (blk nest c) [] out

  abbrev IsLawfulHandler : Handler → Type 0
  IsLawfulHandler NoHandler = Unit {0}
  IsLawfulHandler (HandledBy x c) = AreLawful p c × IsText c

  -- the claim about all runs of this number of steps
  abbrev Claim : ℕ → Type 0
  Claim n = (nest steps : ℕ) (k : Leaf) (a : Contents) (t : Tree) (z : Contents) → n ≤ fresh → n ≤ nest → n ≤ steps → k.faults ≡ [] → IsLawful p k
      → LeftRun p n (Single (returned k)) a t z → all_done t ≡ true → ComesTo n steps k.path t z (task nest k.rest k.callers (state_of k a steps))

  module _ (by_rules : HasLawfulParts p) (n : ℕ) (deeper : (m : ℕ) → m ≤ n → Claim m) (nest steps : ℕ) (in_fresh : suc n ≤ fresh) (in_nest : suc n ≤ nest) (in_steps : n ≤ steps)
      (l : ℕ) (k : Leaf) (faultless : k.faults ≡ []) (lawful : IsLawful p k) (t : Tree) (z : Contents) (d : all_done t ≡ true) where
    -- what was done to the leaf's state continues in this way
    abbrev Comes : S → Type 0
    Comes out = ComesTo n steps k.path t z (calls nest k.callers (go_on (list nest k.rest) out))

    -- the leaf k continues with another environment and lines
    goes_on : (j : Leaf) (a : Contents) → j.faults ≡ [] → IsLawful p j → LeftRun p n (Single (returned j)) a t z
        → ComesTo n steps j.path t z (task nest j.rest j.callers (state_of j a steps))
    goes_on j a e h r = deeper n (omega arith) nest steps j a t z (omega arith) (omega arith) in_steps e h r d

    -- a block before what remains
    before_lawful : (b : Codes) → AreLawful p b → IsLawful p (before_rest b k)
    before_lawful b h = (lawful_append p b k.rest h lawful.0, lawful.1)

    deed_comes : (x : Deed) (a : Contents)
        → LeftRun p n (with_state k (did l x (as_state k a))) (did l x (as_state k a)).store t z
        → Comes (did l x (state_of k a steps))
    deed_comes Nothing a r = goes_on k a faultless lawful r
    deed_comes (Assigns x v) a r = goes_on (record k { environment = (did l (Assigns x v) (as_state k a)).environment }) a faultless lawful r
    deed_comes (Writes q v) a r = goes_on k (did l (Writes q v) (as_state k a)).store faultless lawful r
    deed_comes (Prints vs) a r = goes_on (record k { lines = k.lines ++ vs ∷ [] }) a faultless lawful r
    deed_comes (Fails f) a r = fault_comes n nest steps l f k a t z r

    do_comes : (s : Primitive) (a : Contents)
        → LeftRun p n (tree_after p l (Do s) k a) (store_after p l (Do s) k a) t z
        → Comes (doing nest l (Do s) (state_of k a steps))
    do_comes s a r =
        let e = primitive-did p l s (as_state k a) in
        subst Comes (sym (primitive-did p l s (state_of k a steps)))
        (deed_comes (deed p k.environment (read a) s) a (subst (λ st. LeftRun p n (with_state k st) st.store t z) e r))

    value_comes : {A : Type 0} (r : Valued A) (go : A → S → S) (tree : A → Tree) (a : Contents)
        → LeftRun p n (on_value l k r tree) a t z
        → ((v : A) → LeftRun p n (tree v) a t z → Comes (go v (state_of k a steps))) → Comes (with_value l r go (state_of k a steps))
    value_comes (Ok v) go tree a r h = h v r
    value_comes (Err f) go tree a r h = fault_comes n nest steps l f k a t z r

    -- into a block
    block_comes : (b : Codes) → IsText b → AreLawful p b → (env : Environment) (a : Contents)
        → LeftRun p n (single (before_rest b (record k { environment = env }))) a t z
        → Comes (blk nest b (state_of (record k { environment = env }) a steps))
    block_comes b text h env a r =
        let st = state_of (record k { environment = env }) a steps in
        comes_same (ap (λ out. calls nest k.callers (go_on (list nest k.rest) out)) (sym (list_text nest b text st))
        ∙ ap (calls nest k.callers) (sym (list-append nest b k.rest st refl)))
        (goes_on (before_rest b (record k { environment = env })) a faultless (before_lawful b h) r)

    if_comes : (x : Truth) (b c : Codes) → Lawful p (If x b c) → (a : Contents) (v : Bool)
        → LeftRun p n (single (before_rest (if v then b else c) k)) a t z
        → Comes (choose (blk nest b) (blk nest c) v (state_of k a steps))
    if_comes x b c h a true r = block_comes b h.text.0 (are_lawful p b h.parts.0 h.text.0) k.environment a r
    if_comes x b c h a false r = block_comes c h.text.1 (are_lawful p c h.parts.1 h.text.1) k.environment a r

    while_comes : (x : Truth) (b : Codes) → Lawful p (While x b) → (a : Contents) (v : Bool)
        → LeftRun p n (single (if v then before_rest b (before_rest (Then l (While x b) End) k) else k)) a t z
        → Comes (choose (λ s. go_on (one_run p fresh nest (Turn l x b)) (blk nest b s)) (λ s. s) v (state_of k a steps))
    while_comes x b h a true r =
        let st = state_of k a steps in
        let out = list nest b st in
        comes_same (ap (λ (out : S). calls nest k.callers (go_on (list nest k.rest) (go_on (one_run p fresh nest (Turn l x b)) out))) (sym (list_text nest b h.text st))
        ∙ ap (calls nest k.callers)
        (sym (go_on_twice out (list nest (Then l (While x b) k.rest)) (list nest k.rest) (one_run p fresh nest (Turn l x b))
        (λ e. sym (ap (go_on (list nest k.rest)) (one-turn nest l x b out))))
        ∙ sym (list-append nest b (Then l (While x b) k.rest) st refl)))
        (goes_on (before_rest b (before_rest (Then l (While x b) End) k)) a faultless
        (lawful_append p b (Then l (While x b) k.rest) (are_lawful p b h.parts h.text) (h, lawful.0), lawful.1) r)
    while_comes x b h a false r = goes_on k a faultless lawful r

    -- turns to come, if one is left
    turns_come : (s m x i : ℕ) (b : Codes) → (size : ℕ) → Lawful p (Begun s size m x i b) → (a : Contents)
        → LeftRun p n (single (before_turns l s size m x i b k)) a t z
        → Comes (one_run p fresh nest (Pieces l s size m x i b) (state_of k a steps))
    turns_come s m x i b size h a r = by (has_piece (k.environment.windows s) size m) refl r
      where
        by : (left : Bool) → has_piece (k.environment.windows s) size m ≡ left
            → LeftRun p n (single (if left then record k { rest = Then l (Begun s size m x i b) k.rest } else k)) a t z
            → Comes (one_run p fresh nest (Pieces l s size m x i b) (state_of k a steps))
        by true left r = goes_on (record k { rest = Then l (Begun s size m x i b) k.rest }) a faultless ((h, lawful.0), lawful.1) r
        by false none r =
            comes_same (ap (λ out. calls nest k.callers (go_on (list nest k.rest) out)) (no-pieces nest l s size m x i b (state_of k a steps) none))
            (goes_on k a faultless lawful r)

    parts_comes : (s : ℕ) (e : Number) (x i : ℕ) (b : Codes) → Lawful p (Parts s e x i b) → (a : Contents)
        → LeftRun p n (tree_after p l (Parts s e x i b) k a) a t z
        → Comes (doing nest l (Parts s e x i b) (state_of k a steps))
    parts_comes s e x i b h a r =
        subst Comes (value_twice l (number k.environment (read a) e) (λ v. ok_or (piece_size v) PieceSize)
        (λ size. one_run p fresh nest (Pieces l s size 0 x i b)) (state_of k a steps))
        (value_comes (size_by (number k.environment (read a) e))
        (λ size. one_run p fresh nest (Pieces l s size 0 x i b)) (λ size. single (before_turns l s size 0 x i b k)) a r
        (λ size r. turns_come s 0 x i b size (record { parts = h.parts; text = h.text }) a r))

    -- a turn, after which later turns come if there were some before it
    turn_comes : (s size m x i : ℕ) (b : Codes) → Lawful p (Begun s size m x i b) → (a : Contents)
        → LeftRun p n (single (before_rest b (in_piece s size m x i (before_turns l s size (m + 1) x i b k)))) a t z
        → Comes (doing nest l (Begun s size m x i b) (state_of k a steps))
    turn_comes s size m x i b h a r = by (has_piece (k.environment.windows s) size (m + 1)) refl r
      where
        to : Environment
        to = with_piece x i (piece_at size m (k.environment.windows s)) m k.environment

        st : S
        st = state_of (record k { environment = to }) a steps

        further : S → S
        further = one_run p fresh nest (Pieces l s size (m + 1) x i b)

        body : AreLawful p b
        body = are_lawful p b (lawful_parts p h.parts.procedure (x ∷ h.parts.scope) b h.parts.follows) h.text

        later : Lawful p (Begun s size (m + 1) x i b)
        later = record { parts = h.parts; text = h.text }

        -- the block leaves the section as it is
        kept : k.environment.windows s ≡ (blk nest b st).environment.windows s
        kept =
            let parts = h.parts in
            at_piece p parts.procedure parts.scope k.environment s x i parts.cuts (piece_at size m (k.environment.windows s)) m s parts.cuts.in_scope
            ∙ run_keeps p (one_rules p fresh nest) (one_rules_keep p fresh nest) parts.procedure (Block b) (x ∷ parts.scope) parts.follows st s (next parts.cuts.in_scope)
            ∙ ap (λ (out : S). out.environment.windows s) (one-block nest b st)

        none_further : has_piece (k.environment.windows s) size (m + 1) ≡ false → go_on further (blk nest b st) ≡ blk nest b st
        none_further none = flow_agree (blk nest b st).flow (blk nest b st) further (λ st. st)
            (no-pieces nest l s size (m + 1) x i b (blk nest b st) (ap (λ w. has_piece w size (m + 1)) (sym kept) ∙ none))
            ∙ nothing_else (blk nest b st)

        by : (left : Bool) → has_piece (k.environment.windows s) size (m + 1) ≡ left
            → LeftRun p n (single (before_rest b (in_piece s size m x i (if left then record k { rest = Then l (Begun s size (m + 1) x i b) k.rest } else k)))) a t z
            → Comes (go_on further (blk nest b st))
        by true left r =
            let out = list nest b st in
            comes_same (ap (λ (out : S). calls nest k.callers (go_on (list nest k.rest) (go_on further out))) (sym (list_text nest b h.text st))
            ∙ ap (calls nest k.callers)
            (sym (go_on_twice out (list nest (Then l (Begun s size (m + 1) x i b) k.rest)) (list nest k.rest) further (λ e. refl))
            ∙ sym (list-append nest b (Then l (Begun s size (m + 1) x i b) k.rest) st refl)))
            (goes_on (record k { environment = to; rest = append b (Then l (Begun s size (m + 1) x i b) k.rest) }) a faultless
            (lawful_append p b (Then l (Begun s size (m + 1) x i b) k.rest) body (later, lawful.0), lawful.1) r)
        by false none r = subst Comes (sym (none_further none)) (block_comes b h.text body to a r)

    split_comes : (s : ℕ) (e : Number) (x y : ℕ) (b : Codes) → Lawful p (Split s e x y b) → (a : Contents)
        → LeftRun p n (tree_after p l (Split s e x y b) k a) a t z
        → Comes (doing nest l (Split s e x y b) (state_of k a steps))
    split_comes s e x y b h a r =
        subst Comes (value_twice l (number k.environment (read a) e) (λ v. ok_or (sides_of (k.environment.windows s) v) SplitPoint)
        (λ ws st. blk nest b (record st { environment = with_sides x y ws st.environment })) (state_of k a steps))
        (value_comes (then_try (number k.environment (read a) e) (λ v. ok_or (sides_of (k.environment.windows s) v) SplitPoint))
        (λ ws st. blk nest b (record st { environment = with_sides x y ws st.environment }))
        (λ ws. single (before_rest b (record k { environment = with_sides x y ws k.environment }))) a r
        (λ ws r. block_comes b h.text (are_lawful p b h.parts h.text) (with_sides x y ws k.environment) a r))

    call_comes : (f : ℕ) (es : List Number) (ss : List ℕ) (a : Contents)
        → LeftRun p n (tree_after p l (Call f es ss) k a) a t z
        → Comes (doing nest l (Call f es ss) (state_of k a steps))
    call_comes f es ss a r =
        value_comes (numbers k.environment (read a) es)
        (λ vs. in_environment (entry vs (map k.environment.windows ss)) (one_run p fresh nest (Block (procedure_of p f).body)))
        (λ vs. single (called (procedure_of p f) (entry vs (map k.environment.windows ss)) k)) a r
        (λ vs r.
        let j = called (procedure_of p f) (entry vs (map k.environment.windows ss)) k in
        let g = procedure_of p f in
        let text = by_rules.texts.procedures f in
        comes_same (ap (λ (out : S). calls nest k.callers (go_on (list nest k.rest) (record out { environment = k.environment })))
        (one-block nest g.body (state_of j a steps) ∙ sym (list_text nest g.body text (state_of j a steps))))
        (goes_on j a faultless (are_lawful p g.body (by_rules.procedures f) text, lawful) r))

    async_comes : (b : Codes) → Lawful p (Async b) → (a : Contents) → LeftRun p n (Beside (single (child b k)) (single (parent k))) a t z
        → Comes (doing nest l (Async b) (state_of k a steps))
    async_comes b lawful_body a r = by nest in_nest
      where
        h : Halves p n (single (child b k)) (single (parent k)) a t z
        h = halves p n r d

        left_less : h.first_count ≤ n
        left_less = let c = h.count in omega arith

        right_less : h.second_count ≤ n
        right_less = let c = h.count in omega arith

        -- the state after the async, given the result of the body's run from the lines so far
        behind_it : S → S
        behind_it out = record (state_of k a steps) {
          flow = after_async out.flow;
          store = out.store;
          lines = out.lines;
          faults = out.faults;
          spawned = k.spawned + 1;
        }

        second : ComesTo h.second_count steps k.path h.behind.tree z (task nest k.rest k.callers (state_of (parent k) h.middle steps))
        second = deeper h.second_count right_less nest steps (parent k) h.middle h.behind.tree z (omega (arith, right_less)) (omega (arith, right_less)) (omega (arith, right_less)) refl lawful h.behind.run h.behind.done

        after : (flow : Flow) → (flow ≡ Stopped → ⊥) → (path : List ℕ) (left : ℕ)
            → behind_it (end_state path h.tree h.middle flow left)
            ≡ behind (lines_of h.tree) (faults_of h.tree) (state_of (parent k) h.middle steps)
        after flow on path left =
            ap (λ f. record (state_of k h.middle steps) { flow = f; lines = lines_of h.tree; faults = faults_of h.tree; spawned = k.spawned + 1 }) (async_on flow on)
            ∙ sym (behind-nothing (lines_of h.tree) (faults_of h.tree) (state_of (parent k) h.middle steps))

        begun : (m : ℕ)
            → begin_one p fresh (suc m) b (state_of k a steps) ≡ behind_it (blk m b (state_of (child b k) a fresh))
        begun m =
            ap (after_body (state_of k a steps)) (one-block m b (child_state fresh (state_of k a steps)))
            ∙ ap behind_it (sym (block_adds m b k.lines k.faults (child_state fresh (state_of k a steps)))
            ∙ ap (blk m b) (behind-nothing k.lines k.faults (child_state fresh (state_of k a steps))))

        body : (m : ℕ) → n ≤ m
            → ComesTo h.first_count fresh (k.path ++ (k.spawned + 1) ∷ []) h.tree h.middle (blk m b (state_of (child b k) a fresh))
        body m le = comes_same (sym (list_text m b lawful_body.text (state_of (child b k) a fresh)))
            (deeper h.first_count left_less m fresh (child b k) a h.tree h.middle (omega (arith, left_less)) (omega (arith, left_less)) (omega (arith, left_less)) faultless
            (are_lawful p b lawful_body.parts lawful_body.text, tt) h.first h.done)

        so : (m : ℕ) → n ≤ m → begin_one p fresh (suc m) b (state_of k a steps)
            ≡ behind (lines_of h.tree) (faults_of h.tree) (state_of (parent k) h.middle steps)
        so m le = let c = body m le in begun m ∙ ap behind_it c.meaning ∙ after c.flow c.goes (k.path ++ (k.spawned + 1) ∷ []) c.left

        whole : calls nest k.callers (list nest k.rest (behind (lines_of h.tree) (faults_of h.tree) (state_of (parent k) h.middle steps)))
            ≡ end_state k.path t z second.flow second.left
        whole =
            ap (calls nest k.callers) (list_adds nest k.rest (lines_of h.tree) (faults_of h.tree) (state_of (parent k) h.middle steps))
            ∙ calls_adds nest k.callers (lines_of h.tree) (faults_of h.tree) (list nest k.rest (state_of (parent k) h.middle steps))
            ∙ ap (behind (lines_of h.tree) (faults_of h.tree)) second.meaning
            ∙ ap (λ t. end_state k.path t z second.flow second.left) (sym h.behind.both)

        comes : Comes (behind (lines_of h.tree) (faults_of h.tree) (state_of (parent k) h.middle steps))
        comes = record {
          flow = second.flow;
          goes = second.goes;
          left = second.left;
          enough = (let e = second.enough in let c = h.count in omega arith);
          meaning = whole;
        }

        by : (m : ℕ) → suc n ≤ m → Comes (begin_one p fresh m b (state_of k a steps))
        by zero le = absurd (omega arith)
        by (suc m) le = subst Comes (sym (so m (omega arith))) comes

    finish_comes : (b : Codes) → AreLawful p b → IsText b → (h : Handler) → IsLawfulHandler h → (a : Contents)
        → LeftRun p n (and_then (single (inside b k)) h (held_back k)) a t z
        → Comes (ending nest h (doing nest l (Finish b) (state_of k a steps)))
    finish_comes b lawful_body text h lawful_handler a r =
        subst (λ out. Comes (ending nest h out)) (sym (finish_is nest l b (state_of k a steps) faultless ∙ ap left_by body.meaning))
        (by h lawful_handler (faults_of f.tree) refl f.behind)
      where
        f : Finished p n (single (inside b k)) h (held_back k) a t z
        f = finished p n (single (inside b k)) h (held_back k) (all_done (single (inside b k))) refl a t z r d

        first_less : f.first_count ≤ n
        first_less = let c = f.count in omega arith

        body : ComesTo f.first_count steps k.path f.tree f.middle (blk nest b (state_of k a steps))
        body = comes_same (sym (list_text nest b text (state_of k a steps)))
            (deeper f.first_count first_less nest steps (inside b k) a f.tree f.middle (omega (arith, first_less)) (omega (arith, first_less)) (omega (arith, first_less)) faultless
            (lawful_body, tt) f.first f.done)

        left_by : S → S
        left_by out = record out { flow = after_finish out.flow out.faults }

        -- the leaf after the finish
        j : Leaf
        j = record k {
          environment = owner_environment f.tree;
          spawned = (rightmost f.tree).spawned;
          lines = lines_of f.tree;
          faults = faults_of f.tree;
        }

        second_less : f.second_count ≤ n
        second_less = let c = f.count in omega arith

        second_in : f.second_count ≤ body.left
        second_in = let c = f.count in let e = body.enough in omega arith

        with_flow : Flow → S
        with_flow x = record (state_of j f.middle body.left) { flow = x }

        -- with the steps of the body
        in_all : (out : S) → ComesTo f.second_count body.left k.path t z (calls nest k.callers (go_on (list nest k.rest) out)) → Comes out
        in_all out c = record {
          flow = c.flow;
          goes = c.goes;
          left = c.left;
          enough = (let x = c.enough in let y = body.enough in let w = f.count in omega arith);
          meaning = c.meaning;
        }

        -- without faults the leaf continues
        on_comes : faults_of f.tree ≡ [] → LeftRun p f.second_count (Single (returned j)) f.middle t z → Comes (with_flow On)
        on_comes e r = in_all (with_flow On)
            (deeper f.second_count second_less nest body.left j f.middle t z (omega (arith, second_less)) (omega (arith, second_less)) second_in e lawful r d)

        by : (h : Handler) → IsLawfulHandler h → (fs : List Fault) → faults_of f.tree ≡ fs
            → LeftRun p f.second_count (Single (after_faults h fs j)) f.middle t z
            → Comes (ending nest h (with_flow (after_finish body.flow (faults_of f.tree))))
        by NoHandler lawful_handler [] e r =
            subst (λ x. Comes (with_flow x)) (sym (ap (after_finish body.flow) e ∙ finish_on body.flow body.goes)) (on_comes e r)
        by NoHandler lawful_handler (x ∷ fs) e r =
            subst (λ x. Comes (with_flow x)) (sym (ap (after_finish body.flow) e ∙ finish_faulted body.flow body.goes x fs))
            (in_all (with_flow Faulted)
            (done_comes f.second_count body.left (done j) f.middle Faulted t z (calls nest k.callers (with_flow Faulted)) faulted_on refl r
            (faulted_calls nest k.callers (with_flow Faulted) refl)))
        by (HandledBy y c) lawful_handler [] e r =
            subst (λ x. Comes (ending nest (HandledBy y c) (with_flow x))) (sym (ap (after_finish body.flow) e ∙ finish_on body.flow body.goes))
            (on_comes e r)
        by (HandledBy y c) lawful_handler (x ∷ fs) e r =
            let i = handling y c j in
            let st = state_of i f.middle body.left in
            let whole : length (faults_of f.tree) - 0 ≡ length (faults_of f.tree) = omega arith in
            let starts : caught y [] (with_flow Faulted) ≡ st =
            ap (λ (m : ℕ). let to : S = record st { environment = record j.environment { scalars = bind y (pos m) j.environment.scalars } } in to) whole in
            let enters : list nest (append c k.rest) st ≡ go_on (list nest k.rest) (blk nest c (caught y [] (with_flow Faulted))) =
            list-append nest c k.rest st refl
            ∙ ap (go_on (list nest k.rest)) (list_text nest c lawful_handler.1 st ∙ ap (blk nest c) (sym starts)) in
            subst (λ x. Comes (ending nest (HandledBy y c) (with_flow x))) (sym (ap (after_finish body.flow) e ∙ finish_faulted body.flow body.goes x fs))
            (in_all (blk nest c (caught y [] (with_flow Faulted)))
            (comes_same (ap (calls nest k.callers) (sym enters))
            (deeper f.second_count second_less nest body.left i f.middle t z (omega (arith, second_less)) (omega (arith, second_less)) second_in refl
            (lawful_append p c k.rest lawful_handler.0 lawful.0, lawful.1) r d)))

    rescue_comes : (b : Codes) (x : ℕ) (c : Codes) → Lawful p (Rescue b x c) → (a : Contents)
        → LeftRun p n (and_then (single (inside b k)) (HandledBy x c) (held_back k)) a t z
        → Comes (doing nest l (Rescue b x c) (state_of k a steps))
    rescue_comes b x c h a r =
        subst Comes (ap (λ fs. rescued x (blk nest c) fs (doing nest l (Finish b) (state_of k a steps))) (sym faultless))
        (finish_comes b (are_lawful p b h.parts.0 h.text.0) h.text.0 (HandledBy x c) (are_lawful p c h.parts.1 h.text.1, h.text.1) a r)

    -- one more step
    one_more : {out : S} → ComesTo n steps k.path t z out → ComesTo (suc n) (suc steps) k.path t z out
    one_more c = record {
      flow = c.flow;
      goes = c.goes;
      left = c.left;
      enough = (let x = c.enough in omega arith);
      meaning = c.meaning;
    }

    -- a begun `parts` takes a step and does nothing if no turn is left
    begun_comes : (s size m x i : ℕ) (b : Codes) → Lawful p (Begun s size m x i b) → (a : Contents)
        → LeftRun p n (tree_after p l (Begun s size m x i b) k a) a t z
        → ComesTo (suc n) (suc steps) k.path t z
        (calls nest k.callers (go_on (list nest k.rest) (one_run p fresh nest (Pieces l s size m x i b) (state_of k a (suc steps)))))
    begun_comes s size m x i b h a r = by (has_piece (k.environment.windows s) size m) refl r
      where
        after : S → S
        after out = calls nest k.callers (go_on (list nest k.rest) out)

        by : (left : Bool) → has_piece (k.environment.windows s) size m ≡ left
            → LeftRun p n (single (if left then before_rest b (in_piece s size m x i (before_turns l s size (m + 1) x i b k)) else k)) a t z
            → ComesTo (suc n) (suc steps) k.path t z (after (one_run p fresh nest (Pieces l s size m x i b) (state_of k a (suc steps))))
        by true left r = comes_same (ap after (some-pieces nest l s size m x i b (state_of k a (suc steps)) left)) (one_more (turn_comes s size m x i b h a r))
        by false none r =
            let c = deeper n (omega arith) nest (suc steps) k a t z (omega arith) (omega arith) (omega arith) faultless lawful r d in
            comes_same (ap after (no-pieces nest l s size m x i b (state_of k a (suc steps)) none)) (record {
              flow = c.flow;
              goes = c.goes;
              left = c.left;
              enough = (let x = c.enough in omega arith);
              meaning = c.meaning;
            })

    statement_comes : (s : Code) → Lawful p s → (a : Contents) → LeftRun p n (tree_after p l s k a) (store_after p l s k a) t z
        → ComesTo (suc n) (suc steps) k.path t z (calls nest k.callers (go_on (list nest k.rest) (first nest l s (state_of k a (suc steps)))))
    statement_comes (Do s) h a r = one_more (do_comes s a r)
    statement_comes (If x b c) h a r = one_more (value_comes (truth k.environment (read a) x) (choose (blk nest b) (blk nest c)) (λ v. single (before_rest (if v then b else c) k)) a r
        (λ v r. if_comes x b c h a v r))
    statement_comes (While x b) h a r = one_more (value_comes (truth k.environment (read a) x) (choose (λ s. go_on (one_run p fresh nest (Turn l x b)) (blk nest b s)) (λ s. s))
        (λ v. single (if v then before_rest b (before_rest (Then l (While x b) End) k) else k)) a r (λ v r. while_comes x b h a v r))
    statement_comes (Split s e x y b) h a r = one_more (split_comes s e x y b h a r)
    statement_comes (Parts s e x i b) h a r = one_more (parts_comes s e x i b h a r)
    statement_comes (Begun s size m x i b) h a r = begun_comes s size m x i b h a r
    statement_comes (Call f es ss) h a r = one_more (call_comes f es ss a r)
    statement_comes (Async b) h a r = one_more (async_comes b h a r)
    statement_comes (Finish b) h a r = one_more (finish_comes b (are_lawful p b h.parts h.text) h.text NoHandler tt a r)
    statement_comes (Rescue b x c) h a r = one_more (rescue_comes b x c h a r)

  is_end : (c : Codes) → is_done c ≡ true → c ≡ End
  is_end End e = refl
  is_end (Then l s rest) e = cc

  -- if nothing is left of a leaf, nothing waits for its calls
  landed_by : (k : Leaf) (env : Environment) (fs : List Caller) (c : Codes)
      → (let j = return_to fs (record k { environment = env }) in j.rest ≡ End → j.callers ≡ [])
      → (let j = elim c as (λ c. Leaf) [
        | End ↦ return_to fs (record k { environment = env })
        | Then l s rest ↦ record k { environment = env; rest = Then l s rest; callers = fs }
      ] in j.rest ≡ End → j.callers ≡ [])
  landed_by k env fs End h = h
  landed_by k env fs (Then l s rest) h = λ e. cc

  landed : (fs : List Caller) (k : Leaf) → (return_to fs k).rest ≡ End → (return_to fs k).callers ≡ []
  landed [] k = λ e. refl
  landed (f ∷ fs) k = landed_by k f.environment fs f.rest (landed fs (record k { environment = f.environment }))

  returned_ends : (c : Codes) (k : Leaf) → k.rest ≡ c → (returned_by c k).rest ≡ End → (returned_by c k).callers ≡ []
  returned_ends End k e = landed k.callers k
  returned_ends (Then l s rest) k e = λ f. absurd (by (sym e ∙ f))
    where
      by : Then l s rest ≡ End → ⊥
      by e = cc

  faultless_by : (k : Leaf) (env : Environment) (fs : List Caller) (c : Codes)
      → (let j = return_to fs (record k { environment = env }) in (j.faults ≡ k.faults) × (j.path ≡ k.path))
      → (let j = elim c as (λ c. Leaf) [
        | End ↦ return_to fs (record k { environment = env })
        | Then l s rest ↦ record k { environment = env; rest = Then l s rest; callers = fs }
      ] in (j.faults ≡ k.faults) × (j.path ≡ k.path))
  faultless_by k env fs End h = h
  faultless_by k env fs (Then l s rest) h = (refl, refl)

  returned_to : (fs : List Caller) (k : Leaf) → ((return_to fs k).faults ≡ k.faults) × ((return_to fs k).path ≡ k.path)
  returned_to [] k = (refl, refl)
  returned_to (f ∷ fs) k = faultless_by k f.environment fs f.rest (returned_to fs (record k { environment = f.environment }))

  returned_as : (c : Codes) (k : Leaf) → ((returned_by c k).faults ≡ k.faults) × ((returned_by c k).path ≡ k.path)
  returned_as End k = returned_to k.callers k
  returned_as (Then l s rest) k = (refl, refl)

  -- a leaf that has gone back to its callers
  leaf_comes : HasLawfulParts p → (n : ℕ) → ((m : ℕ) → m < n → Claim m)
      → (nest steps : ℕ) (k : Leaf) (a : Contents) (t : Tree) (z : Contents)
      → n ≤ fresh → n ≤ nest → n ≤ steps → k.faults ≡ [] → IsLawful p k → (k.rest ≡ End → k.callers ≡ []) → LeftRun p n (Single k) a t z → all_done t ≡ true
      → ComesTo n steps k.path t z (task nest k.rest k.callers (state_of k a steps))
  leaf_comes by_rules zero deeper nest steps k a t z in_fresh in_nest in_steps e h ends ended d =
      let none = is_end k.rest d in
      comes_same (ap (λ c. task nest c k.callers (state_of k a steps)) none ∙ ap (λ fs. calls nest fs (state_of k a steps)) (ends none))
      (done_comes zero steps k a On (Single k) a (state_of k a steps) on_on none ended
      (ap (λ env. record (state_of k a steps) { environment = env }) (sym (ap (λ fs. outermost fs k.environment) (ends none)))))
  leaf_comes by_rules (suc n) deeper nest zero k a t z in_fresh in_nest in_steps e h ends r d = absurd (omega arith)
  leaf_comes by_rules (suc n) deeper nest (suc steps) k a t z in_fresh in_nest in_steps e h ends (goes (Step.here {l = l} {s = s} {rest = rest} {b = b} q f g) r) d =
      let lawful = subst (AreLawful p) q h.0 in
      comes_same (ap (λ c. task nest c k.callers (state_of k a (suc steps))) q)
      (statement_comes by_rules n (λ m le. deeper m (omega arith)) nest steps in_fresh in_nest (omega arith) l (record k { rest = rest }) e (lawful.1, h.1) t z d s lawful.0 a
      (subst (λ b. LeftRun p n (tree_after p l s (record k { rest = rest }) a) b t z) g (subst (λ u. LeftRun p n u b t z) f r)))

  all_come : HasLawfulParts p → (bound n : ℕ) → n < bound → Claim n
  all_come by_rules zero n h = λ nest steps k a t z in_fresh in_nest in_steps e i r d. absurd (omega arith)
  all_come by_rules (suc bound) n h = λ nest steps k a t z in_fresh in_nest in_steps e i r d.
      let j = returned k in
      let same = returned_as k.rest k in
      comes_same (returned_by-task nest k.rest k a steps refl)
      (subst (λ path. ComesTo n steps path t z (task nest j.rest j.callers (state_of j a steps))) same.1
      (leaf_comes by_rules n (λ m less. all_come by_rules bound m (omega arith)) nest steps j a t z in_fresh in_nest in_steps (same.0 ∙ e) (returned_lawful p k i)
      (returned_ends k.rest k refl) r d))

-- an ended run in which the first leaf always steps ends as one thread does
pub left_run_ends : (p : Program) → HasLawfulParts p → (input : List (List ℤ)) (n : ℕ) (t : Tree) (a : Contents)
    → LeftRun p n (first_tree p) (held_by input) t a → all_done t ≡ true
    → (b : Budget) → IsLarger b (record { steps = n; nest = n }) → outcome p input b ≡ Ended (tree_ending p t a)
left_run_ends p by_rules input n t a r d b larger =
    let st : S = start tt p b.steps (held_by input) in
    let body = are_lawful p p.main.body by_rules.main by_rules.texts.main in
    let c = all_come p b.steps by_rules (suc n) n (omega arith) b.nest b.steps (first_leaf p) (held_by input) t a larger.steps larger.nest larger.steps refl (body, tt) r d in
    ap at_end (one-block p b.steps b.nest p.main.body st ∙ sym (list_text p b.steps b.nest p.main.body by_rules.texts.main st) ∙ c.meaning) ∙ by c.flow c.goes c.left (faults_of t)
  where
    at_end : S → Outcome
    at_end out = outcome_of p ((one_rules p b.steps b.nest).leave (start tt p b.steps (held_by input)) out)

    by : (f : Flow) → (f ≡ Stopped → ⊥) → (left : ℕ) (fs : List Fault)
        → outcome_by (after_finish f fs) (tree_ending p t a) ≡ Ended (tree_ending p t a)
    by On h left [] = refl
    by On h left (x ∷ fs) = refl
    by Faulted h left [] = refl
    by Faulted h left (x ∷ fs) = refl
    by Stopped h left fs = absurd (h refl)
