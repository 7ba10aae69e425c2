-- A turn that has an action takes a step, and a turn that takes a step has an action or stops the
-- task.
use Rattle.std.proofs.Common.{◌≡◌, ℕ, zero, suc, ◌+◌, ◌≤◌, List, [], ◌∷◌, ◌++◌, refl, sym, inl}
use Rattle.std.proofs.Common.{inr, arith, le_refl}
use Rattle.std.specs.Prelude.{◌⊎◌, ◌&&◌, Bool, true, false, Option, if◌then◌else◌}
use Rattle.sections.specs.Place.{has_piece}
use Rattle.shared_lemmas.proofs.Truths.{false_true}
use Rattle.types.specs.Code.{Code, Do, If, While, Split, Parts, Begun, Call, Async, Finish, Rescue, Codes, End, Then}
use Rattle.types.specs.Code.{Program}
use Rattle.types.specs.Run.{Flow, On, Faulted, Stopped, State, counted, window_at}
use Rattle.effects.specs.Needs.{Needs}
use Rattle.task_run.specs.Results.{Settled}
use Rattle.task_run.specs.OwnRun.{Action, Step, Spawn, EnterFinish, EndFinish, EndTask, Own, own_rules}
use Rattle.task_run.specs.Frames.{Frame, Rest, Again, Further, AtEnd, OnFault, Back, Standing, handled, turn, paid}
use Rattle.task_run.specs.Frames.{by_flow, done_by, done_at, done_in}
use Rattle.task_run.specs.Stops.{is_over, is_next_over, stops}
use Rattle.types.proofs.Counted.{counted_steps}
use Rattle.task_run.proofs.TasksEnd.{acted_less}
use Rattle.event_worlds.proofs.Histories.{nil_cons}

module _ (p : Program) (needs : Codes → Needs) (nest : ℕ) (close : State Own → Option Settled) where
  -- it has no action, or takes a step
  abbrev Pays : List Action → (to st : State Own) → Type 0
  Pays acts to st = (to.steps ≤ st.steps) × ((acts ≡ []) ⊎ (to.steps + 1 ≤ st.steps))

  paid_pays : (n l : ℕ) (c : Code) (fs : List (Frame Own)) (st : State Own) → n ≡ st.steps
      → Pays (done_by needs nest n c st) (paid p (own_rules needs nest close) n l c fs st).state st
  paid_pays zero l c fs st e = (le_refl st.steps, inl refl)
  paid_pays (suc n) l c fs st e =
      let mid = counted (own_rules needs nest close) l c (record st { steps = n }) in
      let i = acted_less p needs nest close c l fs mid in
      let k = counted_steps (own_rules needs nest close) l (record st { steps = n }) c in
      (omega (arith, e, i, k), inr (omega (arith, e, i, k)))

  flow_pays : (g : Flow) (l : ℕ) (c : Code) (fs below : List (Frame Own)) (st : State Own)
      → Pays (done_at needs nest g c st) (by_flow p (own_rules needs nest close) g l c fs below st).state st
  flow_pays On l c fs below st = paid_pays st.steps l c fs st refl
  flow_pays Faulted l c fs below st = (le_refl st.steps, inl refl)
  flow_pays Stopped l c fs below st = (le_refl st.steps, inl refl)

  -- so does a turn
  pub turn_pays : (f : Frame Own) (fs : List (Frame Own)) (st : State Own)
      → Pays (done_in needs nest f st) (turn p (own_rules needs nest close) f fs st).state st
  turn_pays (Rest End) fs st = (le_refl st.steps, inl refl)
  turn_pays (Rest (Then l s rest)) fs st = flow_pays st.flow l s (Rest rest ∷ fs) fs st
  turn_pays (Again l t b) fs st = flow_pays st.flow l (While t b) fs fs st
  turn_pays (Further l s n k q i b) fs st = by (has_piece (window_at st s) n k)
    where
      c : Code
      c = Begun s n k q i b

      by : (left : Bool) → Pays (if left then done_at needs nest st.flow c st else [])
          (if◌then◌else◌ {A = Standing Own} left (by_flow p (own_rules needs nest close) st.flow l c fs fs st) (record { frames = fs; state = st })).state st
      by true = flow_pays st.flow l c fs fs st
      by false = (le_refl st.steps, inl refl)
  turn_pays (AtEnd before) fs st = (le_refl st.steps, inl refl)
  turn_pays (OnFault before x b) fs st = by st.flow
    where
      by : (g : Flow) → Pays [] (handled g before x b fs st).state st
      by On = (le_refl st.steps, inl refl)
      by Faulted = (le_refl st.steps, inl refl)
      by Stopped = (le_refl st.steps, inl refl)
  turn_pays (Back env) fs st = (le_refl st.steps, inl refl)

  -- if a step is left, a statement has an action, or is an async over the budget
  acts : (m n : ℕ) (c : Code) (st : State Own) → done_by needs m (suc n) c st ≡ [] → is_over m (suc n) c ≡ false → ⊥
  acts zero n (Async b) st e k = false_true (sym k)
  acts (suc m) n (Async b) st e k = nil_cons (sym e)
  acts zero n (Finish b) st e k = nil_cons (sym e)
  acts zero n (Rescue b x d) st e k = nil_cons (sym e)
  acts zero n (Do s) st e k = nil_cons (sym e)
  acts zero n (If t b c) st e k = nil_cons (sym e)
  acts zero n (While t b) st e k = nil_cons (sym e)
  acts zero n (Split s i x y b) st e k = nil_cons (sym e)
  acts zero n (Parts s i x y b) st e k = nil_cons (sym e)
  acts zero n (Begun s z j x y b) st e k = nil_cons (sym e)
  acts zero n (Call f es ss) st e k = nil_cons (sym e)
  acts (suc m) n (Finish b) st e k = nil_cons (sym e)
  acts (suc m) n (Rescue b x d) st e k = nil_cons (sym e)
  acts (suc m) n (Do s) st e k = nil_cons (sym e)
  acts (suc m) n (If t b c) st e k = nil_cons (sym e)
  acts (suc m) n (While t b) st e k = nil_cons (sym e)
  acts (suc m) n (Split s i x y b) st e k = nil_cons (sym e)
  acts (suc m) n (Parts s i x y b) st e k = nil_cons (sym e)
  acts (suc m) n (Begun s z j x y b) st e k = nil_cons (sym e)
  acts (suc m) n (Call f es ss) st e k = nil_cons (sym e)

  paid_idle : (n l : ℕ) (c : Code) (fs : List (Frame Own)) (st : State Own) → n ≡ st.steps
      → done_by needs nest n c st ≡ [] → is_over nest n c ≡ false
      → st.steps ≤ (paid p (own_rules needs nest close) n l c fs st).state.steps
  paid_idle zero l c fs st e none k = le_refl st.steps
  paid_idle (suc n) l c fs st e none k = absurd (acts nest n c st none k)

  flow_idle : (g : Flow) (l : ℕ) (c : Code) (fs below : List (Frame Own)) (st : State Own)
      → done_at needs nest g c st ≡ [] → is_next_over nest g st.steps c ≡ false
      → st.steps ≤ (by_flow p (own_rules needs nest close) g l c fs below st).state.steps
  flow_idle On l c fs below st none k = paid_idle st.steps l c fs st refl none k
  flow_idle Faulted l c fs below st none k = le_refl st.steps
  flow_idle Stopped l c fs below st none k = le_refl st.steps

  -- a turn without an action takes no step, unless it is over the budget
  pub turn_idle : (f : Frame Own) (fs : List (Frame Own)) (st : State Own)
      → done_in needs nest f st ≡ [] → stops nest f st ≡ false
      → st.steps ≤ (turn p (own_rules needs nest close) f fs st).state.steps
  turn_idle (Rest End) fs st none k = le_refl st.steps
  turn_idle (Rest (Then l s rest)) fs st none k = flow_idle st.flow l s (Rest rest ∷ fs) fs st none k
  turn_idle (Again l t b) fs st none k = flow_idle st.flow l (While t b) fs fs st none k
  turn_idle (Further l s n j q i b) fs st none k = by (has_piece (window_at st s) n j) none k
    where
      c : Code
      c = Begun s n j q i b

      by : (left : Bool) → (if left then done_at needs nest st.flow c st else []) ≡ []
          → (left && is_next_over nest st.flow st.steps c) ≡ false
          → st.steps
          ≤ (if◌then◌else◌ {A = Standing Own} left (by_flow p (own_rules needs nest close) st.flow l c fs fs st) (record { frames = fs; state = st })).state.steps
      by true none k = flow_idle st.flow l c fs fs st none k
      by false none k = le_refl st.steps
  turn_idle (AtEnd before) fs st none k = le_refl st.steps
  turn_idle (OnFault before x b) fs st none k = by st.flow
    where
      by : (g : Flow) → st.steps ≤ (handled g before x b fs st).state.steps
      by On = le_refl st.steps
      by Faulted = le_refl st.steps
      by Stopped = le_refl st.steps
  turn_idle (Back env) fs st none k = le_refl st.steps

  -- a spawned task has the next path
  abbrev pub Named : List ℕ → List Action → Type 0
  Named q [] = Unit {0}
  Named q (Spawn x ∷ rest) = x.path ≡ q
  Named q (Step ∷ rest) = Unit {0}
  Named q (EnterFinish ∷ rest) = Unit {0}
  Named q (EndFinish ∷ rest) = Unit {0}
  Named q (EndTask ∷ rest) = Unit {0}

  named_by : (m n : ℕ) (c : Code) (st : State Own) → Named (st.path ++ (st.spawned + 1) ∷ []) (done_by needs m n c st)
  named_by m zero c st = tt
  named_by zero (suc n) (Async b) st = tt
  named_by (suc m) (suc n) (Async b) st = refl
  named_by zero (suc n) (Finish b) st = tt
  named_by zero (suc n) (Rescue b x d) st = tt
  named_by zero (suc n) (Do s) st = tt
  named_by zero (suc n) (If t b c) st = tt
  named_by zero (suc n) (While t b) st = tt
  named_by zero (suc n) (Split s i x y b) st = tt
  named_by zero (suc n) (Parts s i x y b) st = tt
  named_by zero (suc n) (Begun s z j x y b) st = tt
  named_by zero (suc n) (Call f es ss) st = tt
  named_by (suc m) (suc n) (Finish b) st = tt
  named_by (suc m) (suc n) (Rescue b x d) st = tt
  named_by (suc m) (suc n) (Do s) st = tt
  named_by (suc m) (suc n) (If t b c) st = tt
  named_by (suc m) (suc n) (While t b) st = tt
  named_by (suc m) (suc n) (Split s i x y b) st = tt
  named_by (suc m) (suc n) (Parts s i x y b) st = tt
  named_by (suc m) (suc n) (Begun s z j x y b) st = tt
  named_by (suc m) (suc n) (Call f es ss) st = tt

  named_at : (g : Flow) (c : Code) (st : State Own) → Named (st.path ++ (st.spawned + 1) ∷ []) (done_at needs nest g c st)
  named_at On c st = named_by nest st.steps c st
  named_at Faulted c st = tt
  named_at Stopped c st = tt

  pub turn_names : (f : Frame Own) (st : State Own) → Named (st.path ++ (st.spawned + 1) ∷ []) (done_in needs nest f st)
  turn_names (Rest End) st = tt
  turn_names (Rest (Then l s rest)) st = named_at st.flow s st
  turn_names (Again l t b) st = named_at st.flow (While t b) st
  turn_names (Further l s n k q i b) st = by (has_piece (window_at st s) n k)
    where
      by : (left : Bool) → Named (st.path ++ (st.spawned + 1) ∷ []) (if left then done_at needs nest st.flow (Begun s n k q i b) st else [])
      by true = named_at st.flow (Begun s n k q i b) st
      by false = tt
  turn_names (AtEnd before) st = tt
  turn_names (OnFault before x b) st = tt
  turn_names (Back env) st = tt
