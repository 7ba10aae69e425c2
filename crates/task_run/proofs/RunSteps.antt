-- The effect of statements on a run, once their step has been taken.
use Rattle.std.proofs.Common.{◌≡◌, ◌≢◌, ◌⊎◌, ℕ, zero, suc, ◌+◌, ◌-◌, List, [], ◌∷◌, ◌++◌, Ok, Err, refl, sym, ap, ◌∙◌, subst, inl, inr, arith}
use Rattle.std.specs.Prelude.{ℤ, Bool, true, false, Option}
use Rattle.sections.specs.Place.{Place}
use Rattle.types.specs.Code.{Code, Codes, Number, Truth, Program, Primitive, Skip, Assign, Store, Print, Raise, Do, If, While, Split, Parts, Begun, Call, Async, Finish, Rescue}
use Rattle.types.specs.Run.{State, Fault, Rules, Flow, On, primitive, number_at, numbers_at, window_at, with_value, put, array_of}
use Rattle.types.specs.Run.{counted}
use Rattle.types.specs.Translation.{program}
use Rattle.types.specs.Value.{Valued, element_of, holds_number}
use Rattle.effects.specs.Needs.{Needs}
use Rattle.statement_steps.specs.declared.flow.Flow.{Flow as rFlow}
use Rattle.statement_steps.specs.declared.flow.Flow.TheVariants.{On as rOn, Stopped as rStopped}
use Rattle.statement_steps.specs.declared.thread.Thread.{Thread}
use Rattle.statement_steps.specs.Standing.{KeepsTask, flow as flow_of}
use Rattle.task_run.specs.Frames.{Frame, by_flow, acted, handled, done_at, done_by, paid}
use Rattle.task_run.specs.OwnRun.{Own, Action, EnterFinish, Spawn, Step, begin_own, child_of, list_child, notes, own_rules}
use Rattle.task_run.specs.Results.{Settled}
use Rattle.task_run.specs.RunTurns.{Acts, CanAct, DidAct, DidNext, DoneAs}
use Rattle.task_run.specs.Standings.{IsAt, Shows, ShowsFrame, Stacked, state_of, with_own}
use Rattle.task_run.specs.Stops.{is_next_over, is_over}
use Rattle.task_run.specs.Translation.{owned_by}
use Rattle.task_run.specs.declared.frame.TaskFrame.{TaskFrame as rFrame}
use Rattle.task_run.specs.declared.memory.TaskMemory.{TaskMemory}
use Rattle.task_run.specs.declared.run.Run.{Run}
use Rattle.task_run.specs.declared.turn.Done.{Done}
use Rattle.task_run.specs.declared.turn.Done.TheVariants.{Gone, Entered}

-- ---- frames

-- one more frame
pub stacked-pushed : (gs hs : List rFrame) (g : rFrame) (f : Frame Own) (fs : List (Frame Own)) → hs ≡ gs ++ g ∷ [] → ShowsFrame g f
    → Stacked gs fs → Stacked hs (f ∷ fs)
stacked-pushed gs hs g f fs e shows stacked = (gs, g, e, shows, stacked)

-- ---- statements of one step

module _ (x : Own) (l : ℕ) where
  value_own : {A : Type 0} (r : Valued A) (f : A → State (Unit {0}) → State (Unit {0})) (g : A → State Own → State Own)
      → ((v : A) (st : State (Unit {0})) → with_own x (f v st) ≡ g v (with_own x st)) → (st : State (Unit {0}))
      → with_own x (with_value l r f st) ≡ with_value l r g (with_own x st)
  value_own (Ok v) f g h st = h v st
  value_own (Err k) f g h st = refl

  put_own : (fits : Bool) (q : Place) (v : ℤ) (st : State (Unit {0})) → with_own x (put l fits q v st) ≡ put l fits q v (with_own x st)
  put_own true q v st = refl
  put_own false q v st = refl

  -- they don't change what a run keeps in addition
  pub primitive_own : (p : Program) (s : Primitive) (st : State (Unit {0}))
      → with_own x (primitive p l s st) ≡ primitive p l s (with_own x st)
  primitive_own p Skip st = refl
  primitive_own p (Assign y e) st = value_own (number_at st e) _ _ (λ v st. refl) st
  primitive_own p (Store s i e) st =
      value_own (number_at st i) _ _ (λ at s1.
      value_own (number_at st e) _ _ (λ v s2.
      value_own (element_of (window_at st s) at) _ _ (λ q s3.
      put_own (holds_number (array_of p q.array).element v) q v s3) s2) s1) st
  primitive_own p (Print es) st = value_own (numbers_at st es) _ _ (λ vs st. refl) st
  primitive_own p (Raise e) st = value_own (number_at st e) _ _ (λ v st. refl) st

abbrev pub shape : TaskMemory → Place → Bool
shape m = owned_by m.holdings

-- ---- the tasks that a run represents

-- a run whose task keeps what it has
pub shows_kept : (old : Run) (t : Thread TaskMemory) (fs : List (Frame Own)) (x : Own) → KeepsTask shape old.thread t → Shows old fs x
    → Shows (record old { thread = t }) fs x
shows_kept old t fs x kept shows = record {
  frames = shows.frames;
  owned = shows.owned ∙ sym kept.memory;
  pending = shows.pending;
  few = omega (arith, shows.few, kept.steps, kept.spawned);
}

-- ---- recorded steps

module _ (needs : Codes → Needs) (l : ℕ) (old new : Run) where
  -- one more step is recorded
  pub shows_noted : (fs : List (Frame Own)) (x : Own) (a : Action) → Shows old fs x → Shows old fs (notes a x)
  shows_noted fs x a shows = record { frames = shows.frames; owned = shows.owned; pending = shows.pending; few = shows.few }

  pub noted : (c : Code)
      → ((close : State Own → Option Settled) (st : State Own)
      → counted (own_rules needs old.thread.nest close) l c st ≡ record st { extra = notes Step st.extra })
      → ((x : Own) → DoneAs (done_by needs old.thread.nest 1 c (with_own x (state_of old.thread))) (is_over old.thread.nest 1 c) Gone)
      → Acts l c old new → DidAct needs l c old Gone new
  noted c steps done acts = λ close.
      let r = own_rules needs old.thread.nest close in
      let turns = acts needs close in
      record {
        turns = record {
          plan = turns.plan;
          nest = turns.nest;
          stands = λ fs x shows. subst (λ (st : State Own). IsAt new (acted (program old.plan.program.now) r l c fs st))
              (sym (steps close (with_own x (state_of old.thread))))
              (turns.stands fs (notes Step x) (shows_noted fs x Step shows));
        };
        noted = done;
      }

  done_Do : (nest : ℕ) (s : Primitive) (st : State Own) → done_by needs nest 1 (Do s) st ≡ Step ∷ []
  done_Do zero s st = refl
  done_Do (suc n) s st = refl

  done_If : (nest : ℕ) (t : Truth) (b c : Codes) (st : State Own) → done_by needs nest 1 (If t b c) st ≡ Step ∷ []
  done_If zero t b c st = refl
  done_If (suc n) t b c st = refl

  done_While : (nest : ℕ) (t : Truth) (b : Codes) (st : State Own) → done_by needs nest 1 (While t b) st ≡ Step ∷ []
  done_While zero t b st = refl
  done_While (suc n) t b st = refl

  done_Split : (nest : ℕ) (s x y : ℕ) (e : Number) (b : Codes) (st : State Own) → done_by needs nest 1 (Split s e x y b) st ≡ Step ∷ []
  done_Split zero s x y e b st = refl
  done_Split (suc n) s x y e b st = refl

  done_Parts : (nest : ℕ) (s q i : ℕ) (e : Number) (b : Codes) (st : State Own) → done_by needs nest 1 (Parts s e q i b) st ≡ Step ∷ []
  done_Parts zero s q i e b st = refl
  done_Parts (suc n) s q i e b st = refl

  done_Begun : (nest : ℕ) (s n k q i : ℕ) (b : Codes) (st : State Own) → done_by needs nest 1 (Begun s n k q i b) st ≡ Step ∷ []
  done_Begun zero s n k q i b st = refl
  done_Begun (suc m) s n k q i b st = refl

  done_Call : (nest : ℕ) (f : ℕ) (es : List Number) (ss : List ℕ) (st : State Own) → done_by needs nest 1 (Call f es ss) st ≡ Step ∷ []
  done_Call zero f es ss st = refl
  done_Call (suc n) f es ss st = refl

  pub did_Do : (s : Primitive) → Acts l (Do s) old new → DidAct needs l (Do s) old Gone new
  did_Do s = noted (Do s) (λ close st. refl) (λ x. (refl, inr (done_Do old.thread.nest s (with_own x (state_of old.thread)))))

  pub did_If : (t : Truth) (b c : Codes) → Acts l (If t b c) old new → DidAct needs l (If t b c) old Gone new
  did_If t b c = noted (If t b c) (λ close st. refl) (λ x. (refl, inr (done_If old.thread.nest t b c (with_own x (state_of old.thread)))))

  pub did_While : (t : Truth) (b : Codes) → Acts l (While t b) old new → DidAct needs l (While t b) old Gone new
  did_While t b = noted (While t b) (λ close st. refl) (λ x. (refl, inr (done_While old.thread.nest t b (with_own x (state_of old.thread)))))

  pub did_Split : (s x y : ℕ) (e : Number) (b : Codes) → Acts l (Split s e x y b) old new → DidAct needs l (Split s e x y b) old Gone new
  did_Split s x y e b = noted (Split s e x y b) (λ close st. refl)
      (λ z. (refl, inr (done_Split old.thread.nest s x y e b (with_own z (state_of old.thread)))))

  pub did_Parts : (s q i : ℕ) (e : Number) (b : Codes) → Acts l (Parts s e q i b) old new → DidAct needs l (Parts s e q i b) old Gone new
  did_Parts s q i e b = noted (Parts s e q i b) (λ close st. refl)
      (λ z. (refl, inr (done_Parts old.thread.nest s q i e b (with_own z (state_of old.thread)))))

  pub did_Begun : (s n k q i : ℕ) (b : Codes) → Acts l (Begun s n k q i b) old new → DidAct needs l (Begun s n k q i b) old Gone new
  did_Begun s n k q i b = noted (Begun s n k q i b) (λ close st. refl)
      (λ z. (refl, inr (done_Begun old.thread.nest s n k q i b (with_own z (state_of old.thread)))))

  pub did_Call : (f : ℕ) (es : List Number) (ss : List ℕ) → Acts l (Call f es ss) old new → DidAct needs l (Call f es ss) old Gone new
  did_Call f es ss = noted (Call f es ss) (λ close st. refl)
      (λ x. (refl, inr (done_Call old.thread.nest f es ss (with_own x (state_of old.thread)))))

-- ---- statements of one step, and the start of a finish

-- a statement of one step
pub acts_primitive : (l : ℕ) (s : Primitive) (old : Run) (t : Thread TaskMemory)
    → state_of t ≡ primitive (program old.plan.program.now) l s (state_of old.thread) → KeepsTask shape old.thread t
    → Acts l (Do s) old (record old { thread = t })
acts_primitive l s old t state kept = λ needs close. record {
  plan = refl;
  nest = kept.nest;
  stands = λ fs x shows. record {
    own = x;
    shows = shows_kept old t fs x kept shows;
    is = ap (with_own x) state ∙ primitive_own x l (program old.plan.program.now) s (state_of old.thread);
  };
}

-- the start of a finish is no step
pub did_Finish : (needs : Codes → Needs) (l : ℕ) (b : Codes) (old new : Run) → Acts l (Finish b) old new
    → DidAct needs l (Finish b) old Entered new
did_Finish needs l b old new acts = λ close. record {
  turns = acts needs close;
  noted = λ x. (refl, entered old.thread.nest (with_own x (state_of old.thread)));
}
  where
    entered : (nest : ℕ) (st : State Own) → done_by needs nest 1 (Finish b) st ≡ EnterFinish ∷ []
    entered zero st = refl
    entered (suc n) st = refl

-- nor is that of a finish with a handler
pub did_Rescue : (needs : Codes → Needs) (l x : ℕ) (b d : Codes) (old new : Run) → Acts l (Rescue b x d) old new
    → DidAct needs l (Rescue b x d) old Entered new
did_Rescue needs l x b d old new acts = λ close. record {
  turns = acts needs close;
  noted = λ y. (refl, entered old.thread.nest (with_own y (state_of old.thread)));
}
  where
    entered : (nest : ℕ) (st : State Own) → done_by needs nest 1 (Rescue b x d) st ≡ EnterFinish ∷ []
    entered zero st = refl
    entered (suc n) st = refl

-- ---- behind a finish
-- the handler isn't next if the task hasn't faulted
pub unhandled : (f : rFlow) (before : List Fault) (x : ℕ) (c : Codes) (fs : List (Frame Own)) (st : State Own)
    → (f ≡ rOn) ⊎ (f ≡ rStopped) → handled (flow_of f) before x c fs st ≡ record { frames = fs; state = st }
unhandled f before x c fs st (inl e) = ap (λ (f : rFlow). handled (flow_of f) before x c fs st) e
unhandled f before x c fs st (inr e) = ap (λ (f : rFlow). handled (flow_of f) before x c fs st) e

-- the same statement, for equal code
pub did_same : (needs : Codes → Needs) (l : ℕ) (c k : Code) (old : Run) (d : Done) (new : Run) → c ≡ k → DidAct needs l c old d new
    → DidAct needs l k old d new
did_same needs l c k old d new e did = subst (λ (k : Code). DidAct needs l k old d new) e did

-- ---- steps that are taken

module _ (p : Program) (r : Rules Own) (l : ℕ) (c : Code) (fs : List (Frame Own)) where
  paid_step : (n m : ℕ) (st : State Own) → m + 1 ≡ n → paid p r n l c fs st ≡ acted p r l c fs (counted r l c (record st { steps = m }))
  paid_step zero m st e = absurd (omega (arith, e))
  paid_step (suc n) m st e =
      let same : n ≡ m = omega (arith, e) in
      ap (λ (k : ℕ). acted p r l c fs (counted r l c (record st { steps = k }))) same

module _ (needs : Codes → Needs) where
  done_any : (nest n m : ℕ) (c : Code) (st : State Own) → done_by needs nest (suc n) c st ≡ done_by needs nest 1 c (record st { steps = m })
  done_any zero n m (Do s) st = refl
  done_any zero n m (If t b c) st = refl
  done_any zero n m (While t b) st = refl
  done_any zero n m (Split s e x y b) st = refl
  done_any zero n m (Parts s e q i b) st = refl
  done_any zero n m (Begun s j k q i b) st = refl
  done_any zero n m (Call f es ss) st = refl
  done_any zero n m (Async b) st = refl
  done_any zero n m (Finish b) st = refl
  done_any zero n m (Rescue b x c) st = refl
  done_any (suc k) n m (Do s) st = refl
  done_any (suc k) n m (If t b c) st = refl
  done_any (suc k) n m (While t b) st = refl
  done_any (suc k) n m (Split s e x y b) st = refl
  done_any (suc k) n m (Parts s e q i b) st = refl
  done_any (suc k) n m (Begun s j h q i b) st = refl
  done_any (suc k) n m (Call f es ss) st = refl
  done_any (suc k) n m (Async b) st = refl
  done_any (suc k) n m (Finish b) st = refl
  done_any (suc k) n m (Rescue b x c) st = refl

  done_more : (nest n m : ℕ) (c : Code) (st : State Own) → m + 1 ≡ n
      → done_by needs nest n c st ≡ done_by needs nest 1 c (record st { steps = m })
  done_more nest zero m c st e = absurd (omega (arith, e))
  done_more nest (suc n) m c st e = done_any nest n m c st

over_more : (nest n m : ℕ) (c : Code) → m + 1 ≡ n → is_over nest n c ≡ is_over nest 1 c
over_more nest zero m c e = absurd (omega (arith, e))
over_more nest (suc n) m c e = refl

module _ (needs : Codes → Needs) (old : Run) (m : ℕ) (on : old.thread.flow ≡ rOn) (less : m + 1 ≡ old.thread.steps)
    (l : ℕ) (c : Code) (d : Done) (new : Run) where
  -- one step less is left
  abbrev pub paid_run : Run
  paid_run = record old { thread = record old.thread { steps = m } }

  is_on : flow_of old.thread.flow ≡ On
  is_on = ap flow_of on

  -- a statement whose step is taken here is done next
  pub stepped : (rest : List (Frame Own) → List (Frame Own)) → DidAct needs l c paid_run d new → DidNext needs rest l c old d new
  stepped rest did = λ close.
      let p = program old.plan.program.now in
      let r = own_rules needs old.thread.nest close in
      let act = did close in
      record {
        turns = record {
          plan = act.turns.plan;
          nest = act.turns.nest;
          stands = λ fs x shows.
              let st = with_own x (state_of old.thread) in
              subst (IsAt new)
              (sym (ap (λ (g : Flow). by_flow p r g l c fs (rest fs) st) is_on ∙ paid_step p r l c fs old.thread.steps m st less))
              (act.turns.stands fs x (record {
                frames = shows.frames;
                owned = shows.owned;
                pending = shows.pending;
                few = omega (arith, shows.few, less);
              }));
        };
        noted = λ x.
            let st = with_own x (state_of old.thread) in
            let same_done = ap (λ (g : Flow). done_at needs old.thread.nest g c st) is_on
            ∙ done_more needs old.thread.nest old.thread.steps m c st less in
            let same_over = ap (λ (g : Flow). is_next_over old.thread.nest g st.steps c) is_on
            ∙ over_more old.thread.nest old.thread.steps m c less in
            subst (λ (o : Bool). DoneAs (done_at needs old.thread.nest st.flow c st) o d) (sym same_over)
            (subst (λ (a : List Action). DoneAs a (is_over old.thread.nest 1 c) d) (sym same_done) (act.noted x));
      }

-- ---- what a statement needs is still there after its step was taken

module _ (needs : Codes → Needs) (IsAsync : ℕ → Codes → Type 0) (old : Run) (m : ℕ) (l : ℕ) where
  can_store_on : (s : Primitive) → CanAct needs IsAsync l (Do s) old
      → CanAct needs IsAsync l (Do s) (record old { thread = record old.thread { steps = m } })
  can_store_on Skip h = h
  can_store_on (Assign y e) h = h
  can_store_on (Store s i e) h = h
  can_store_on (Print es) h = h
  can_store_on (Raise e) h = h

  pub can_on : (c : Code) → CanAct needs IsAsync l c old
      → CanAct needs IsAsync l c (record old { thread = record old.thread { steps = m } })
  can_on (Do s) h = can_store_on s h
  can_on (If t b c) h = h
  can_on (While t b) h = h
  can_on (Split s e x y b) h = h
  can_on (Parts s e q i b) h = h
  can_on (Begun s n k q i b) h = h
  can_on (Call f es ss) h = h
  can_on (Async b) h = (record { there = h.0.there; owned = h.0.owned }, h.1)
  can_on (Finish b) h = h
  can_on (Rescue b x c) h = h

-- ---- the start of a task, if a nesting level is left

module _ (needs : Codes → Needs) where
  pub begin_some : (n : ℕ) → n ≢ 0 → (b : Codes) (st : State Own) → begin_own needs n b st ≡ list_child (needs b) (n - 1) b st
  begin_some zero some b st = absurd (some refl)
  begin_some (suc n) some b st =
      let less : n ≡ suc n - 1 = omega arith in
      ap (λ (k : ℕ). list_child (needs b) k b st) less

  pub done_some : (n : ℕ) → n ≢ 0 → (b : Codes) (st : State Own)
      → done_by needs n 1 (Async b) st ≡ Spawn (child_of (needs b) (n - 1) b st).start ∷ []
  done_some zero some b st = absurd (some refl)
  done_some (suc n) some b st =
      let less : n ≡ suc n - 1 = omega arith in
      ap (λ (k : ℕ). Spawn (child_of (needs b) k b st).start ∷ []) less

pub over_some : (n : ℕ) → n ≢ 0 → (b : Codes) → is_over n 1 (Async b) ≡ false
over_some zero some b = absurd (some refl)
over_some (suc n) some b = refl
