-- The actions of a turn; and a task waits at the end of a finish.
use Rattle.std.proofs.Common.{◌≡◌, ℕ, zero, suc, List, [], ◌∷◌, ◌++◌, length, Option, None, Ok, Err, refl, sym, ap}
use Rattle.std.proofs.Common.{◌∙◌, subst, arith}
use Rattle.std.proofs.lemmas.List.{append-nil}
use Rattle.std.specs.Prelude.{Bool, true, false, ok_or, slice_get, if◌then◌else◌}
use Rattle.std.proofs.lemmas.Bool.{and_parts, and_right}
use Rattle.shared_lemmas.proofs.Truths.{false_true}
use Rattle.sections.specs.Place.{has_piece, sides_of}
use Rattle.types.specs.declared.fault.FaultKind.TheVariants.{SplitPoint, PieceSize}
use Rattle.types.specs.Code.{Code, Do, If, While, Split, Parts, Begun, Call, Async, Finish, Rescue, Codes, End, Then}
use Rattle.types.specs.Code.{Program}
use Rattle.types.specs.Value.{Valued}
use Rattle.types.specs.Run.{Flow, On, Faulted, Stopped, State, Fault, Rules, Block, Turn, Pieces, number_at}
use Rattle.types.specs.Run.{numbers_at, truth_at}
use Rattle.types.specs.Run.{piece_size, window_at, at_flow, run, rescued_by}
use Rattle.types.specs.Laws.{IsKept}
use Rattle.types.proofs.Keeps.{primitive_keeps}
use Rattle.effects.specs.Needs.{Needs}
use Rattle.task_run.specs.Apart.{is_stopped}
use Rattle.task_run.specs.Results.{TaskResult, Settled, and_then}
use Rattle.task_run.specs.OwnRun.{Start, Action, Step, EnterFinish, Own, EndFinish, notes, is_waiting, result_of}
use Rattle.task_run.specs.OwnRun.{leave_with, leave_own, own_rules, begin_own, from_receipts, run_by}
use Rattle.task_run.specs.Frames.{Frame, Rest, Again, Further, AtEnd, OnFault, Back, Standing, frame, resume}
use Rattle.task_run.specs.Frames.{by_value, chosen, handled, paid}
use Rattle.task_run.specs.Frames.{by_flow, turn, done_by, done_at, done_in, Follows}
use Rattle.task_run.specs.Settling.{settle}

-- a statement that spawns no task changes nothing of what is kept in addition
pub silent : {A : Type 0} (of : Own → A)
    → IsKept {X = Own}
    (record { stepped = λ l x. x; begin = λ l b st. st; enter = λ l st. st; leave = λ st out. out })
    (λ st to. of to.extra ≡ of st.extra)
silent of = record {
  idle = λ st to a b c _. ap of c;
  further = λ a b c h k. k ∙ h;
  stepped = λ l st. refl;
  begin = λ l b st. refl;
  finish = λ l st out h. h;
}

module _ (p : Program) (needs : Codes → Needs) (nest : ℕ) (close : State Own → Option Settled) where
  abbrev r : Rules Own
  r = own_rules needs nest close

  abbrev acts : State Own → List Action
  acts st = st.extra.actions

  value_does : {A : Type 0} (l : ℕ) (v : Valued A) (go : A → Standing Own) (fs : List (Frame Own)) (st : State Own)
      → ((x : A) → acts (go x).state ≡ acts st) → acts (by_value l v go fs st).state ≡ acts st
  value_does l (Ok x) go fs st h = h x
  value_does l (Err f) go fs st h = refl

  chosen_does : (v : Bool) (fs gs : List (Frame Own)) (st : State Own) → acts (chosen v fs gs st).state ≡ acts st
  chosen_does true fs gs st = refl
  chosen_does false fs gs st = refl

  begin_does : (m n k : ℕ) (b : Codes) (st : State Own)
      → acts (begin_own needs m b (record st { steps = n })) ≡ acts st ++ done_by needs m (suc k) (Async b) st
  begin_does zero n k b st = sym (append-nil st.extra.actions)
  begin_does (suc m) n k b st = refl

  paid_does : (n l : ℕ) (s : Code) (fs : List (Frame Own)) (st : State Own)
      → acts (paid p r n l s fs st).state ≡ acts st ++ done_by needs nest n s st
  paid_does zero l s fs st = sym (append-nil st.extra.actions)
  paid_does (suc n) l (Do s) fs st =
      primitive_keeps p _ (λ st to. acts to ≡ acts st) (silent (λ x. x.actions)) l s
      (record st { steps = n; extra = notes Step st.extra })
  paid_does (suc n) l (If t b c) fs st =
      value_does l (truth_at st t) _ fs (record st { steps = n; extra = notes Step st.extra }) (λ v. chosen_does v _ _ _)
  paid_does (suc n) l (While t b) fs st =
      value_does l (truth_at st t) _ fs (record st { steps = n; extra = notes Step st.extra }) (λ v. chosen_does v _ _ _)
  paid_does (suc n) l (Split s e x y b) fs st =
      value_does l (number_at st e) _ fs (record st { steps = n; extra = notes Step st.extra }) (λ v.
      value_does l (ok_or (sides_of (window_at st s) v) SplitPoint) _ fs (record st { steps = n; extra = notes Step st.extra })
      (λ ws. refl))
  paid_does (suc n) l (Parts s e q i b) fs st =
      value_does l (number_at st e) _ fs (record st { steps = n; extra = notes Step st.extra }) (λ v.
      value_does l (ok_or (piece_size v) PieceSize) _ fs (record st { steps = n; extra = notes Step st.extra }) (λ m. refl))
  paid_does (suc n) l (Begun s m k q i b) fs st = refl
  paid_does (suc n) l (Call f es ss) fs st =
      value_does l (numbers_at st es) _ fs (record st { steps = n; extra = notes Step st.extra }) (λ vs. refl)
  paid_does (suc n) l (Async b) fs st = begin_does nest n n b st
  paid_does (suc n) l (Finish b) fs st = each nest
    where
      each : (m : ℕ) → acts st ++ EnterFinish ∷ [] ≡ acts st ++ done_by needs m (suc n) (Finish b) st
      each zero = refl
      each (suc m) = refl
  paid_does (suc n) l (Rescue b x c) fs st = each nest
    where
      each : (m : ℕ) → acts st ++ EnterFinish ∷ [] ≡ acts st ++ done_by needs m (suc n) (Rescue b x c) st
      each zero = refl
      each (suc m) = refl

  flow_does : (f : Flow) (l : ℕ) (s : Code) (fs below : List (Frame Own)) (st : State Own)
      → acts (by_flow p r f l s fs below st).state ≡ acts st ++ done_at needs nest f s st
  flow_does On l s fs below st = paid_does st.steps l s fs st
  flow_does Faulted l s fs below st = sym (append-nil st.extra.actions)
  flow_does Stopped l s fs below st = sym (append-nil st.extra.actions)

  -- a turn appends its actions
  pub turn_does : (f : Frame Own) (fs : List (Frame Own)) (st : State Own)
      → acts (turn p r f fs st).state ≡ acts st ++ done_in needs nest f st
  turn_does (Rest End) fs st = sym (append-nil st.extra.actions)
  turn_does (Rest (Then l s rest)) fs st = flow_does st.flow l s (Rest rest ∷ fs) fs st
  turn_does (Again l t b) fs st = flow_does st.flow l (While t b) fs fs st
  turn_does (Further l s n k q i b) fs st = by (has_piece (window_at st s) n k)
    where
      c : Code
      c = Begun s n k q i b

      by : (left : Bool)
          → acts (if◌then◌else◌ {A = Standing Own} left (by_flow p r st.flow l c fs fs st) (record { frames = fs; state = st })).state
          ≡ acts st ++ (if left then done_at needs nest st.flow c st else [])
      by true = flow_does st.flow l c fs fs st
      by false = sym (append-nil st.extra.actions)
  turn_does (AtEnd before) fs st = sym (append-nil st.extra.actions)
  turn_does (OnFault before x c) fs st = by st.flow
    where
      by : (f : Flow) → acts (handled f before x c fs st).state ≡ acts st ++ []
      by On = sym (append-nil st.extra.actions)
      by Faulted = sym (append-nil st.extra.actions)
      by Stopped = sym (append-nil st.extra.actions)
  turn_does (Back env) fs st = sym (append-nil st.extra.actions)

  -- ---- waiting
  record StillWaits (st to : State Own) : Type 0 where
    waits : is_waiting to ≡ true
    actions : acts to ≡ acts st

  flow_waits : (g : Flow) (st : State Own) (go : State Own → State Own) → st.flow ≡ g → is_waiting st ≡ true
      → StillWaits st (at_flow g st go)
  flow_waits On st go e w = absurd (false_true (sym (ap is_stopped e) ∙ (and_parts (is_stopped st.flow) st.extra.waits w).0))
  flow_waits Faulted st go e w = record { waits = w; actions = refl }
  flow_waits Stopped st go e w = record { waits = w; actions = refl }

  rescue_waits : (g : Flow) (x : ℕ) (go : State Own → State Own) (before : List Fault) (st : State Own) → st.flow ≡ g
      → is_waiting st ≡ true → StillWaits st (rescued_by g x go before st)
  rescue_waits On x go before st e w = record { waits = w; actions = refl }
  rescue_waits Faulted x go before st e w =
      absurd (false_true (sym (ap is_stopped e) ∙ (and_parts (is_stopped st.flow) st.extra.waits w).0))
  rescue_waits Stopped x go before st e w = record { waits = w; actions = refl }

  leave_waits : (before st : State Own) → is_waiting st ≡ true → StillWaits st (leave_own close before st)
  leave_waits before st w =
      subst (λ b. StillWaits st (if b then st else leave_with before (record st { extra = notes EndFinish st.extra }) (close st))) (sym w)
      (record { waits = w; actions = refl })

  frame_waits : (f : Frame Own) (st : State Own) → is_waiting st ≡ true → StillWaits st (frame p r f st)
  frame_waits (Rest b) st w = flow_waits st.flow st (run p r (Block b)) refl w
  frame_waits (Again l t b) st w = flow_waits st.flow st (run p r (Turn l t b)) refl w
  frame_waits (Further l s n k q i b) st w = flow_waits st.flow st (run p r (Pieces l s n k q i b)) refl w
  frame_waits (AtEnd before) st w = leave_waits before st w
  frame_waits (OnFault before x c) st w = rescue_waits st.flow x (run p r (Block c)) before st refl w
  frame_waits (Back env) st w = record { waits = w; actions = refl }

  resume_waits : (fs : List (Frame Own)) (st : State Own) → is_waiting st ≡ true → StillWaits st (resume p r fs st)
  resume_waits [] st w = record { waits = w; actions = refl }
  resume_waits (f ∷ fs) st w =
      let h = frame_waits f st w in
      let k = resume_waits fs (frame p r f st) h.waits in
      record { waits = k.waits; actions = k.actions ∙ h.actions }

  -- at the end of a finish without a settled result it waits, with this end as its last action
  pub end_waits : (before : State Own) (fs : List (Frame Own)) (st : State Own) → st.extra.waits ≡ false → close st ≡ None
      → (is_waiting (resume p r (AtEnd before ∷ fs) st) ≡ true) × (acts (resume p r (AtEnd before ∷ fs) st) ≡ acts st ++ EndFinish ∷ [])
  end_waits before fs st w e =
      let noted = record st { extra = notes EndFinish st.extra } in
      let left : leave_own close before st ≡ leave_with before noted None =
      ap (λ b. if b then st else leave_with before noted (close st)) (and_right (is_stopped st.flow) st.extra.waits w)
      ∙ ap (leave_with before noted) e in
      let h = resume_waits fs (leave_with before noted None) refl in
      (ap (λ st. is_waiting (resume p r fs st)) left ∙ h.waits, ap (λ st. acts (resume p r fs st)) left ∙ h.actions)

-- a task at the end of a finish waits there, by its receipts so far
pub follower_waits : (p : Program) (needs : Codes → Needs) (fresh : ℕ) (root s : Start) (taken : List (List TaskResult))
    (before : State Own) (fs : List (Frame Own)) (st : State Own)
    → st.extra.waits ≡ false → Follows p needs fresh root s taken (record { frames = AtEnd before ∷ fs; state = st })
    → (is_waiting (run_by p needs fresh taken s) ≡ true)
    × ((run_by p needs fresh taken s).extra.actions ≡ st.extra.actions ++ EndFinish ∷ [])
follower_waits p needs fresh root s taken before fs st w h =
    let same : run_by p needs fresh taken s ≡ resume p (own_rules needs s.nest (from_receipts taken)) (AtEnd before ∷ fs) st =
    ap (λ l. run_by p needs fresh l s) (sym (append-nil taken)) ∙ h.follows []
    ∙ ap (λ l. resume p (own_rules needs s.nest (from_receipts l)) (AtEnd before ∷ fs) st) (append-nil taken) in
    let k = end_waits p needs s.nest (from_receipts taken) before fs st w
    (ap (λ o. and_then o (settle (result_of st))) (past_end taken st.extra.ended (h.count))) in
    (ap is_waiting same ∙ k.0, ap (λ (st : State Own). st.extra.actions) same ∙ k.1)
  where
    past_end : {A : Type 0} (xs : List A) (k : ℕ) → k ≡ length xs → slice_get xs k ≡ None
    past_end [] k e = refl
    past_end (x ∷ xs) zero e = absurd (omega (arith, e))
    past_end (x ∷ xs) (suc k) e = past_end xs k (omega (arith, e))
