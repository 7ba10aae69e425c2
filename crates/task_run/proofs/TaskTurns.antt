-- A task's turns keep the facts about it, independent of what else happens between them.
use Rattle.std.proofs.Common.{◌≡◌, ℕ, zero, suc, ◌≤◌, List, [], ◌∷◌, ◌++◌, Option, Some, None, Ok, Err, refl, sym, ap}
use Rattle.std.proofs.Common.{◌∙◌, le_refl, append_assoc}
use Rattle.std.proofs.lemmas.List.{append-nil}
use Rattle.std.specs.Prelude.{Bool, true, false, ◌+◌, map, ok_or, if◌then◌else◌}
use Rattle.sections.specs.Place.{has_piece, sides_of}
use Rattle.types.specs.declared.fault.FaultKind.TheVariants.{SplitPoint, PieceSize}
use Rattle.types.specs.Code.{Code, Do, If, While, Split, Parts, Begun, Call, Async, Finish, Rescue, Codes, End, Then}
use Rattle.types.specs.Code.{Program}
use Rattle.types.specs.Value.{Valued}
use Rattle.types.specs.Run.{Flow, On, Faulted, Stopped, State, Fault, Rules, Work, Block, Turn, Pieces, stopped}
use Rattle.types.specs.Run.{at_flow, fault}
use Rattle.types.specs.Run.{number_at, numbers_at, truth_at, window_at, entry, with_sides, in_turn, piece_size, procedure_of}
use Rattle.types.specs.Run.{primitive, counted, run, caught, rescued_by}
use Rattle.types.specs.Laws.{IsThrifty, IsKept}
use Rattle.types.proofs.Keeps.{primitive_keeps, counted_keeps}
use Rattle.effects.specs.Needs.{Needs}
use Rattle.task_run.specs.Results.{Settled}
use Rattle.task_run.specs.OwnRun.{Action, Own, EndFinish, notes, is_waiting, begin_own, leave_with, leave_own}
use Rattle.task_run.specs.OwnRun.{own_rules}
use Rattle.task_run.specs.Frames.{Frame, Rest, Again, Further, AtEnd, OnFault, Back, Standing, frame, resume}
use Rattle.task_run.specs.Frames.{by_value, chosen, acted, handled}
use Rattle.task_run.specs.Frames.{paid, by_flow, turn, IsBegun, HasBegun, HasBegunBelow}
use Rattle.types.proofs.Counted.{counted_is}
use Rattle.task_run.proofs.Lists.{each_more}
use Rattle.task_run.proofs.Begun.{Tells, tells, idle_tells, still_begun, run_tells, enter_tells, begin_tells}

module _ (p : Program) (needs : Codes → Needs) (nest : ℕ) (close : State Own → Option Settled) where
  abbrev r : Rules Own
  r = own_rules needs nest close

  begin_thrifty : (n : ℕ) (b : Codes) (st : State Own) → (begin_own needs n b st).steps ≤ st.steps
  begin_thrifty zero b st = le_refl st.steps
  begin_thrifty (suc n) b st = le_refl st.steps

  leave_thrifty : (before out : State Own) → (leave_own close before out).steps ≤ out.steps
  leave_thrifty before out = by_waiting (is_waiting out)
    where
      ends : (s : Option Settled) → (leave_with before (record out { extra = notes EndFinish out.extra }) s).steps ≤ out.steps
      ends None = le_refl out.steps
      ends (Some s) = le_refl out.steps

      by_waiting : (b : Bool) →
          (if b then out else leave_with before (record out { extra = notes EndFinish out.extra }) (close out)).steps ≤ out.steps
      by_waiting true = le_refl out.steps
      by_waiting false = ends (close out)

  pub own_thrifty : IsThrifty r
  own_thrifty = record { begin = λ l. begin_thrifty nest; enter = λ l st. le_refl st.steps; leave = leave_thrifty }

  -- ---- the remaining work appends to the actions
  pub record Grows (st to : State Own) : Type 0 where
    pub path : to.path ≡ st.path
    pub done : List Action
    pub more : to.extra.actions ≡ st.extra.actions ++ done

  still : (st : State Own) → Grows st st
  still st = record { path = refl; done = []; more = sym (append-nil st.extra.actions) }

  further : (a b c : State Own) → Grows a b → Grows b c → Grows a c
  further a b c h k = record {
    path = k.path ∙ h.path;
    done = h.done ++ k.done;
    more = k.more ∙ ap (λ acts. acts ++ k.done) h.more ∙ append_assoc a.extra.actions h.done k.done;
  }

  flow_grows : (f : Flow) (w : Work) (st : State Own) → Grows st (at_flow f st (run p r w))
  flow_grows On w st = let t = run_tells nest needs close p w st in record { path = t.path; done = t.done; more = t.more }
  flow_grows Faulted w st = still st
  flow_grows Stopped w st = still st

  leave_grows : (before st : State Own) → Grows st (leave_own close before st)
  leave_grows before st = by_waiting (is_waiting st)
    where
      ends : (s : Option Settled) → Grows st (leave_with before (record st { extra = notes EndFinish st.extra }) s)
      ends None = record { path = refl; done = EndFinish ∷ []; more = refl }
      ends (Some s) = record { path = refl; done = EndFinish ∷ []; more = refl }

      by_waiting : (b : Bool) → Grows st (if b then st else leave_with before (record st { extra = notes EndFinish st.extra }) (close st))
      by_waiting true = still st
      by_waiting false = ends (close st)

  rescue_grows : (f : Flow) (x : ℕ) (c : Codes) (before : List Fault) (st : State Own)
      → Grows st (rescued_by f x (run p r (Block c)) before st)
  rescue_grows On x c before st = still st
  rescue_grows Faulted x c before st =
      let g = flow_grows On (Block c) (caught x before st) in record { path = g.path; done = g.done; more = g.more }
  rescue_grows Stopped x c before st = still st

  frame_grows : (f : Frame Own) (st : State Own) → Grows st (frame p r f st)
  frame_grows (Rest b) st = flow_grows st.flow (Block b) st
  frame_grows (Again l t b) st = flow_grows st.flow (Turn l t b) st
  frame_grows (Further l s n k q i b) st = flow_grows st.flow (Pieces l s n k q i b) st
  frame_grows (AtEnd before) st = leave_grows before st
  frame_grows (OnFault before x c) st = rescue_grows st.flow x c before st
  frame_grows (Back env) st = record { path = refl; done = []; more = sym (append-nil st.extra.actions) }

  pub resume_grows : (fs : List (Frame Own)) (st : State Own) → Grows st (resume p r fs st)
  resume_grows [] st = still st
  resume_grows (f ∷ fs) st =
      further st (frame p r f st) (resume p r fs (frame p r f st)) (frame_grows f st) (resume_grows fs (frame p r f st))

  -- ---- what a turn keeps
  abbrev pub T : State Own → State Own → Type 0
  T = Tells nest

  below_still : (st to : State Own) → to.path ≡ st.path → (done : List Action) → to.extra.actions ≡ st.extra.actions ++ done
      → (fs : List (Frame Own)) → HasBegunBelow nest st fs → HasBegunBelow nest to fs
  below_still st to path done more [] h = tt
  below_still st to path done more (Rest b ∷ fs) h = below_still st to path done more fs h
  below_still st to path done more (Again l t b ∷ fs) h = below_still st to path done more fs h
  below_still st to path done more (Further l s n k q i b ∷ fs) h = below_still st to path done more fs h
  below_still st to path done more (AtEnd before ∷ fs) h = (
    each_more (IsBegun nest st) (IsBegun nest to) before.extra.pending (λ c. still_begun nest st to c path done more) h.0,
    below_still st to path done more fs h.1,
  )
  below_still st to path done more (OnFault before x c ∷ fs) h = below_still st to path done more fs h
  below_still st to path done more (Back env ∷ fs) h = below_still st to path done more fs h

  -- it is in configuration t, after a state, above frames
  pub record Kept (st : State Own) (t : Standing Own) : Type 0 where
    pub tells : T st t.state
    pub below : HasBegunBelow nest t.state t.frames
    pub waits : t.state.extra.waits ≡ st.extra.waits
    pub ended : t.state.extra.ended ≡ st.extra.ended

  record Quiet (st to : State Own) : Type 0 where
    tells : T st to
    waits : to.extra.waits ≡ st.extra.waits
    ended : to.extra.ended ≡ st.extra.ended

  kept_by : (st : State Own) (to : State Own) (fs : List (Frame Own)) → Quiet st to → HasBegunBelow nest st fs
      → Kept st (record { frames = fs; state = to })
  kept_by st to fs q h =
      record { tells = q.tells; below = below_still st to q.tells.path q.tells.done q.tells.more fs h; waits = q.waits; ended = q.ended }

  idle : (st to : State Own) → to.path ≡ st.path → to.spawned ≡ st.spawned → to.extra ≡ st.extra → Quiet st to
  idle st to path spawned extra = record {
    tells = idle_tells nest st to path spawned extra;
    waits = ap (λ (x : Own). x.waits) extra;
    ended = ap (λ (x : Own). x.ended) extra;
  }

  -- changes to nothing that others know
  abbrev Hidden : State Own → State Own → Type 0
  Hidden st to = (to.path ≡ st.path) × (to.spawned ≡ st.spawned) × (to.extra ≡ st.extra)

  hidden : IsKept {X = Own} (record { stepped = λ l x. x; begin = λ l b st. st; enter = λ l st. st; leave = λ st out. out }) Hidden
  hidden = record {
    idle = λ st to a b c _. (a, b, c);
    further = λ a b c h k. (k.0 ∙ h.0, k.1 ∙ h.1, k.2 ∙ h.2);
    stepped = λ l st. (refl, refl, refl);
    begin = λ l b st. (refl, refl, refl);
    finish = λ l st out h. h;
  }

  value_kept : {A : Type 0} (l : ℕ) (v : Valued A) (go : A → Standing Own) (fs : List (Frame Own)) (st : State Own)
      → HasBegunBelow nest st fs
      → ((x : A) → Kept st (go x)) → Kept st (by_value l v go fs st)
  value_kept l (Ok x) go fs st b h = h x
  value_kept l (Err f) go fs st b h = kept_by st (fault l f st) fs (idle st (fault l f st) refl refl refl) b

  chosen_kept : (v : Bool) (fs gs : List (Frame Own)) (st : State Own) → HasBegunBelow nest st fs → HasBegunBelow nest st gs
      → Kept st (chosen v fs gs st)
  chosen_kept true fs gs st h k = kept_by st st fs (idle st st refl refl refl) h
  chosen_kept false fs gs st h k = kept_by st st gs (idle st st refl refl refl) k

  begin_quiet : (n : ℕ) (b : Codes) (st : State Own) → (begin_own needs n b st).extra.waits ≡ st.extra.waits
  begin_quiet zero b st = refl
  begin_quiet (suc n) b st = refl

  begin_ended : (n : ℕ) (b : Codes) (st : State Own) → (begin_own needs n b st).extra.ended ≡ st.extra.ended
  begin_ended zero b st = refl
  begin_ended (suc n) b st = refl

  acted_kept : (s : Code) (l : ℕ) (fs : List (Frame Own)) (st : State Own) → HasBegun nest st → HasBegunBelow nest st fs
      → Kept st (acted p r l s fs st)
  acted_kept (Do s) l fs st f b =
      let h = primitive_keeps p _ Hidden hidden l s st in kept_by st (primitive p l s st) fs (idle st (primitive p l s st) h.0 h.1 h.2) b
  acted_kept (If t c d) l fs st f b = value_kept l (truth_at st t) _ fs st b (λ v. chosen_kept v (Rest c ∷ fs) (Rest d ∷ fs) st b b)
  acted_kept (While t c) l fs st f b = value_kept l (truth_at st t) _ fs st b (λ v. chosen_kept v (Rest c ∷ Again l t c ∷ fs) fs st b b)
  acted_kept (Split s e x y c) l fs st f b =
      value_kept l (number_at st e) _ fs st b (λ v. value_kept l (ok_or (sides_of (window_at st s) v) SplitPoint) _ fs st b (λ ws.
      let to = record st { environment = with_sides x y ws st.environment } in kept_by st to (Rest c ∷ fs) (idle st to refl refl refl) b))
  acted_kept (Parts s e x i c) l fs st f b =
      value_kept l (number_at st e) _ fs st b (λ v. value_kept l (ok_or (piece_size v) PieceSize) _ fs st b (λ n.
      kept_by st st (Further l s n 0 x i c ∷ fs) (idle st st refl refl refl) b))
  acted_kept (Begun s n k x i c) l fs st f b =
      let to = in_turn s n k x i st in
      kept_by st to (Rest c ∷ Further l s n (k + 1) x i c ∷ fs) (idle st to refl refl refl) b
  acted_kept (Call g es ss) l fs st f b =
      value_kept l (numbers_at st es) _ fs st b (λ vs.
      let to = record st { environment = entry vs (map (window_at st) ss) } in
      kept_by st to (Rest (procedure_of p g).body ∷ Back st.environment ∷ fs) (idle st to refl refl refl) b)
  acted_kept (Async c) l fs st f b =
      kept_by st (r.begin l c st) fs
      (record { tells = begin_tells nest needs close nest refl c st; waits = begin_quiet nest c st; ended = begin_ended nest c st }) b
  acted_kept (Finish c) l fs st f b =
      kept_by st (r.enter l st) (Rest c ∷ AtEnd st ∷ fs) (record { tells = enter_tells nest needs close l st; waits = refl; ended = refl })
      (f.begun, b)
  acted_kept (Rescue c x d) l fs st f b =
      kept_by st (r.enter l st) (Rest c ∷ AtEnd st ∷ OnFault st.faults x d ∷ fs)
      (record { tells = enter_tells nest needs close l st; waits = refl; ended = refl }) (f.begun, b)

  counted_quiet : (l : ℕ) (s : Code) (st : State Own) → Quiet st (counted r l s st)
  counted_quiet l s st = record {
    tells = counted_keeps p r T (tells nest needs close) l s st;
    waits = counted_is r l st (λ (to : State Own). to.extra.waits ≡ st.extra.waits) refl refl s;
    ended = counted_is r l st (λ (to : State Own). to.extra.ended ≡ st.extra.ended) refl refl s;
  }

  after : (st mid : State Own) (t : Standing Own) → Quiet st mid → Kept mid t → Kept st t
  after st mid t q k = record {
    tells = (tells nest needs close).further st mid t.state q.tells k.tells;
    below = k.below;
    waits = k.waits ∙ q.waits;
    ended = k.ended ∙ q.ended;
  }

  paid_kept : (n l : ℕ) (s : Code) (fs : List (Frame Own)) (st : State Own) → HasBegun nest st → HasBegunBelow nest st fs
      → Kept st (paid p r n l s fs st)
  paid_kept zero l s fs st f b = kept_by st (stopped st) fs (idle st (stopped st) refl refl refl) b
  paid_kept (suc n) l s fs st f b =
      let one = record st { steps = n } in
      let two = counted r l s one in
      let first = idle st one refl refl refl in
      let second = counted_quiet l s one in
      after st one _ first (after one two _ second
      (acted_kept s l fs two (second.tells.fine (first.tells.fine f))
      (below_still one two second.tells.path second.tells.done second.tells.more fs
      (below_still st one first.tells.path first.tells.done first.tells.more fs b))))

  flow_kept : (g : Flow) (l : ℕ) (s : Code) (fs below : List (Frame Own)) (st : State Own) → HasBegun nest st → HasBegunBelow nest st fs
      → HasBegunBelow nest st below
      → Kept st (by_flow p r g l s fs below st)
  flow_kept On l s fs below st f b c = paid_kept st.steps l s fs st f b
  flow_kept Faulted l s fs below st f b c = kept_by st st below (idle st st refl refl refl) c
  flow_kept Stopped l s fs below st f b c = kept_by st st below (idle st st refl refl refl) c

  pub turn_kept : (g : Frame Own) (fs : List (Frame Own)) (st : State Own) → HasBegun nest st → HasBegunBelow nest st (g ∷ fs)
      → Kept st (turn p r g fs st)
  turn_kept (Rest End) fs st f b = kept_by st st fs (idle st st refl refl refl) b
  turn_kept (Rest (Then l s rest)) fs st f b = flow_kept st.flow l s (Rest rest ∷ fs) fs st f b b
  turn_kept (Again l t c) fs st f b = flow_kept st.flow l (While t c) fs fs st f b b
  turn_kept (Further l s n k x i c) fs st f b = by (has_piece (window_at st s) n k)
    where
      by : (left : Bool)
          → Kept st (if◌then◌else◌ {A = Standing Own} left (by_flow p r st.flow l (Begun s n k x i c) fs fs st) (record { frames = fs; state = st }))
      by true = flow_kept st.flow l (Begun s n k x i c) fs fs st f b b
      by false = kept_by st st fs (idle st st refl refl refl) b
  turn_kept (OnFault before x c) fs st f b = by st.flow
    where
      by : (g : Flow) → Kept st (handled g before x c fs st)
      by On = kept_by st st fs (idle st st refl refl refl) b
      by Faulted = kept_by st (caught x before st) (Rest c ∷ fs) (idle st (caught x before st) refl refl refl) b
      by Stopped = kept_by st st fs (idle st st refl refl refl) b
  turn_kept (AtEnd before) fs st f b = kept_by st st (AtEnd before ∷ fs) (idle st st refl refl refl) b
  turn_kept (Back env) fs st f b =
      kept_by st (record st { environment = env }) fs (idle st (record st { environment = env }) refl refl refl) b
