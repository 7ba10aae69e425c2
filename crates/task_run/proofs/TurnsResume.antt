-- A turn keeps the effect of the remaining work.
use Rattle.std.proofs.Common.{◌≡◌, ℕ, zero, suc, List, ◌∷◌, Ok, Err, refl, sym, ap, ◌∙◌}
use Rattle.std.specs.Prelude.{Bool, true, false, ◌+◌, map, ok_or, if◌then◌else◌}
use Rattle.sections.specs.Place.{has_piece, sides_of}
use Rattle.types.specs.declared.fault.FaultKind.TheVariants.{SplitPoint, PieceSize}
use Rattle.types.specs.Code.{Truth, Code, Do, If, While, Split, Parts, Begun, Call, Async, Finish, Rescue, Codes, End}
use Rattle.types.specs.Code.{Then, Program}
use Rattle.types.specs.Value.{Valued}
use Rattle.types.specs.Run.{Flow, On, Faulted, Stopped, State, Fault, Rules, Work, Block, Turn, Pieces, at_flow}
use Rattle.types.specs.Run.{go_on, spend}
use Rattle.types.specs.Run.{with_step, with_value, choose, number_at, numbers_at, truth_at, window_at, entry}
use Rattle.types.specs.Run.{with_sides, in_turn, piece_size, procedure_of, counted, act, block, run, caught}
use Rattle.types.specs.Run.{rescued_by}
use Rattle.types.specs.Laws.{IsThrifty}
use Rattle.types.proofs.Solutions.{solves}
use Rattle.task_run.specs.Frames.{Frame, Rest, Again, Further, AtEnd, OnFault, Back, Standing, resume, by_value}
use Rattle.task_run.specs.Frames.{chosen, acted, handled, paid}
use Rattle.task_run.specs.Frames.{by_flow, turn}
use Rattle.types.proofs.Counted.{counted_flow}

module _ (p : Program) {X : Type 0} (r : Rules X) (thrifty : IsThrifty r) (enters : (l : ℕ) (st : State X) → (r.enter l st).flow ≡ st.flow) where
  abbrev m : Work → State X → State X
  m = run p r

  abbrev over : List (Frame X) → State X → State X
  over = resume p r

  abbrev of : Standing X → State X
  of t = over t.frames t.state

  flow_block : (f : Flow) (b : Codes) (st : State X) → at_flow f st (m (Block b)) ≡ at_flow f st (block p r m b)
  flow_block On b st = solves p r thrifty (Block b) st
  flow_block Faulted b st = refl
  flow_block Stopped b st = refl

  after_block : (b : Codes) (st : State X) → go_on (m (Block b)) st ≡ go_on (block p r m b) st
  after_block b st = flow_block st.flow b st

  -- a block on top of frames, if the flow is on
  on_block : (b : Codes) (fs : List (Frame X)) (st : State X) → st.flow ≡ On → over (Rest b ∷ fs) st ≡ over fs (block p r m b st)
  on_block b fs st on = ap (over fs) (after_block b st ∙ ap (λ f. at_flow f st (block p r m b)) on)

  value_keeps : {A : Type 0} (l : ℕ) (v : Valued A) (go : A → Standing X) (to : A → State X → State X) (fs : List (Frame X)) (st : State X)
      → ((x : A) → of (go x) ≡ over fs (to x st)) → of (by_value l v go fs st) ≡ over fs (with_value l v to st)
  value_keeps l (Ok x) go to fs st h = h x
  value_keeps l (Err f) go to fs st h = refl

  loop_keeps : (v : Bool) (l : ℕ) (t : Truth) (b : Codes) (fs : List (Frame X)) (st : State X) → st.flow ≡ On
      → of (chosen v (Rest b ∷ Again l t b ∷ fs) fs st) ≡ over fs (choose (λ s. go_on (m (Turn l t b)) (block p r m b s)) (λ s. s) v st)
  loop_keeps false l t b fs st on = refl
  loop_keeps true l t b fs st on = on_block b (Again l t b ∷ fs) st on

  if_keeps : (v : Bool) (b c : Codes) (fs : List (Frame X)) (st : State X) → st.flow ≡ On
      → of (chosen v (Rest b ∷ fs) (Rest c ∷ fs) st) ≡ over fs (choose (block p r m b) (block p r m c) v st)
  if_keeps true b c fs st on = on_block b fs st on
  if_keeps false b c fs st on = on_block c fs st on

  -- the handler of a finish is a block
  rescue_solved : (f : Flow) (x : ℕ) (c : Codes) (before : List Fault) (out : State X)
      → rescued_by f x (m (Block c)) before out ≡ rescued_by f x (block p r m c) before out
  rescue_solved On x c before out = refl
  rescue_solved Faulted x c before out = solves p r thrifty (Block c) (caught x before out)
  rescue_solved Stopped x c before out = refl

  acted_keeps : (s : Code) (l : ℕ) (fs : List (Frame X)) (st : State X) → st.flow ≡ On
      → of (acted p r l s fs st) ≡ over fs (act p r m l s st)
  acted_keeps (Do s) l fs st on = refl
  acted_keeps (If t b c) l fs st on = value_keeps l (truth_at st t) _ _ fs st (λ v. if_keeps v b c fs st on)
  acted_keeps (While t b) l fs st on = value_keeps l (truth_at st t) _ _ fs st (λ v. loop_keeps v l t b fs st on)
  acted_keeps (Split s e x y b) l fs st on =
      value_keeps l (number_at st e) _ _ fs st (λ v.
      value_keeps l (ok_or (sides_of (window_at st s) v) SplitPoint) _ _ fs st (λ ws.
      on_block b fs (record st { environment = with_sides x y ws st.environment }) on))
  acted_keeps (Parts s e q i b) l fs st on =
      value_keeps l (number_at st e) _ _ fs st (λ v.
      value_keeps l (ok_or (piece_size v) PieceSize) _ _ fs st (λ n.
      ap (λ f. over fs (at_flow f st (m (Pieces l s n 0 q i b)))) on))
  acted_keeps (Begun s n k q i b) l fs st on =
      on_block b (Further l s n (k + 1) q i b ∷ fs) (in_turn s n k q i st) on
  acted_keeps (Call f es ss) l fs st on =
      value_keeps l (numbers_at st es) _ _ fs st (λ vs.
      let inner = record st { environment = entry vs (map (window_at st) ss) } in
      ap (λ g. over fs (record (at_flow g inner (m (Block (procedure_of p f).body))) { environment = st.environment })) on)
  acted_keeps (Async b) l fs st on = refl
  acted_keeps (Finish b) l fs st on = on_block b (AtEnd st ∷ fs) (r.enter l st) (enters l st ∙ on)
  acted_keeps (Rescue b x c) l fs st on =
      let ahead = AtEnd st ∷ OnFault st.faults x c ∷ fs in
      let out = r.leave st (block p r m b (r.enter l st)) in
      on_block b ahead (r.enter l st) (enters l st ∙ on) ∙ ap (over fs) (rescue_solved out.flow x c st.faults out)

  paid_keeps : (k l : ℕ) (s : Code) (fs : List (Frame X)) (st : State X) → st.flow ≡ On
      → of (paid p r k l s fs st) ≡ over fs (spend k st (λ st. act p r m l s (counted r l s st)))
  paid_keeps zero l s fs st on = refl
  paid_keeps (suc k) l s fs st on =
      acted_keeps s l fs (counted r l s (record st { steps = k }))
      (counted_flow r l (record st { steps = k }) s ∙ on)

  flow_keeps : (f : Flow) (l : ℕ) (s : Code) (fs below : List (Frame X)) (st : State X) (go : State X → State X) → st.flow ≡ f
      → over fs (with_step (λ st. act p r m l s (counted r l s st)) st) ≡ over below (go st)
      → of (by_flow p r f l s fs below st) ≡ over below (at_flow f st go)
  flow_keeps On l s fs below st go e h = paid_keeps st.steps l s fs st e ∙ h
  flow_keeps Faulted l s fs below st go e h = refl
  flow_keeps Stopped l s fs below st go e h = refl

  -- a turn keeps the effect of the remaining work
  pub turn_keeps : (f : Frame X) (fs : List (Frame X)) (st : State X) → of (turn p r f fs st) ≡ over (f ∷ fs) st
  turn_keeps (Rest End) fs st = ap (over fs) (sym (after_block End st ∙ ended st.flow))
    where
      ended : (f : Flow) → at_flow f st (block p r m End) ≡ st
      ended On = refl
      ended Faulted = refl
      ended Stopped = refl
  turn_keeps (Rest (Then l s rest)) fs st =
      flow_keeps st.flow l s (Rest rest ∷ fs) fs st (m (Block (Then l s rest))) refl
      (ap (over fs)
      (after_block rest (with_step (λ st. act p r m l s (counted r l s st)) st) ∙ sym (solves p r thrifty (Block (Then l s rest)) st)))
  turn_keeps (Again l t b) fs st =
      flow_keeps st.flow l (While t b) fs fs st (m (Turn l t b)) refl (ap (over fs) (sym (solves p r thrifty (Turn l t b) st)))
  turn_keeps (Further l s n k q i b) fs st = by (has_piece (window_at st s) n k) refl
    where
      c : Code
      c = Begun s n k q i b

      w : Work
      w = Pieces l s n k q i b

      by_piece : (left : Bool) → has_piece (window_at st s) n k ≡ left
          → m w st ≡ choose (with_step (λ st. act p r m l c (counted r l c st))) (λ st. st) left st
      by_piece left e =
          solves p r thrifty w st
          ∙ ap (λ b. choose (with_step (λ st. act p r m l c (counted r l c st))) (λ st. st) b st) e

      nothing : has_piece (window_at st s) n k ≡ false → (f : Flow) → at_flow f st (m w) ≡ st
      nothing e On = by_piece false e
      nothing e Faulted = refl
      nothing e Stopped = refl

      by : (left : Bool) → has_piece (window_at st s) n k ≡ left
          → of (if◌then◌else◌ {A = Standing X} left (by_flow p r st.flow l c fs fs st) (record { frames = fs; state = st }))
          ≡ over fs (go_on (m w) st)
      by true e = flow_keeps st.flow l c fs fs st (m w) refl (ap (over fs) (sym (by_piece true e)))
      by false e = ap (over fs) (sym (nothing e st.flow))
  turn_keeps (AtEnd before) fs st = refl
  turn_keeps (OnFault before x c) fs st = by st.flow
    where
      by : (f : Flow) → of (handled f before x c fs st) ≡ over fs (rescued_by f x (m (Block c)) before st)
      by On = refl
      by Faulted = refl
      by Stopped = refl
  turn_keeps (Back env) fs st = refl
