-- How a turn changes the open finishes and the steps that are left.
use Rattle.std.proofs.Common.{◌≡◌, ℕ, zero, suc, ◌+◌, ◌≤◌, List, [], ◌∷◌, Option, None, Ok, Err, refl, sym, ap}
use Rattle.std.proofs.Common.{◌∙◌, arith, inl, inr, le_refl}
use Rattle.std.specs.Prelude.{Bool, true, false, ok_or, if◌then◌else◌}
use Rattle.sections.specs.Place.{has_piece, sides_of}
use Rattle.types.specs.declared.fault.FaultKind.TheVariants.{SplitPoint, PieceSize}
use Rattle.types.specs.Code.{Truth, Code, Do, If, While, Split, Parts, Begun, Call, Async, Finish, Rescue, Codes, End, Then, Program}
use Rattle.types.specs.Translation.{program}
use Rattle.types.specs.Value.{Valued}
use Rattle.types.specs.Run.{Flow, On, Faulted, Stopped, State, Rules, number_at, numbers_at, truth_at, window_at, piece_size, counted}
use Rattle.effects.specs.Needs.{Needs}
use Rattle.task_run.specs.Results.{Settled}
use Rattle.task_run.specs.OwnRun.{Action, Step, Spawn, EnterFinish, EndFinish, EndTask, Own, own_rules}
use Rattle.task_run.specs.Frames.{Frame, Rest, Again, Further, AtEnd, OnFault, Back, Standing, by_value, chosen, handled, acted, paid, by_flow, turn}
use Rattle.task_run.specs.Frames.{done_by, done_at, done_in}
use Rattle.task_run.specs.Left.{total}
use Rattle.task_run.specs.Quiet.{IsLittle, Quietly, here, further}
use Rattle.task_run.specs.RunTurns.{GoesAs, GoesOn, GoesTo, IsTurn, TurnOf, EndsAs, WaitsAs}
use Rattle.task_run.specs.Standings.{Shows, ShowsFrame, Stacked, state_of, with_own}
use Rattle.task_run.specs.Stops.{stops}
use Rattle.task_run.specs.declared.frame.TaskFrame.{TaskFrame as rFrame}
use Rattle.task_run.specs.declared.frame.TaskFrame.TheVariants.{Rest as rRest, Again as rAgain, Turns as rTurns}
use Rattle.task_run.specs.declared.frame.TaskFrame.TheVariants.{EndFinish as rEndFinish, OnFault as rOnFault, EndCall as rEndCall}
use Rattle.task_run.specs.declared.run.Run.{Run}
use Rattle.task_run.specs.declared.turn.Paused.{Paused}
use Rattle.task_run.specs.declared.turn.Turn.{Turn}
use Rattle.task_run.specs.declared.turn.Turn.TheVariants.{Going, Spawns, EntersFinish, EndsFinish, Ended, Over}
use Rattle.task_run.proofs.ListedTurns.{over_does_nothing}
use Rattle.task_run.proofs.TurnsLeft.{totals_same}
use Rattle.weighted_task.specs.Finishes.{ends_finish, open_finishes}
use Rattle.types.proofs.Solutions.{primitive_less}

-- ---- frames as they are defined
abbrev ends : Frame Own → ℕ
ends (Rest b) = 0
ends (Again l t b) = 0
ends (Further l s n k q i b) = 0
ends (AtEnd before) = 1
ends (OnFault before x c) = 0
ends (Back env) = 0

abbrev opens : List (Frame Own) → ℕ
opens = total ends

-- the number of finishes that are started
abbrev entered : List Action → ℕ
entered [] = 0
entered (EnterFinish ∷ rest) = 1 + entered rest
entered (Step ∷ rest) = entered rest
entered (Spawn c ∷ rest) = entered rest
entered (EndFinish ∷ rest) = entered rest
entered (EndTask ∷ rest) = entered rest

abbrev enters : Code → ℕ
enters (Finish b) = 1
enters (Rescue b x d) = 1
enters (Async b) = 0
enters (Do s) = 0
enters (If t b c) = 0
enters (While t b) = 0
enters (Split s e x y b) = 0
enters (Parts s e q i b) = 0
enters (Begun s n k q i b) = 0
enters (Call f es ss) = 0

entered_by : (needs : Codes → Needs) (n m : ℕ) (c : Code) (st : State Own) → entered (done_by needs n (suc m) c st) ≡ enters c
entered_by needs zero m (Async b) st = refl
entered_by needs (suc n) m (Async b) st = refl
entered_by needs zero m (Finish b) st = refl
entered_by needs (suc n) m (Finish b) st = refl
entered_by needs zero m (Rescue b x d) st = refl
entered_by needs (suc n) m (Rescue b x d) st = refl
entered_by needs zero m (Do s) st = refl
entered_by needs (suc n) m (Do s) st = refl
entered_by needs zero m (If t b c) st = refl
entered_by needs (suc n) m (If t b c) st = refl
entered_by needs zero m (While t b) st = refl
entered_by needs (suc n) m (While t b) st = refl
entered_by needs zero m (Split s e x y b) st = refl
entered_by needs (suc n) m (Split s e x y b) st = refl
entered_by needs zero m (Parts s e q i b) st = refl
entered_by needs (suc n) m (Parts s e q i b) st = refl
entered_by needs zero m (Begun s j k q i b) st = refl
entered_by needs (suc n) m (Begun s j k q i b) st = refl
entered_by needs zero m (Call f es ss) st = refl
entered_by needs (suc n) m (Call f es ss) st = refl

-- so many finishes are started, and no step is added
record Adds (n : ℕ) (fs : List (Frame Own)) (st : State Own) (t : Standing Own) : Type 0 where
  steps : t.state.steps ≤ st.steps
  finishes : opens t.frames ≡ opens fs + n

value_adds : {A : Type 0} (l : ℕ) (v : Valued A) (go : A → Standing Own) (fs : List (Frame Own)) (st : State Own)
    → ((x : A) → Adds 0 fs st (go x)) → Adds 0 fs st (by_value l v go fs st)
value_adds l (Ok x) go fs st h = h x
value_adds l (Err f) go fs st h = record { steps = le_refl st.steps; finishes = omega arith }

chosen_adds : (v : Bool) (b c : Codes) (fs : List (Frame Own)) (st : State Own)
    → Adds 0 fs st (chosen v (Rest b ∷ fs) (Rest c ∷ fs) st)
chosen_adds true b c fs st = record { steps = le_refl st.steps; finishes = omega arith }
chosen_adds false b c fs st = record { steps = le_refl st.steps; finishes = omega arith }

again_adds : (v : Bool) (l : ℕ) (t : Truth) (b : Codes) (fs : List (Frame Own)) (st : State Own)
    → Adds 0 fs st (chosen v (Rest b ∷ Again l t b ∷ fs) fs st)
again_adds true l t b fs st = record { steps = le_refl st.steps; finishes = omega arith }
again_adds false l t b fs st = record { steps = le_refl st.steps; finishes = omega arith }

module _ (p : Program) (needs : Codes → Needs) (close : State Own → Option Settled) where
  abbrev rules : ℕ → Rules Own
  rules n = own_rules needs n close

  -- a statement, whose step was taken
  acted_adds : (n l : ℕ) (c : Code) (fs : List (Frame Own)) (st : State Own)
      → Adds (enters c) fs st (acted p (rules n) l c fs (counted (rules n) l c st))
  acted_adds zero l (Async b) fs st = record { steps = le_refl st.steps; finishes = omega arith }
  acted_adds (suc n) l (Async b) fs st = record { steps = le_refl st.steps; finishes = omega arith }
  acted_adds n l (Finish b) fs st = record { steps = le_refl st.steps; finishes = omega arith }
  acted_adds n l (Rescue b x d) fs st = record { steps = le_refl st.steps; finishes = omega arith }
  acted_adds n l (Do s) fs st =
      record { steps = primitive_less p l s (counted (rules n) l (Do s) st); finishes = omega arith }
  acted_adds n l (If t b c) fs st =
      let mid = counted (rules n) l (If t b c) st in
      let a = value_adds l (truth_at mid t) _ fs mid (λ v. chosen_adds v b c fs mid) in
      record { steps = a.steps; finishes = a.finishes }
  acted_adds n l (While t b) fs st =
      let mid = counted (rules n) l (While t b) st in
      let a = value_adds l (truth_at mid t) _ fs mid (λ v. again_adds v l t b fs mid) in
      record { steps = a.steps; finishes = a.finishes }
  acted_adds n l (Split s e x y b) fs st =
      let mid = counted (rules n) l (Split s e x y b) st in
      let a =
      value_adds l (number_at mid e) _ fs mid (λ v.
      value_adds l (ok_or (sides_of (window_at mid s) v) SplitPoint) _ fs mid (λ ws.
      record { steps = le_refl mid.steps; finishes = omega arith })) in
      record { steps = a.steps; finishes = a.finishes }
  acted_adds n l (Parts s e q i b) fs st =
      let mid = counted (rules n) l (Parts s e q i b) st in
      let a =
      value_adds l (number_at mid e) _ fs mid (λ v.
      value_adds l (ok_or (piece_size v) PieceSize) _ fs mid (λ size.
      record { steps = le_refl mid.steps; finishes = omega arith })) in
      record { steps = a.steps; finishes = a.finishes }
  acted_adds n l (Begun s size k q i b) fs st = record { steps = le_refl st.steps; finishes = omega arith }
  acted_adds n l (Call f es ss) fs st =
      let mid = counted (rules n) l (Call f es ss) st in
      let a = value_adds l (numbers_at mid es) _ fs mid (λ vs. record { steps = le_refl mid.steps; finishes = omega arith }) in
      record { steps = a.steps; finishes = a.finishes }

  -- starting a finish took a step
  record Counts (done : List Action) (fs : List (Frame Own)) (st : State Own) (t : Standing Own) : Type 0 where
    steps : t.state.steps + entered done ≤ st.steps
    finishes : opens t.frames ≡ opens fs + entered done

  acted_counts : (n m l : ℕ) (c : Code) (fs : List (Frame Own)) (st : State Own) → suc m ≡ st.steps
      → (done : List Action) → entered done ≡ enters c
      → Counts done fs st (acted p (rules n) l c fs (counted (rules n) l c (record st { steps = m })))
  acted_counts n m l c fs st e done is =
      let a = acted_adds n l c fs (record st { steps = m }) in
      let s = a.steps in
      let f = a.finishes in
      let k = at_most c in
      record { steps = omega (arith, s, e, is, k); finishes = omega (arith, f, is) }
    where
      at_most : (c : Code) → enters c ≤ 1
      at_most (Finish b) = omega arith
      at_most (Rescue b x d) = omega arith
      at_most (Async b) = omega arith
      at_most (Do s) = omega arith
      at_most (If t b c) = omega arith
      at_most (While t b) = omega arith
      at_most (Split s e x y b) = omega arith
      at_most (Parts s e q i b) = omega arith
      at_most (Begun s n k q i b) = omega arith
      at_most (Call f es ss) = omega arith

  paid_counts : (n m l : ℕ) (c : Code) (fs : List (Frame Own)) (st : State Own) → m ≡ st.steps
      → Counts (done_by needs n m c st) fs st (paid p (rules n) m l c fs st)
  paid_counts zero zero l c fs st e = record { steps = omega arith; finishes = omega arith }
  paid_counts (suc n) zero l c fs st e = record { steps = omega arith; finishes = omega arith }
  paid_counts n (suc m) l c fs st e = acted_counts n m l c fs st e (done_by needs n (suc m) c st) (entered_by needs n m c st)

  flow_counts : (n : ℕ) (g : Flow) (l : ℕ) (c : Code) (fs below : List (Frame Own)) (st : State Own) → opens below ≡ opens fs
      → Counts (done_at needs n g c st) fs st (by_flow p (rules n) g l c fs below st)
  flow_counts n On l c fs below st e = paid_counts n st.steps l c fs st refl
  flow_counts n Faulted l c fs below st e = record { steps = omega arith; finishes = omega (arith, e) }
  flow_counts n Stopped l c fs below st e = record { steps = omega arith; finishes = omega (arith, e) }

  turn_counts : (n : ℕ) (f : Frame Own) (fs : List (Frame Own)) (st : State Own)
      → Counts (done_in needs n f st) (f ∷ fs) st (turn p (rules n) f fs st)
  turn_counts n (Rest End) fs st = record { steps = omega arith; finishes = omega arith }
  turn_counts n (Rest (Then l c rest)) fs st =
      let a = flow_counts n st.flow l c (Rest rest ∷ fs) fs st (omega arith) in
      let f = a.finishes in
      record { steps = a.steps; finishes = omega (arith, f) }
  turn_counts n (Again l t b) fs st =
      let a = flow_counts n st.flow l (While t b) fs fs st refl in
      let f = a.finishes in
      record { steps = a.steps; finishes = omega (arith, f) }
  turn_counts n (Further l s size k q i b) fs st = by (has_piece (window_at st s) size k)
    where
      c : Code
      c = Begun s size k q i b

      by : (left : Bool) → Counts (if left then done_at needs n st.flow c st else []) (Further l s size k q i b ∷ fs) st
          (if◌then◌else◌ {A = Standing Own} left (by_flow p (rules n) st.flow l c fs fs st) (record { frames = fs; state = st }))
      by true =
          let a = flow_counts n st.flow l c fs fs st refl in
          let f = a.finishes in
          record { steps = a.steps; finishes = omega (arith, f) }
      by false = record { steps = omega arith; finishes = omega arith }
  turn_counts n (AtEnd before) fs st = record { steps = omega arith; finishes = omega arith }
  turn_counts n (OnFault before x c) fs st = by st.flow
    where
      by : (g : Flow) → Counts [] (OnFault before x c ∷ fs) st (handled g before x c fs st)
      by On = record { steps = omega arith; finishes = omega arith }
      by Faulted = record { steps = omega arith; finishes = omega arith }
      by Stopped = record { steps = omega arith; finishes = omega arith }
  turn_counts n (Back env) fs st = record { steps = omega arith; finishes = omega arith }

  -- quiet turns start and end no finish
  record QuietCounts (a t : Standing Own) : Type 0 where
    steps : t.state.steps ≤ a.state.steps
    finishes : opens t.frames ≡ opens a.frames

  none_entered : {actions : List Action} → IsLittle actions → entered actions ≡ 0
  none_entered (inl e) = ap entered e
  none_entered (inr e) = ap entered e

  quiet_counts : (n : ℕ) {a t : Standing Own} → Quietly p needs n close a t → QuietCounts a t
  quiet_counts n here = record { steps = omega arith; finishes = refl }
  quiet_counts n (further {f = f} {fs = fs} {st = st} little k) =
      let h = quiet_counts n k in
      let c = turn_counts n f fs st in
      let e = none_entered little in
      let s = c.steps in
      let t = c.finishes in
      let i = h.steps in
      let j = h.finishes in
      record { steps = omega (arith, s, e, i); finishes = omega (arith, t, e, j) }

-- ---- runs in Rust
frame_same : (g : rFrame) (f : Frame Own) → ShowsFrame g f → ends_finish g ≡ ends f
frame_same (rRest b) f e = ap ends (sym e)
frame_same (rAgain l t b) f e = ap ends (sym e)
frame_same (rTurns t) f e = ap ends (sym e)
frame_same (rEndFinish o) f (before, e, h) = ap ends (sym e)
frame_same (rOnFault before x b) f e = ap ends (sym e)
frame_same (rEndCall env) f e = ap ends (sym e)

opens_same : (gs : List rFrame) (fs : List (Frame Own)) → Stacked gs fs → open_finishes gs ≡ opens fs
opens_same = totals_same ends_finish ends frame_same

-- a task at its start has no finish open
pub none_open : (r : Run) (b : Codes) → Stacked r.frames.items (Rest b ∷ []) → open_finishes r.frames.items ≡ 0
none_open r b h = let a = opens_same r.frames.items (Rest b ∷ []) h in omega (arith, a)

-- after a finish one less is open than at its end
pub open_behind : (gs hs : List rFrame) (fs : List (Frame Own)) → Stacked gs fs → Stacked hs fs → open_finishes gs ≡ open_finishes hs
open_behind gs hs fs g h = opens_same gs fs g ∙ sym (opens_same hs fs h)

module _ (old : Run) where
  -- so many finishes were started, each by a step
  pub record Opened (n : ℕ) (r : Run) : Type 0 where
    pub plan : r.plan ≡ old.plan
    pub steps : r.thread.steps + n ≤ old.thread.steps
    pub finishes : open_finishes r.frames.items ≡ open_finishes old.frames.items + n

  -- a run that waits has left its innermost finish
  pub record Left (q : Paused) : Type 0 where
    pub plan : q.plan ≡ old.plan
    pub steps : q.steps ≤ old.thread.steps
    pub finishes : open_finishes old.frames.items ≡ open_finishes q.frames.items + 1

  abbrev pub Changes : Turn → Type 0
  Changes (Going r) = Opened 0 r
  Changes (Spawns r c) = Opened 0 r
  Changes (EntersFinish r) = Opened 1 r
  Changes (Over r) = Opened 0 r
  Changes (EndsFinish q x) = Left q
  Changes (Ended x) = open_finishes old.frames.items ≡ 0

  module _ (needs : Codes → Needs) where
    abbrev close : State Own → Option Settled
    close st = None

    abbrev n : ℕ
    n = old.thread.nest

    abbrev next : Frame Own → List (Frame Own) → State Own → Standing Own
    next f fs st = turn (program old.plan.program.now) (own_rules needs n close) f fs st

    goes_opened : (k : ℕ) (f : Frame Own) (fs : List (Frame Own)) (st : State Own) (r : Run) → st.steps ≡ old.thread.steps
        → Stacked old.frames.items (f ∷ fs) → entered (done_in needs n f st) ≡ k → GoesTo old (next f fs st) r → Opened k r
    goes_opened k f fs st r same shows e g =
        let a = turn_counts (program old.plan.program.now) needs close n f fs st in
        let s = a.steps in
        let t = a.finishes in
        let b = ap (λ (x : State Own). x.steps) g.stands.is in
        let c = opens_same r.frames.items (next f fs st).frames g.stands.shows.frames in
        let d = opens_same old.frames.items (f ∷ fs) shows in
        record { plan = g.plan; steps = omega (arith, s, b, e, same); finishes = omega (arith, t, c, d, e) }

    -- a run that continues starts none
    pub goes_on_opened : (r : Run) (fs : List (Frame Own)) (x : Own) → Shows old fs x → GoesOn needs old r → Opened 0 r
    goes_on_opened r fs x shows far =
        let on = far close fs x shows in
        let q = quiet_counts (program old.plan.program.now) needs close n on.1 in
        let s = q.steps in
        let t = q.finishes in
        let b = ap (λ (x : State Own). x.steps) on.2.stands.is in
        let c = opens_same r.frames.items on.0.frames on.2.stands.shows.frames in
        let d = opens_same old.frames.items fs shows.frames in
        record { plan = on.2.plan; steps = omega (arith, s, b); finishes = omega (arith, t, c, d) }

    by_turn : (t : Turn) (f : Frame Own) (fs : List (Frame Own)) (st : State Own) → st.steps ≡ old.thread.steps
        → Stacked old.frames.items (f ∷ fs) → GoesAs old (next f fs st) (done_in needs n f st) (stops n f st) t → Changes t
    by_turn (Going r) f fs st same shows g = goes_opened 0 f fs st r same shows (none_entered (program old.plan.program.now) needs close g.1.1) g.0
    by_turn (Spawns r c) f fs st same shows g = goes_opened 0 f fs st r same shows (ap entered g.1.1) g.0
    by_turn (EntersFinish r) f fs st same shows g = goes_opened 1 f fs st r same shows (ap entered g.1.1) g.0
    by_turn (Over r) f fs st same shows g = goes_opened 0 f fs st r same shows (ap entered (over_does_nothing needs n f st g.1)) g.0
    by_turn (EndsFinish q x) f fs st same shows g = absurd g
    by_turn (Ended x) f fs st same shows g = absurd g

    end_changes : (t : Turn) (st : State Own) → old.frames.items ≡ [] → EndsAs st t → Changes t
    end_changes (Ended x) st e h = ap open_finishes e
    end_changes (Going r) st e h = absurd h
    end_changes (Spawns r c) st e h = absurd h
    end_changes (EntersFinish r) st e h = absurd h
    end_changes (EndsFinish q x) st e h = absurd h
    end_changes (Over r) st e h = absurd h

    wait_changes : (t : Turn) (fs : List (Frame Own)) (before st : State Own) → st.steps ≡ old.thread.steps
        → Stacked old.frames.items (AtEnd before ∷ fs) → WaitsAs old fs before st t → Changes t
    wait_changes (EndsFinish q x) fs before st same shows (waits, plan, nest, is) =
        let a = opens_same old.frames.items (AtEnd before ∷ fs) shows in
        let b = opens_same q.frames.items fs waits.frames in
        let c = waits.steps in
        record { plan = plan; steps = omega (arith, c, same); finishes = omega (arith, a, b) }
    wait_changes (Ended x) fs before st same shows h = absurd h
    wait_changes (Going r) fs before st same shows h = absurd h
    wait_changes (Spawns r c) fs before st same shows h = absurd h
    wait_changes (EntersFinish r) fs before st same shows h = absurd h
    wait_changes (Over r) fs before st same shows h = absurd h

    by_frames : (t : Turn) (fs : List (Frame Own)) (st : State Own) → st.steps ≡ old.thread.steps → Stacked old.frames.items fs
        → TurnOf needs close old fs st t → Changes t
    by_frames t [] st same shows h = end_changes t st shows h
    by_frames t (AtEnd before ∷ fs) st same shows h = wait_changes t fs before st same shows h
    by_frames t (Rest b ∷ fs) st same shows h = by_turn t (Rest b) fs st same shows h
    by_frames t (Again l g b ∷ fs) st same shows h = by_turn t (Again l g b) fs st same shows h
    by_frames t (Further l s n k q i b ∷ fs) st same shows h = by_turn t (Further l s n k q i b) fs st same shows h
    by_frames t (OnFault before x c ∷ fs) st same shows h = by_turn t (OnFault before x c) fs st same shows h
    by_frames t (Back env ∷ fs) st same shows h = by_turn t (Back env) fs st same shows h

    -- a turn changes the open finishes and the steps left in this way
    pub changes : (t : Turn) (fs : List (Frame Own)) (x : Own) → Shows old fs x → IsTurn needs old t → Changes t
    changes t fs x shows is = by_frames t fs (with_own x (state_of old.thread)) refl shows.frames (is close fs x shows)
