-- The next action of a task is of the kind that its frames show.
use Rattle.std.proofs.Common.{◌≡◌, ℕ, zero, suc, ◌<◌, Option, Some, None, List, [], ◌∷◌, ◌++◌, length, take, refl, sym, ap, ◌∙◌, subst, arith}
use Rattle.std.proofs.Math.Seq.{take-suc}
use Rattle.std.specs.Prelude.{Bool, true, false, if◌then◌else◌, nat_eq, slice_index_or}
use Rattle.std.proofs.lemmas.Bool.{eqb-true}
use Rattle.std.proofs.lemmas.Option.{same_Some}
use Rattle.shared_lemmas.proofs.Truths.{false_true, true_false}
use Rattle.sections.specs.Place.{Window, has_piece, piece_of}
use Rattle.types.specs.Code.{Code, Do, If, While, Split, Parts, Begun, Call, Async, Finish, Rescue, Codes, End, Then, Program}
use Rattle.types.specs.Run.{State, Flow as Going, Stopped, Fault, caught, stopped, window_at}
use Rattle.types.specs.Value.{Environment}
use Rattle.effects.specs.Needs.{Needs}
use Rattle.effects.specs.Rounds.{needs_of}
use Rattle.statement_steps.specs.Standing.{flow as flow_of}
use Rattle.statement_steps.proofs.Pieces.{has_none, has_one}
use Rattle.statement_steps.specs.declared.flow.Flow.{Flow}
use Rattle.statement_steps.specs.declared.flow.Flow.TheVariants.{On as rOn, Faulted as rFaulted, Stopped as rStopped}
use Rattle.task_run.specs.Frames.{Frame, Rest, Again, Further, AtEnd, OnFault, Back, Standing, handled, done_at, done_by, done_in, paid, by_flow}
use Rattle.task_run.specs.Given.{in_truth}
use Rattle.task_run.specs.OwnRun.{Own, Start, Action, Step, Spawn, EnterFinish, EndFinish, child_of, own_rules, last_action}
use Rattle.task_run.specs.Results.{Settled}
use Rattle.task_run.specs.Standings.{ShowsFrame, state_of, with_own}
use Rattle.task_run.specs.Stops.{is_none}
use Rattle.task_run.specs.declared.frame.TaskFrame.{TaskFrame as rFrame}
use Rattle.task_run.specs.declared.run.Run.{Run}
use Rattle.task_run.specs.declared.start.Start.{Start as rStart}
use Rattle.task_run.specs.Reached.{begun}
use Rattle.task_run.specs.Translation.{start}
use Rattle.types.specs.Translation.{codes, environment}
use Rattle.task_run.proofs.RunTops.{none_stacked, on_top}
use Rattle.task_run.specs.Jobs.{IsJob, program_of, budget_of}
use Rattle.task_run.specs.declared.job.Job.{Job}
use Rattle.event_worlds.specs.Courses.{Course, HasCome, IsFresh, IsNext, IsRunOf}
use Rattle.event_worlds.specs.NextKinds.{IsLeft, NotStopped, IsOfKind, HasNext, kind_by, is_step, does, does_nested, block_does, handler_does, top_does, after_frame}
use Rattle.event_worlds.specs.declared.next.First.{First}
use Rattle.event_worlds.specs.declared.next.First.TheVariants.{Acts, Goes}
use Rattle.event_worlds.specs.declared.next.NextKind.{NextKind}
use Rattle.event_worlds.specs.declared.next.NextKind.TheVariants.{Step as ToStep, Spawn as ToSpawn, Open as ToOpen, Finish as ToFinish, End as ToEnd}
use Rattle.event_worlds.proofs.Turning.{next_is, ends_finish, ends_last, come_on, pays_none, next_of, begins_here}

-- a number is 0 or not
pub none_is : (n : ℕ) → nat_eq n 0 ≡ true → is_none n ≡ true
none_is zero e = refl
none_is (suc n) e = let zeroed = eqb-true (suc n) 0 e in absurd (omega (arith, zeroed))

pub some_is : (n : ℕ) → nat_eq n 0 ≡ false → is_none n ≡ false
some_is zero e = true_false e
some_is (suc n) e = refl

acts_goes : {k : NextKind} {g : Flow} → Acts k ≡ Goes g → ⊥
acts_goes e = let bad : ⊥ = cc e in bad

acts_inj : {k l : NextKind} → Acts k ≡ Acts l → k ≡ l
acts_inj e = cc e

goes_inj : {g k : Flow} → Goes g ≡ Goes k → g ≡ k
goes_inj e = cc e

-- the first elements of a list, and the next one
pub taken_last : {A : Type 0} (xs : List A) (x : A) (n m : ℕ) → n ≡ suc m → m < length xs → x ≡ slice_index_or xs m x
    → take n xs ≡ take m xs ++ x ∷ []
taken_last xs x n m next le is = ap (λ k. take k xs) next ∙ take-suc xs m x le ∙ ap (λ y. take m xs ++ y ∷ []) (sym is)

-- what a `parts` does that has a turn left, and one that has none
pub turn_left : (w v : Window) (n k : ℕ) (more gone : First) → piece_of w n k ≡ Some v → (if has_piece w n k then more else gone) ≡ more
turn_left w v n k more gone e = ap (λ (b : Bool). if b then more else gone) (has_one w v n k e)

pub no_turn_left : (w : Window) (n k : ℕ) (more gone : First) → piece_of w n k ≡ None → (if has_piece w n k then more else gone) ≡ gone
no_turn_left w n k more gone e = ap (λ (b : Bool). if b then more else gone) (has_none w n k e)

-- these are the actions that it does: one of this kind, or none
abbrev ActsSo : (path : List ℕ) → First → List Action → Type 0
ActsSo path (Acts k) xs = (a : Action) × (xs ≡ a ∷ []) × IsOfKind path k a
ActsSo path (Goes g) xs = xs ≡ []

module _ (needs : Codes → Needs) (path : List ℕ) where
  -- a statement with a step left
  shows_nested : (nest n : ℕ) (s : Code) (st : State Own) → ActsSo path (does_nested nest (kind_by s)) (done_by needs nest (suc n) s st)
  shows_nested zero n (Async b) st = refl
  shows_nested (suc m) n (Async b) st =
      let child = (child_of (needs b) m b st).start in (Spawn child, refl, (child, refl))
  shows_nested zero n (Finish b) st = (EnterFinish, refl, refl)
  shows_nested zero n (Rescue b x d) st = (EnterFinish, refl, refl)
  shows_nested zero n (Do s) st = (Step, refl, refl)
  shows_nested zero n (If t b c) st = (Step, refl, refl)
  shows_nested zero n (While t b) st = (Step, refl, refl)
  shows_nested zero n (Split s e x y b) st = (Step, refl, refl)
  shows_nested zero n (Parts s e q i b) st = (Step, refl, refl)
  shows_nested zero n (Begun s m k q i b) st = (Step, refl, refl)
  shows_nested zero n (Call f es ss) st = (Step, refl, refl)
  shows_nested (suc m) n (Finish b) st = (EnterFinish, refl, refl)
  shows_nested (suc m) n (Rescue b x d) st = (EnterFinish, refl, refl)
  shows_nested (suc m) n (Do s) st = (Step, refl, refl)
  shows_nested (suc m) n (If t b c) st = (Step, refl, refl)
  shows_nested (suc m) n (While t b) st = (Step, refl, refl)
  shows_nested (suc m) n (Split s e x y b) st = (Step, refl, refl)
  shows_nested (suc m) n (Parts s e q i b) st = (Step, refl, refl)
  shows_nested (suc m) n (Begun s j k q i b) st = (Step, refl, refl)
  shows_nested (suc m) n (Call f es ss) st = (Step, refl, refl)

  shows_paid : (nest n : ℕ) (s : Code) (st : State Own) → ActsSo path (does nest n rOn (kind_by s)) (done_by needs nest n s st)
  shows_paid nest zero s st = refl
  shows_paid nest (suc n) s st = shows_nested nest n s st

  -- a statement, by the flow
  shows_at : (nest steps : ℕ) (g : Flow) (s : Code) (st : State Own) → st.flow ≡ flow_of g → (NotStopped g → st.steps ≡ steps)
      → ActsSo path (does nest steps g (kind_by s)) (done_at needs nest st.flow s st)
  shows_at nest steps rOn s st e left =
      subst (λ f. ActsSo path (does nest steps rOn (kind_by s)) (done_at needs nest f s st)) (sym e)
      (subst (λ n. ActsSo path (does nest n rOn (kind_by s)) (done_by needs nest st.steps s st)) (left tt) (shows_paid nest st.steps s st))
  shows_at nest steps rFaulted s st e left = ap (λ f. done_at needs nest f s st) e
  shows_at nest steps rStopped s st e left = ap (λ f. done_at needs nest f s st) e

  -- a frame is neither the end of a finish nor a handler
  abbrev HasActions : Frame Own → Type 0
  HasActions (Rest b) = Unit {0}
  HasActions (Again l t b) = Unit {0}
  HasActions (Further l s n k q i b) = Unit {0}
  HasActions (AtEnd before) = ⊥
  HasActions (OnFault before x b) = ⊥
  HasActions (Back env) = Unit {0}

  -- such a frame on top
  shows_top : (nest steps : ℕ) (g : Flow) (f : Frame Own) (st : State Own) → st.flow ≡ flow_of g → (NotStopped g → st.steps ≡ steps)
      → HasActions f
      → ActsSo path (top_does nest steps g st.environment.windows f) (done_in needs nest f st)
  shows_top nest steps g (Rest End) st e left other = refl
  shows_top nest steps g (Rest (Then l s rest)) st e left other = shows_at nest steps g s st e left
  shows_top nest steps g (Again l t b) st e left other = shows_at nest steps g (While t b) st e left
  shows_top nest steps g (Further l s n k q i b) st e left other = by (has_piece (window_at st s) n k)
    where
      by : (more : Bool) → ActsSo path (if more then does nest steps g ToStep else Goes g)
          (if more then done_at needs nest st.flow (Begun s n k q i b) st else [])
      by true = shows_at nest steps g (Begun s n k q i b) st e left
      by false = refl
  shows_top nest steps g (AtEnd before) st e left other = absurd other
  shows_top nest steps g (OnFault before x b) st e left other = absurd other
  shows_top nest steps g (Back env) st e left other = refl

  module _ (p : Program) (nest : ℕ) (close : State Own → Option Settled) where
    -- a statement over the budget stops the task
    over_stops : (n l : ℕ) (s : Code) (fs : List (Frame Own)) (st : State Own) (g : Flow) → does nest n rOn (kind_by s) ≡ Goes g
        → (g ≡ rStopped) × ((to : State Own)
        × (paid p (own_rules needs nest close) n l s fs st ≡ record { frames = fs; state = to }) × (to.flow ≡ Stopped)
        × (to.environment ≡ st.environment))
    over_stops zero l s fs st g e = (sym (goes_inj e), (stopped st, refl, refl, refl))
    over_stops (suc n) l s fs st g e = by_code nest s e
      where
        by_code : (m : ℕ) (s : Code) → does_nested m (kind_by s) ≡ Goes g
            → (g ≡ rStopped) × ((to : State Own)
            × (paid p (own_rules needs m close) (suc n) l s fs st ≡ record { frames = fs; state = to }) × (to.flow ≡ Stopped)
            × (to.environment ≡ st.environment))
        by_code zero (Async b) e = (sym (goes_inj e), (stopped (record st { steps = n }), refl, refl, refl))
        by_code (suc m) (Async b) e = absurd (acts_goes e)
        by_code m (Finish b) e = absurd (acts_goes e)
        by_code m (Rescue b x d) e = absurd (acts_goes e)
        by_code m (Do s) e = absurd (acts_goes e)
        by_code m (If t b c) e = absurd (acts_goes e)
        by_code m (While t b) e = absurd (acts_goes e)
        by_code m (Split s i x y b) e = absurd (acts_goes e)
        by_code m (Parts s i x y b) e = absurd (acts_goes e)
        by_code m (Begun s z j x y b) e = absurd (acts_goes e)
        by_code m (Call f es ss) e = absurd (acts_goes e)

-- ---- the frames that are left, after those that did nothing
-- it is at frames, with the windows of this environment, and did nothing so far
pub record ComesTo (j : Job) (c : Course) (fs : List (Frame Own)) (env : Environment) (now : Flow) (budget : ℕ) : Type 0 where
  pub state : State Own
  pub windows : state.environment.windows ≡ env.windows
  pub flow : state.flow ≡ flow_of now
  pub steps : NotStopped now → state.steps ≡ budget
  pub come : HasCome j c (record { frames = fs; state = state })

module _ (j : Job) (ok : IsJob j) (c : Course) where
  abbrev p : Program
  p = program_of j

  abbrev At : List (Frame Own) → State Own → Standing Own
  At fs st = record { frames = fs; state = st }

  -- a turn without an action
  quiet : (f : Frame Own) (fs : List (Frame Own)) (st : State Own) → HasCome j c (At (f ∷ fs) st)
      → done_in (needs_of p) c.start.nest f st ≡ [] → HasCome j c (next_of j ok c.start f fs st)
  quiet f fs st h e =
      let le = pays_none j ok c f fs st in
      let k = come_on j ok c c.done c.spawned c.opened f fs st [] h e (omega arith) (omega arith) (omega (arith, le)) in
      record { stands = k.stands; follows = k.follows; after = k.after; children = k.children; few = k.few }

  quiet_to : (f : Frame Own) (fs : List (Frame Own)) (st : State Own) (to : Standing Own) → HasCome j c (At (f ∷ fs) st)
      → done_in (needs_of p) c.start.nest f st ≡ [] → next_of j ok c.start f fs st ≡ to → HasCome j c to
  quiet_to f fs st to h e is = subst (HasCome j c) is (quiet f fs st h e)

  -- a block whose task is stopped
  drops : (b : Codes) (fs : List (Frame Own)) (st : State Own) → st.flow ≡ Stopped → HasCome j c (At (Rest b ∷ fs) st)
      → HasCome j c (At fs st)
  drops End fs st off h = quiet (Rest End) fs st h refl
  drops (Then l s rest) fs st off h =
      quiet_to (Rest (Then l s rest)) fs st (At fs st) h (ap (λ f. done_at (needs_of p) c.start.nest f s st) off)
      (ap (λ f. by_flow p (own_rules (needs_of p) c.start.nest (in_truth p (needs_of p) (budget_of j).steps)) f l s (Rest rest ∷ fs) fs st) off)

  -- a statement that does nothing, above frames
  passes : (steps : ℕ) (f : Frame Own) (l : ℕ) (s : Code) (above fs : List (Frame Own)) (st : State Own) (g next : Flow)
      → HasCome j c (At (f ∷ fs) st) → done_in (needs_of p) c.start.nest f st ≡ done_at (needs_of p) c.start.nest st.flow s st
      → next_of j ok c.start f fs st
      ≡ by_flow p (own_rules (needs_of p) c.start.nest (in_truth p (needs_of p) (budget_of j).steps)) st.flow l s above fs st
      → ((to : State Own) → to.flow ≡ Stopped → HasCome j c (At above to) → HasCome j c (At fs to))
      → st.flow ≡ flow_of g → (NotStopped g → st.steps ≡ steps) → does c.start.nest steps g (kind_by s) ≡ Goes next
      → ComesTo j c fs st.environment next steps
  passes steps f l s above fs st g next h does_so turns_so lands e left is = by_flow_of g next e left is
    where
      turned : Going → Standing Own
      turned o = by_flow p (own_rules (needs_of p) c.start.nest (in_truth p (needs_of p) (budget_of j).steps)) o l s above fs st

      none : (g next : Flow) → st.flow ≡ flow_of g → (NotStopped g → st.steps ≡ steps) → does c.start.nest steps g (kind_by s) ≡ Goes next
          → done_in (needs_of p) c.start.nest f st ≡ []
      none g next e left is =
          does_so
          ∙ subst (λ x. ActsSo c.start.path x (done_at (needs_of p) c.start.nest st.flow s st)) is
          (shows_at (needs_of p) c.start.path c.start.nest steps g s st e left)

      off : (o : Going) (g : Flow) → st.flow ≡ o → o ≡ flow_of g → done_in (needs_of p) c.start.nest f st ≡ [] → turned o ≡ At fs st
          → (NotStopped g → st.steps ≡ steps) → ComesTo j c fs st.environment g steps
      off o g e is acts_none to left = record {
        state = st;
        windows = refl;
        flow = e ∙ is;
        steps = left;
        come = quiet_to f fs st (At fs st) h acts_none (turns_so ∙ ap turned e ∙ to);
      }

      by_flow_of : (g next : Flow) → st.flow ≡ flow_of g → (NotStopped g → st.steps ≡ steps) → does c.start.nest steps g (kind_by s) ≡ Goes next
          → ComesTo j c fs st.environment next steps
      by_flow_of rOn next e left is =
          let over = over_stops (needs_of p) c.start.path p c.start.nest (in_truth p (needs_of p) (budget_of j).steps) st.steps l s above st next
          (ap (λ n. does c.start.nest n rOn (kind_by s)) (left tt) ∙ is) in
          record {
            state = over.1.0;
            windows = ap (λ (e : Environment). e.windows) over.1.3;
            flow = over.1.2 ∙ ap flow_of (sym over.0);
            steps = λ on. absurd (subst NotStopped over.0 on);
            come = lands over.1.0 over.1.2
                (quiet_to f fs st (At above over.1.0) h (none rOn next e left is) (turns_so ∙ ap turned e ∙ over.1.1));
          }
      by_flow_of rFaulted next e left is =
          subst (λ g. ComesTo j c fs st.environment g steps) (goes_inj is) (off (flow_of rFaulted) rFaulted e refl (none rFaulted next e left is) refl left)
      by_flow_of rStopped next e left is =
          subst (λ g. ComesTo j c fs st.environment g steps) (goes_inj is) (off (flow_of rStopped) rStopped e refl (none rStopped next e left is) refl left)

  -- the turns of a `parts` go away: none is left, or the flow isn't on or no step is left
  turns_go : (steps l s n k q i : ℕ) (b : Codes) (fs : List (Frame Own)) (st : State Own) (g next : Flow)
      → HasCome j c (At (Further l s n k q i b ∷ fs) st) → st.flow ≡ flow_of g → (NotStopped g → st.steps ≡ steps)
      → top_does c.start.nest steps g st.environment.windows (Further l s n k q i b) ≡ Goes next
      → ComesTo j c fs st.environment next steps
  turns_go steps l s n k q i b fs st g next h e left is = by (has_piece (window_at st s) n k) refl is
    where
      code : Code
      code = Begun s n k q i b

      turned : Standing Own
      turned = by_flow p (own_rules (needs_of p) c.start.nest (in_truth p (needs_of p) (budget_of j).steps)) st.flow l code fs fs st

      acts_as : (more : Bool) → has_piece (window_at st s) n k ≡ more
          → done_in (needs_of p) c.start.nest (Further l s n k q i b) st
          ≡ (if more then done_at (needs_of p) c.start.nest st.flow code st else [])
      acts_as more m = ap (λ (x : Bool). if x then done_at (needs_of p) c.start.nest st.flow code st else []) m

      turns_as : (more : Bool) → has_piece (window_at st s) n k ≡ more
          → next_of j ok c.start (Further l s n k q i b) fs st ≡ if◌then◌else◌ {A = Standing Own} more turned (At fs st)
      turns_as more m = ap (λ (x : Bool). if◌then◌else◌ {A = Standing Own} x turned (At fs st)) m

      by : (more : Bool) → has_piece (window_at st s) n k ≡ more
          → (if more then does c.start.nest steps g ToStep else Goes g) ≡ Goes next → ComesTo j c fs st.environment next steps
      by true m is =
          passes steps (Further l s n k q i b) l code fs fs st g next h (acts_as true m) (turns_as true m) (λ to off there. there) e left is
      by false m is =
          let same : g ≡ next = goes_inj is in
          record {
            state = st;
            windows = refl;
            flow = e ∙ ap flow_of same;
            steps = λ on. left (subst NotStopped (sym same) on);
            come = quiet_to (Further l s n k q i b) fs st (At fs st) h (acts_as false m) (turns_as false m);
          }

  -- a block goes away
  rest_goes : (steps : ℕ) (b : Codes) (fs : List (Frame Own)) (st : State Own) (g next : Flow) → HasCome j c (At (Rest b ∷ fs) st)
      → st.flow ≡ flow_of g → (NotStopped g → st.steps ≡ steps) → block_does c.start.nest steps g b ≡ Goes next
      → ComesTo j c fs st.environment next steps
  rest_goes steps End fs st g next h e left is =
      let same : g ≡ next = goes_inj is in
      record {
        state = st;
        windows = refl;
        flow = e ∙ ap flow_of same;
        steps = λ on. left (subst NotStopped (sym same) on);
        come = quiet (Rest End) fs st h refl;
      }
  rest_goes steps (Then l s rest) fs st g next h e left is =
      passes steps (Rest (Then l s rest)) l s (Rest rest ∷ fs) fs st g next h refl refl (λ to off there. drops rest fs to off there) e left is

  -- after a fault the handler of a finish is next
  catches : (before : List Fault) (x : ℕ) (b : Codes) (fs : List (Frame Own)) (st : State Own)
      → HasCome j c (At (OnFault before x b ∷ fs) st) → st.flow ≡ flow_of rFaulted
      → HasCome j c (At (Rest b ∷ fs) (caught x before st))
  catches before x b fs st h e =
      quiet_to (OnFault before x b) fs st (At (Rest b ∷ fs) (caught x before st)) h refl (ap (λ w. handled w before x b fs st) e)

  -- otherwise it goes away
  handler_goes : (steps : ℕ) (before : List Fault) (x : ℕ) (b : Codes) (fs : List (Frame Own)) (st : State Own) (g next : Flow)
      → HasCome j c (At (OnFault before x b ∷ fs) st) → st.flow ≡ flow_of g → (NotStopped g → st.steps ≡ steps)
      → handler_does c.start.nest steps g b ≡ Goes next → ComesTo j c fs st.environment next steps
  handler_goes steps before x b fs st rOn next h e left is =
      let same : rOn ≡ next = goes_inj is in
      record {
        state = st;
        windows = refl;
        flow = e ∙ ap flow_of same;
        steps = λ on. left tt;
        come = quiet_to (OnFault before x b) fs st (At fs st) h refl (ap (λ w. handled w before x b fs st) e);
      }
  handler_goes steps before x b fs st rFaulted next h e left is =
      let to = rest_goes steps b fs (caught x before st) rOn next (catches before x b fs st h e) refl (λ on. left tt) is in
      record { state = to.state; windows = to.windows; flow = to.flow; steps = to.steps; come = to.come }
  handler_goes steps before x b fs st rStopped next h e left is =
      let same : rStopped ≡ next = goes_inj is in
      record {
        state = st;
        windows = refl;
        flow = e ∙ ap flow_of same;
        steps = λ on. left (subst NotStopped (sym same) on);
        come = quiet_to (OnFault before x b) fs st (At fs st) h refl (ap (λ w. handled w before x b fs st) e);
      }

  -- a frame goes away
  goes : (steps : ℕ) (f : Frame Own) (fs : List (Frame Own)) (st : State Own) (g next : Flow) → HasCome j c (At (f ∷ fs) st)
      → st.flow ≡ flow_of g → (NotStopped g → st.steps ≡ steps) → top_does c.start.nest steps g st.environment.windows f ≡ Goes next
      → ComesTo j c fs (after_frame f st.environment) next steps
  goes steps (Rest b) fs st g next h e left is = rest_goes steps b fs st g next h e left is
  goes steps (Back env) fs st g next h e left is =
      let same : g ≡ next = goes_inj is in
      record {
        state = record st { environment = env };
        windows = refl;
        flow = e ∙ ap flow_of same;
        steps = λ on. left (subst NotStopped (sym same) on);
        come = quiet (Back env) fs st h refl;
      }
  goes steps (AtEnd before) fs st g next h e left is = absurd (acts_goes is)
  goes steps (OnFault before x b) fs st g next h e left is = handler_goes steps before x b fs st g next h e left is
  goes steps (Again l t b) fs st g next h e left is =
      passes steps (Again l t b) l (While t b) fs fs st g next h refl refl (λ to off there. there) e left is
  goes steps (Further l s n k q i b) fs st g next h e left is = turns_go steps l s n k q i b fs st g next h e left is

  -- a block does an action
  rest_acts : (steps : ℕ) (b : Codes) (fs : List (Frame Own)) (st : State Own) (g : Flow) (k : NextKind) → HasCome j c (At (Rest b ∷ fs) st)
      → st.flow ≡ flow_of g → (NotStopped g → st.steps ≡ steps) → block_does c.start.nest steps g b ≡ Acts k → HasNext j c k
  rest_acts steps b fs st g k h e left is =
      let so = subst (λ x. ActsSo c.start.path x (done_in (needs_of p) c.start.nest (Rest b) st)) is
      (shows_top (needs_of p) c.start.path c.start.nest steps g (Rest b) st e left tt) in
      record { action = so.0; next = next_is j ok c (Rest b) fs st so.0 h so.1; of = so.2 }

  -- after a fault the handler of a finish does one
  handler_acts : (steps : ℕ) (before : List Fault) (x : ℕ) (b : Codes) (fs : List (Frame Own)) (st : State Own) (g : Flow) (k : NextKind)
      → HasCome j c (At (OnFault before x b ∷ fs) st) → st.flow ≡ flow_of g → (NotStopped g → st.steps ≡ steps)
      → handler_does c.start.nest steps g b ≡ Acts k → HasNext j c k
  handler_acts steps before x b fs st rOn k h e left is = absurd (acts_goes (sym is))
  handler_acts steps before x b fs st rFaulted k h e left is =
      rest_acts steps b fs (caught x before st) rOn k (catches before x b fs st h e) refl (λ on. left tt) is
  handler_acts steps before x b fs st rStopped k h e left is = absurd (acts_goes (sym is))

  -- a frame does an action
  acts : (steps : ℕ) (f : Frame Own) (fs : List (Frame Own)) (st : State Own) (g : Flow) (k : NextKind) → HasCome j c (At (f ∷ fs) st)
      → st.flow ≡ flow_of g → (NotStopped g → st.steps ≡ steps) → top_does c.start.nest steps g st.environment.windows f ≡ Acts k
      → HasNext j c k
  acts steps (AtEnd before) fs st g k h e left is =
      subst (HasNext j c) (acts_inj is) (record { action = EndFinish; next = ends_finish j ok c before fs st h; of = refl })
  acts steps (OnFault before x b) fs st g k h e left is = handler_acts steps before x b fs st g k h e left is
  acts steps (Rest b) fs st g k h e left is = rest_acts steps b fs st g k h e left is
  acts steps (Again l t b) fs st g k h e left is =
      let so = subst (λ x. ActsSo c.start.path x (done_in (needs_of p) c.start.nest (Again l t b) st)) is
      (shows_top (needs_of p) c.start.path c.start.nest steps g (Again l t b) st e left tt) in
      record { action = so.0; next = next_is j ok c (Again l t b) fs st so.0 h so.1; of = so.2 }
  acts steps (Further l s n m q i b) fs st g k h e left is =
      let f : Frame Own = Further l s n m q i b in
      let so = subst (λ x. ActsSo c.start.path x (done_in (needs_of p) c.start.nest f st)) is
      (shows_top (needs_of p) c.start.path c.start.nest steps g f st e left tt) in
      record { action = so.0; next = next_is j ok c f fs st so.0 h so.1; of = so.2 }
  acts steps (Back env) fs st g k h e left is = absurd (acts_goes (sym is))

  -- ---- the frames in Rust
  -- at first, all frames are left
  pub all_left : (r : Run) → IsRunOf j c r
      → IsLeft j c r.frames.items (environment r.thread.environment) r.thread.flow r.thread.steps
  all_left r m = record {
    left = m.frames;
    state = with_own m.own (state_of r.thread);
    stacked = m.shows.frames;
    windows = refl;
    flow = refl;
    steps = λ on. refl;
    come = m.come;
  }

  -- in an environment with the same windows
  same_after : (f : Frame Own) (e d : Environment) → e.windows ≡ d.windows → (after_frame f e).windows ≡ (after_frame f d).windows
  same_after (Back env) e d same = refl
  same_after (Rest b) e d same = same
  same_after (Again l t b) e d same = same
  same_after (Further l s n k q i b) e d same = same
  same_after (AtEnd before) e d same = same
  same_after (OnFault before x b) e d same = same

  module _ (frames below : List rFrame) (top : rFrame) (are : frames ≡ below ++ top ∷ []) (env : Environment)
      (g : Flow) (steps : ℕ) (i : IsLeft j c frames env g steps) where
    shown_does : (f : Frame Own)
        → top_does c.start.nest steps g i.state.environment.windows f ≡ top_does c.start.nest steps g env.windows f
    shown_does f = ap (λ (w : ℕ → Window). top_does c.start.nest steps g w f) i.windows

    -- the top frame does nothing
    pub left_below : (after : Environment) (next : Flow) → ((f : Frame Own) → ShowsFrame top f → after ≡ after_frame f env)
        → ((f : Frame Own) → ShowsFrame top f → Goes next ≡ top_does c.start.nest steps g env.windows f)
        → IsLeft j c below after next steps
    left_below after next comes does_so =
        on_top frames below top i.left are i.stacked (λ fs. HasCome j c (At fs i.state) → IsLeft j c below after next steps)
        (λ f fs shown stacked come.
        let to = goes steps f fs i.state g next come i.flow i.steps (shown_does f ∙ sym (does_so f shown)) in
        record {
          left = fs;
          state = to.state;
          stacked = stacked;
          windows =
              to.windows ∙ same_after f i.state.environment env i.windows ∙ sym (ap (λ (e : Environment). e.windows) (comes f shown));
          flow = to.flow;
          steps = to.steps;
          come = to.come;
        }) i.come

    -- it does an action
    pub acts_now : (k : NextKind) → ((f : Frame Own) → ShowsFrame top f → Acts k ≡ top_does c.start.nest steps g env.windows f)
        → HasNext j c k
    acts_now k does_so =
        on_top frames below top i.left are i.stacked (λ fs. HasCome j c (At fs i.state) → HasNext j c k)
        (λ f fs shown stacked come. acts steps f fs i.state g k come i.flow i.steps (shown_does f ∙ sym (does_so f shown))) i.come

  -- none is left
  pub ends_now : (frames : List rFrame) (env : Environment) (g : Flow) (steps : ℕ) → frames ≡ []
      → IsLeft j c frames env g steps → HasNext j c ToEnd
  ends_now frames env g steps none i =
      let come = subst (λ (fs : List (Frame Own)). HasCome j c (At fs i.state)) (none_stacked frames i.left none i.stacked) i.come in
      record { action = last_action c.start.path; next = ends_last j ok c i.state come; of = refl }

  -- ---- a task that hasn't started
  module _ (s : rStart) (fresh : IsFresh j c s) where
    abbrev first : State Own
    first = (begun (budget_of j).steps (start s)).state

    does_first : (f : First) → f ≡ block_does s.nest (budget_of j).steps rOn (codes s.body.now)
        → top_does c.start.nest (budget_of j).steps rOn first.environment.windows (Rest (start s).body) ≡ f
    does_first f e =
        sym (e ∙ ap (λ n. block_does n (budget_of j).steps rOn (codes s.body.now)) (ap (λ (x : Start). x.nest) fresh.is))

    pub fresh_acts : (k : NextKind) → Acts k ≡ block_does s.nest (budget_of j).steps rOn (codes s.body.now) → HasNext j c k
    fresh_acts k e =
        acts (budget_of j).steps (Rest (start s).body) [] first rOn k (begins_here j ok c s fresh) refl (λ on. refl) (does_first (Acts k) e)

    pub fresh_ends : (g : Flow) → Goes g ≡ block_does s.nest (budget_of j).steps rOn (codes s.body.now) → HasNext j c ToEnd
    fresh_ends g e =
        let to = goes (budget_of j).steps (Rest (start s).body) [] first rOn g (begins_here j ok c s fresh) refl (λ on. refl)
        (does_first (Goes g) e) in
        record { action = last_action c.start.path; next = ends_last j ok c to.state to.come; of = refl }

-- ---- steps
pub step_kind : (k : NextKind) → is_step k ≡ true → k ≡ ToStep
step_kind ToStep e = refl
step_kind k e = false_true e

not_a_step : (q : List ℕ) (k : NextKind) → is_step k ≡ false → IsOfKind q k Step → ⊥
not_a_step q ToStep e of = true_false e
not_a_step q ToSpawn e of = let bad : ⊥ = cc of.1 in bad
not_a_step q ToOpen e of = let bad : ⊥ = cc of in bad
not_a_step q ToFinish e of = let bad : ⊥ = cc of in bad
not_a_step [] ToEnd e of = let bad : ⊥ = cc of in bad
not_a_step (i ∷ q) ToEnd e of = let bad : ⊥ = cc of in bad

-- a task whose next action is of another kind takes no step
pub next_no_step : (j : Job) (c : Course) (k : NextKind) → is_step k ≡ false → HasNext j c k → IsNext j c Step → ⊥
next_no_step j c k e h next =
    not_a_step c.start.path k e (subst (IsOfKind c.start.path k) (same_Some h.action Step (sym h.next ∙ next)) h.of)
