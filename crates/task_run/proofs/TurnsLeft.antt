-- A turn leaves fewer turns.
use Rattle.std.proofs.Common.{◌≡◌, ℕ, zero, suc, ◌+◌, ◌*◌, ◌<◌, ◌≤◌, List, [], ◌∷◌, ◌++◌, Option, None, Ok, Err, refl, sym, ap}
use Rattle.std.proofs.Common.{◌∙◌, subst, arith, le_refl}
use Rattle.std.specs.Prelude.{Bool, true, false, ok_or, if◌then◌else◌}
use Rattle.sections.specs.Place.{has_piece, sides_of}
use Rattle.types.specs.declared.code.Stmt.{Stmt}
use Rattle.types.specs.declared.fault.FaultKind.TheVariants.{PieceSize, SplitPoint}
use Rattle.types.specs.Code.{Truth, Code, Do, If, While, Split, Parts, Begun, Call, Async, Finish, Rescue, Codes, End}
use Rattle.types.specs.Code.{Then, Program}
use Rattle.types.specs.Translation.{codes, program}
use Rattle.types.specs.Value.{Valued}
use Rattle.types.specs.Run.{Flow, On, Faulted, Stopped, State, Fault, Rules, number_at, numbers_at, truth_at}
use Rattle.types.specs.Run.{window_at, counted}
use Rattle.types.specs.Run.{piece_size, procedure_of}
use Rattle.effects.specs.Needs.{Needs}
use Rattle.statement_steps.specs.Standing.{flow}
use Rattle.statement_steps.specs.declared.flow.Flow.{Flow as rFlow}
use Rattle.statement_steps.specs.declared.thread.Plan.{Plan}
use Rattle.statement_steps.specs.declared.flow.Flow.TheVariants.{On as rOn, Faulted as rFaulted, Stopped as rStopped}
use Rattle.task_run.specs.Results.{Settled}
use Rattle.task_run.specs.OwnRun.{Action, Step, Spawn, EnterFinish, EndFinish, EndTask, Own, Start, own_rules}
use Rattle.task_run.specs.Frames.{Frame, Rest, Again, Further, AtEnd, OnFault, Back, Standing, by_value, chosen}
use Rattle.task_run.specs.Frames.{acted, handled, paid, by_flow, turn}
use Rattle.task_run.specs.Frames.{done_by, done_at, done_in, handed}
use Rattle.task_run.specs.Quiet.{Quietly, here, further}
use Rattle.task_run.specs.Reached.{begun}
use Rattle.task_run.specs.Left.{rate, block_cost, left_of, left_of_paused, left_of_start, left_after, stop_cost}
use Rattle.task_run.specs.Left.{cost as cost_of, costs as costs_of, total}
use Rattle.task_run.specs.RunTurns.{GoesAs, GoesTo, IsTurn, TurnOf, EndsAs, WaitsAs, Waits}
use Rattle.task_run.specs.Standings.{IsAt, Shows, ShowsFrame, Stacked, state_of, with_own}
use Rattle.task_run.specs.Translation.{start}
use Rattle.task_run.specs.declared.frame.TaskFrame.{TaskFrame as rFrame}
use Rattle.task_run.specs.declared.frame.TaskFrame.TheVariants.{Rest as rRest, Again as rAgain, Turns as rTurns}
use Rattle.task_run.specs.declared.frame.TaskFrame.TheVariants.{EndFinish as rEndFinish, OnFault as rOnFault, EndCall as rEndCall}
use Rattle.task_run.specs.declared.run.Run.{Run}
use Rattle.task_run.specs.declared.turn.Paused.{Paused}
use Rattle.task_run.specs.declared.turn.Turn.{Turn}
use Rattle.task_run.specs.declared.turn.Turn.TheVariants.{Going, Spawns, EntersFinish, EndsFinish, Ended, Over}
use Rattle.std.proofs.lemmas.Nat.{mul-le}
use Rattle.types.proofs.Solutions.{primitive_less}

-- no async
abbrev IsPlain : Code → Type 0
IsPlain (Async b) = ⊥
IsPlain _ = Unit {0}

-- ---- the bounds for frames and configurations as they are defined
abbrev cost : Frame Own → ℕ
cost (Rest End) = 1
cost (Rest (Then l s rest)) = 2
cost (Again l t b) = 1
cost (Further l s n k q i b) = 1
cost (AtEnd before) = 8
cost (OnFault before x c) = 4
cost (Back env) = 1

abbrev costs : List (Frame Own) → ℕ
costs = total cost

block_costs : (b : Codes) → cost (Rest b) ≤ 2
block_costs End = omega arith
block_costs (Then l s rest) = omega arith

abbrev stops : Flow → ℕ
stops On = 1
stops Faulted = 0
stops Stopped = 0

stops_once : (f : Flow) → stops f ≤ 1
stops_once On = omega arith
stops_once Faulted = omega arith
stops_once Stopped = omega arith

some_rate : (fresh n : ℕ) → 18 ≤ rate fresh n
some_rate fresh zero = omega arith
some_rate fresh (suc n) = omega arith

abbrev pub left : (fresh n : ℕ) → Standing Own → ℕ
left fresh n t = t.state.steps * rate fresh n + costs t.frames + stops t.state.flow + 1

-- the bounds of spawned tasks
abbrev begun_left : (fresh : ℕ) → List Action → ℕ
begun_left fresh [] = 0
begun_left fresh (Spawn c ∷ rest) = left_of_start fresh c.nest + begun_left fresh rest
begun_left fresh (Step ∷ rest) = begun_left fresh rest
begun_left fresh (EnterFinish ∷ rest) = begun_left fresh rest
begun_left fresh (EndFinish ∷ rest) = begun_left fresh rest
begun_left fresh (EndTask ∷ rest) = begun_left fresh rest

-- no step is added, and the cost of frames grows at most by this
record Adds (most : ℕ) (fs : List (Frame Own)) (st : State Own) (t : Standing Own) : Type 0 where
  steps : t.state.steps ≤ st.steps
  frames : costs t.frames ≤ costs fs + most

value_adds : {A : Type 0} (most l : ℕ) (v : Valued A) (go : A → Standing Own) (fs : List (Frame Own)) (st : State Own)
    → ((x : A) → Adds most fs st (go x)) → Adds most fs st (by_value l v go fs st)
value_adds most l (Ok x) go fs st h = h x
value_adds most l (Err f) go fs st h = record { steps = le_refl st.steps; frames = omega arith }

blocks_add : (b : Codes) (fs : List (Frame Own)) (st to : State Own) → to.steps ≡ st.steps
    → Adds 2 fs st (record { frames = Rest b ∷ fs; state = to })
blocks_add b fs st to e = record { steps = omega (arith, e); frames = let h = block_costs b in omega (arith, h) }

chosen_adds : (v : Bool) (b c : Codes) (fs : List (Frame Own)) (st : State Own)
    → Adds 2 fs st (chosen v (Rest b ∷ fs) (Rest c ∷ fs) st)
chosen_adds true b c fs st = blocks_add b fs st st refl
chosen_adds false b c fs st = blocks_add c fs st st refl

again_adds : (v : Bool) (l : ℕ) (t : Truth) (b : Codes) (fs : List (Frame Own)) (st : State Own)
    → Adds 3 fs st (chosen v (Rest b ∷ Again l t b ∷ fs) fs st)
again_adds true l t b fs st = record { steps = le_refl st.steps; frames = let h = block_costs b in omega (arith, h) }
again_adds false l t b fs st = record { steps = le_refl st.steps; frames = omega arith }

added_left : (fresh n most m : ℕ) (fs : List (Frame Own)) (st : State Own) (t : Standing Own) → most + 2 < 18 → st.steps ≡ m
    → Adds most fs st t → left fresh n t < suc m * rate fresh n + costs fs
added_left fresh n most m fs st t few e a =
    let i = a.steps in
    let j = a.frames in
    let k = stops_once t.state.flow in
    let r = some_rate fresh n in
    let f = mul-le t.state.steps (rate fresh n) m (rate fresh n) (omega (arith, i, e)) (le_refl (rate fresh n)) in
    omega (arith, few, f, j, k, r)

module _ (fresh : ℕ) (p : Program) (needs : Codes → Needs) (close : State Own → Option Settled) where
  abbrev rules : ℕ → Rules Own
  rules n = own_rules needs n close

  -- the effect of a statement whose step was taken
  abbrev to : (n m l : ℕ) → Code → List (Frame Own) → State Own → Standing Own
  to n m l c fs st = acted p (rules n) l c fs (counted (rules n) l c (record st { steps = m }))

  abbrev Pays : (n m l : ℕ) → Code → List (Frame Own) → State Own → Type 0
  Pays n m l c fs st =
      left fresh n (to n m l c fs st) + begun_left fresh (done_by needs n (suc m) c st) < suc m * rate fresh n + costs fs

  by_adds : (n most m l : ℕ) (c : Code) (fs : List (Frame Own)) (st mid : State Own) → most + 2 < 18
      → begun_left fresh (done_by needs n (suc m) c st) ≡ 0 → mid.steps ≡ m → Adds most fs mid (to n m l c fs st) → Pays n m l c fs st
  by_adds n most m l c fs st mid few none same a =
      let h = added_left fresh n most m fs mid (to n m l c fs st) few same a in omega (arith, none, h)

  -- a statement other than an async spawns no task
  plain_pays : (n m l : ℕ) (c : Code) (fs : List (Frame Own)) (st : State Own) → ((b : Codes) → c ≡ Async b → ⊥)
      → begun_left fresh (done_by needs n (suc m) c st) ≡ 0 → Pays n m l c fs st
  plain_pays n m l (Do s) fs st other none =
      let mid = counted (rules n) l (Do s) (record st { steps = m }) in
      by_adds n 0 m l (Do s) fs st mid (omega arith) none refl
      (record { steps = primitive_less p l s mid; frames = omega arith })
  plain_pays n m l (If t b c) fs st other none =
      let mid = counted (rules n) l (If t b c) (record st { steps = m }) in
      by_adds n 2 m l (If t b c) fs st mid (omega arith) none refl
      (value_adds 2 l (truth_at mid t) _ fs mid (λ v. chosen_adds v b c fs mid))
  plain_pays n m l (While t b) fs st other none =
      let mid = counted (rules n) l (While t b) (record st { steps = m }) in
      by_adds n 3 m l (While t b) fs st mid (omega arith) none refl
      (value_adds 3 l (truth_at mid t) _ fs mid (λ v. again_adds v l t b fs mid))
  plain_pays n m l (Split s e x y b) fs st other none =
      let mid = counted (rules n) l (Split s e x y b) (record st { steps = m }) in
      by_adds n 2 m l (Split s e x y b) fs st mid (omega arith) none refl
      (value_adds 2 l (number_at mid e) _ fs mid (λ v.
      value_adds 2 l (ok_or (sides_of (window_at mid s) v) SplitPoint) _ fs mid (λ ws. blocks_add b fs mid _ refl)))
  plain_pays n m l (Parts s e q i b) fs st other none =
      let mid = counted (rules n) l (Parts s e q i b) (record st { steps = m }) in
      by_adds n 1 m l (Parts s e q i b) fs st mid (omega arith) none refl
      (value_adds 1 l (number_at mid e) _ fs mid (λ v.
      value_adds 1 l (ok_or (piece_size v) PieceSize) _ fs mid (λ k. record { steps = le_refl mid.steps; frames = omega arith })))
  plain_pays n m l (Begun s k j q i b) fs st other none =
      let mid = counted (rules n) l (Begun s k j q i b) (record st { steps = m }) in
      by_adds n 3 m l (Begun s k j q i b) fs st mid (omega arith) none refl
      (record { steps = le_refl mid.steps; frames = let h = block_costs b in omega (arith, h) })
  plain_pays n m l (Call f es ss) fs st other none =
      let mid = counted (rules n) l (Call f es ss) (record st { steps = m }) in
      by_adds n 3 m l (Call f es ss) fs st mid (omega arith) none refl
      (value_adds 3 l (numbers_at mid es) _ fs mid (λ vs.
      record { steps = le_refl mid.steps; frames = let h = block_costs (procedure_of p f).body in omega (arith, h) }))
  plain_pays n m l (Async b) fs st other none = absurd (other b refl)
  plain_pays n m l (Finish b) fs st other none =
      let mid = record st { steps = m } in
      by_adds n 10 m l (Finish b) fs st mid (omega arith) none refl
      (record { steps = le_refl m; frames = let h = block_costs b in omega (arith, h) })
  plain_pays n m l (Rescue b x c) fs st other none =
      let mid = record st { steps = m } in
      by_adds n 14 m l (Rescue b x c) fs st mid (omega arith) none refl
      (record { steps = le_refl m; frames = let h = block_costs b in omega (arith, h) })

  no_async : {c : Code} → IsPlain c → (b : Codes) → c ≡ Async b → ⊥
  no_async {c = c} h b e = subst IsPlain e h

  -- its step covers the cost of what a statement leads to
  pays : (n m l : ℕ) (c : Code) (fs : List (Frame Own)) (st : State Own) → Pays n m l c fs st
  pays zero m l (Async b) fs st = omega arith
  pays (suc n) m l (Async b) fs st = omega arith
  pays zero m l (Do s) fs st = plain_pays zero m l (Do s) fs st (no_async tt) refl
  pays (suc n) m l (Do s) fs st = plain_pays (suc n) m l (Do s) fs st (no_async tt) refl
  pays zero m l (If t b c) fs st = plain_pays zero m l (If t b c) fs st (no_async tt) refl
  pays (suc n) m l (If t b c) fs st = plain_pays (suc n) m l (If t b c) fs st (no_async tt) refl
  pays zero m l (While t b) fs st = plain_pays zero m l (While t b) fs st (no_async tt) refl
  pays (suc n) m l (While t b) fs st = plain_pays (suc n) m l (While t b) fs st (no_async tt) refl
  pays zero m l (Split s e x y b) fs st = plain_pays zero m l (Split s e x y b) fs st (no_async tt) refl
  pays (suc n) m l (Split s e x y b) fs st = plain_pays (suc n) m l (Split s e x y b) fs st (no_async tt) refl
  pays zero m l (Parts s e q i b) fs st = plain_pays zero m l (Parts s e q i b) fs st (no_async tt) refl
  pays zero m l (Begun s k j q i b) fs st = plain_pays zero m l (Begun s k j q i b) fs st (no_async tt) refl
  pays zero m l (Call f es ss) fs st = plain_pays zero m l (Call f es ss) fs st (no_async tt) refl
  pays (suc n) m l (Parts s e q i b) fs st = plain_pays (suc n) m l (Parts s e q i b) fs st (no_async tt) refl
  pays (suc n) m l (Begun s k j q i b) fs st = plain_pays (suc n) m l (Begun s k j q i b) fs st (no_async tt) refl
  pays (suc n) m l (Call f es ss) fs st = plain_pays (suc n) m l (Call f es ss) fs st (no_async tt) refl
  pays zero m l (Finish b) fs st = plain_pays zero m l (Finish b) fs st (no_async tt) refl
  pays (suc n) m l (Finish b) fs st = plain_pays (suc n) m l (Finish b) fs st (no_async tt) refl
  pays zero m l (Rescue b x c) fs st = plain_pays zero m l (Rescue b x c) fs st (no_async tt) refl
  pays (suc n) m l (Rescue b x c) fs st = plain_pays (suc n) m l (Rescue b x c) fs st (no_async tt) refl

  -- if no step is left the task is stopped
  paid_left : (n m l : ℕ) (c : Code) (fs : List (Frame Own)) (st : State Own) → m ≡ st.steps
      → left fresh n (paid p (rules n) m l c fs st) + begun_left fresh (done_by needs n m c st) < st.steps * rate fresh n + costs fs + 2
  paid_left zero zero l c fs st e = omega arith
  paid_left (suc n) zero l c fs st e = omega arith
  paid_left n (suc m) l c fs st e =
      let h = pays n m l c fs st in let k = ap (λ x. x * rate fresh n) e in omega (arith, h, k)

  flow_left : (n : ℕ) (g : Flow) (l : ℕ) (c : Code) (fs below : List (Frame Own)) (st : State Own) (w : ℕ) → g ≡ st.flow
      → costs fs ≤ w → costs below < w
      → left fresh n (by_flow p (rules n) g l c fs below st) + begun_left fresh (done_at needs n g c st)
      < st.steps * rate fresh n + w + stops st.flow + 1
  flow_left n On l c fs below st w e le lt =
      let h = paid_left n st.steps l c fs st refl in let k = ap stops e in omega (arith, h, k, le)
  flow_left n Faulted l c fs below st w e le lt = omega (arith, lt)
  flow_left n Stopped l c fs below st w e le lt = omega (arith, lt)

  -- a turn, except the end of a finish, which waits
  abbrev Leaves : (n : ℕ) → Frame Own → List (Frame Own) → State Own → Type 0
  Leaves n f fs st =
      left fresh n (turn p (rules n) f fs st) + begun_left fresh (done_in needs n f st)
      < left fresh n (record { frames = f ∷ fs; state = st })

  pub rest_leaves : (n : ℕ) (b : Codes) (fs : List (Frame Own)) (st : State Own) → Leaves n (Rest b) fs st
  rest_leaves n End fs st = omega arith
  rest_leaves n (Then l c rest) fs st =
      let k = block_costs rest in
      let h = flow_left n st.flow l c (Rest rest ∷ fs) fs st (2 + costs fs) refl (omega (arith, k)) (omega arith) in
      omega (arith, h)

  again_leaves : (n l : ℕ) (t : Truth) (b : Codes) (fs : List (Frame Own)) (st : State Own) → Leaves n (Again l t b) fs st
  again_leaves n l t b fs st =
      let h = flow_left n st.flow l (While t b) fs fs st (1 + costs fs) refl (omega arith) (omega arith) in omega (arith, h)

  further_leaves : (n l s k j q i : ℕ) (b : Codes) (fs : List (Frame Own)) (st : State Own) → Leaves n (Further l s k j q i b) fs st
  further_leaves n l s k j q i b fs st = by (has_piece (window_at st s) k j)
    where
      c : Code
      c = Begun s k j q i b

      by : (more : Bool)
          → left fresh n (if◌then◌else◌ {A = Standing Own} more (by_flow p (rules n) st.flow l c fs fs st) (record { frames = fs; state = st }))
          + begun_left fresh (if◌then◌else◌ {A = List Action} more (done_at needs n st.flow c st) [])
          < left fresh n (record { frames = Further l s k j q i b ∷ fs; state = st })
      by true = let h = flow_left n st.flow l c fs fs st (1 + costs fs) refl (omega arith) (omega arith) in omega (arith, h)
      by false = omega arith

  handler_leaves : (n : ℕ) (before : List Fault) (x : ℕ) (c : Codes) (fs : List (Frame Own)) (st : State Own)
      → Leaves n (OnFault before x c) fs st
  handler_leaves n before x c fs st = by st.flow
    where
      by : (g : Flow) → left fresh n (handled g before x c fs st) + 0 < st.steps * rate fresh n + (4 + costs fs) + stops st.flow + 1
      by On = omega arith
      by Faulted = let h = block_costs c in omega (arith, h)
      by Stopped = omega arith

  -- quiet turns leave no more; at the end of a finish there is no turn
  turn_no_more : (n : ℕ) (f : Frame Own) (fs : List (Frame Own)) (st : State Own)
      → left fresh n (turn p (rules n) f fs st) ≤ left fresh n (record { frames = f ∷ fs; state = st })
  turn_no_more n (Rest b) fs st = let h = rest_leaves n b fs st in omega (arith, h)
  turn_no_more n (Again l t b) fs st = let h = again_leaves n l t b fs st in omega (arith, h)
  turn_no_more n (Further l s k j q i b) fs st = let h = further_leaves n l s k j q i b fs st in omega (arith, h)
  turn_no_more n (AtEnd before) fs st = omega arith
  turn_no_more n (OnFault before x c) fs st = let h = handler_leaves n before x c fs st in omega (arith, h)
  turn_no_more n (Back env) fs st = omega arith

  pub quiet_no_more : (n : ℕ) {a t : Standing Own} → Quietly p needs n close a t → left fresh n t ≤ left fresh n a
  quiet_no_more n here = omega arith
  quiet_no_more n (further {f = f} {fs = fs} {st = st} little k) =
      let h = quiet_no_more n k in
      let g = turn_no_more n f fs st in
      omega (arith, h, g)

-- ---- the bounds for runs in Rust
pub total_snoc : {A : Type 0} (f : A → ℕ) (xs : List A) (x : A) → total f (xs ++ x ∷ []) ≡ total f xs + f x
total_snoc f [] x = omega arith
total_snoc f (y ∷ ys) x = let h = total_snoc f ys x in omega (arith, h)

-- a sum over frames is the sum over the frames that they represent
pub totals_same : (f : rFrame → ℕ) (g : Frame Own → ℕ) → ((top : rFrame) (t : Frame Own) → ShowsFrame top t → f top ≡ g t)
    → (gs : List rFrame) (fs : List (Frame Own)) → Stacked gs fs → total f gs ≡ total g fs
totals_same f g same gs [] e = ap (total f) e
totals_same f g same gs (t ∷ fs) (below, top, e, shows, rest) =
    let a = ap (total f) e in
    let b = total_snoc f below top in
    let c = same top t shows in
    let d = totals_same f g same below fs rest in
    omega (arith, a, b, c, d)

block_same : (b : List Stmt) → block_cost b ≡ cost (Rest (codes b))
block_same [] = refl
block_same (s ∷ rest) = refl

frame_same : (g : rFrame) (f : Frame Own) → ShowsFrame g f → cost_of g ≡ cost f
frame_same (rRest b) f e = block_same b.now ∙ ap cost (sym e)
frame_same (rAgain l t b) f e = ap cost (sym e)
frame_same (rTurns t) f e = ap cost (sym e)
frame_same (rEndFinish o) f (before, e, h) = ap cost (sym e)
frame_same (rOnFault before x b) f e = ap cost (sym e)
frame_same (rEndCall env) f e = ap cost (sym e)

pub costs_same : (gs : List rFrame) (fs : List (Frame Own)) → Stacked gs fs → costs_of gs ≡ costs fs
costs_same = totals_same cost_of cost frame_same

flow_same : (f : rFlow) → stop_cost f ≡ stops (flow f)
flow_same rOn = refl
flow_same rFaulted = refl
flow_same rStopped = refl

-- the bound of a run in Rust is the bound of its configuration
pub left_same : (r : Run) (fs : List (Frame Own)) (x : Own) → Shows r fs x
    → left_of r ≡ left r.plan.budget.steps r.thread.nest (record { frames = fs; state = with_own x (state_of r.thread) })
left_same r fs x shows =
    let a = costs_same r.frames.items fs shows.frames in let b = flow_same r.thread.flow in omega (arith, a, b)

module _ (needs : Codes → Needs) (old : Run) where
  abbrev fresh : ℕ
  fresh = old.plan.budget.steps

  abbrev n : ℕ
  n = old.thread.nest

  -- a run with this configuration and the same plan has this bound
  pub goes_left : (next : Standing Own) (new : Run) → GoesTo old next new → left_of new ≡ left fresh n next
  goes_left next new g =
      left_same new next.frames g.stands.own g.stands.shows
      ∙ ap (λ (plan : Plan). left plan.budget.steps new.thread.nest (record { frames = next.frames; state = with_own g.stands.own (state_of new.thread) })) g.plan
      ∙ ap (λ (k : ℕ). left fresh k (record { frames = next.frames; state = with_own g.stands.own (state_of new.thread) })) g.nest
      ∙ ap (λ (st : State Own). left fresh n (record { frames = next.frames; state = st })) g.stands.is

  begins_left : (actions : List Action) (c : _) → actions ≡ Spawn (start c) ∷ [] → begun_left fresh actions ≡ left_of_start fresh c.nest
  begins_left actions c e = let h = ap (begun_left fresh) e in omega (arith, h)

  by_turn : (t : Turn) (next : Standing Own) (actions : List Action) (over : Bool) (w : ℕ)
      → left fresh n next + begun_left fresh actions < w → GoesAs old next actions over t → left_after fresh t < w
  by_turn (Going r) next actions over w lt g = let h = goes_left next r g.0 in omega (arith, h, lt)
  by_turn (Spawns r c) next actions over w lt g =
      let h = goes_left next r g.0 in let k = begins_left actions c g.1.1 in omega (arith, h, k, lt)
  by_turn (EntersFinish r) next actions over w lt g = let h = goes_left next r g.0 in omega (arith, h, lt)
  by_turn (Over r) next actions over w lt g = let h = goes_left next r g.0 in omega (arith, h, lt)
  by_turn (EndsFinish q x) next actions over w lt g = absurd g
  by_turn (Ended x) next actions over w lt g = absurd g

  abbrev close : State Own → Option Settled
  close st = None

  ends_left : (t : Turn) (st : State Own) (w : ℕ) → 0 < w → EndsAs st t → left_after fresh t < w
  ends_left (Ended x) st w lt e = lt
  ends_left (Going r) st w lt e = absurd e
  ends_left (Spawns r c) st w lt e = absurd e
  ends_left (EntersFinish r) st w lt e = absurd e
  ends_left (EndsFinish q x) st w lt e = absurd e
  ends_left (Over r) st w lt e = absurd e

  waits_left : (t : Turn) (fs : List (Frame Own)) (before st : State Own) → WaitsAs old fs before st t
      → left_after fresh t < left fresh n (record { frames = AtEnd before ∷ fs; state = st })
  waits_left (EndsFinish q x) fs before st (waits, plan, nest, is) =
      let a = costs_same q.frames.items fs waits.frames in
      let b = waits.steps in
      let c = ap (λ (z : Plan). rate z.budget.steps q.nest) plan in
      let d = ap (λ (k : ℕ). rate fresh k) nest in
      let e = ap (λ (k : ℕ). q.steps * k) (c ∙ d) in
      let f = ap (λ (k : ℕ). k * rate fresh n) b in
      omega (arith, a, e, f)
  waits_left (Ended x) fs before st e = absurd e
  waits_left (Going r) fs before st e = absurd e
  waits_left (Spawns r c) fs before st e = absurd e
  waits_left (EntersFinish r) fs before st e = absurd e
  waits_left (Over r) fs before st e = absurd e

  abbrev at : List (Frame Own) → State Own → ℕ
  at fs st = left fresh n (record { frames = fs; state = st })

  turn_leaves : (t : Turn) (fs : List (Frame Own)) (st : State Own) → TurnOf needs close old fs st t → left_after fresh t < at fs st
  turn_leaves t [] st h = ends_left t st (at [] st) (omega arith) h
  turn_leaves t (AtEnd before ∷ fs) st h = waits_left t fs before st h
  turn_leaves t (Rest b ∷ fs) st h =
      by_turn t _ _ _ (at (Rest b ∷ fs) st) (rest_leaves fresh (program old.plan.program.now) needs close n b fs st) h
  turn_leaves t (Again l g b ∷ fs) st h =
      by_turn t _ _ _ (at (Again l g b ∷ fs) st) (again_leaves fresh (program old.plan.program.now) needs close n l g b fs st) h
  turn_leaves t (Further l s k j q i b ∷ fs) st h =
      by_turn t _ _ _ (at (Further l s k j q i b ∷ fs) st)
      (further_leaves fresh (program old.plan.program.now) needs close n l s k j q i b fs st) h
  turn_leaves t (OnFault before x c ∷ fs) st h =
      by_turn t _ _ _ (at (OnFault before x c ∷ fs) st)
      (handler_leaves fresh (program old.plan.program.now) needs close n before x c fs st) h
  turn_leaves t (Back env ∷ fs) st h = by_turn t _ _ _ (at (Back env ∷ fs) st) (omega arith) h

  -- a turn leaves fewer
  pub leaves_fewer : (t : Turn) (fs : List (Frame Own)) (x : Own) → Shows old fs x → IsTurn needs old t
      → left_after old.plan.budget.steps t < left_of old
  leaves_fewer t fs x shows is =
      let a = turn_leaves t fs (with_own x (state_of old.thread)) (is close fs x shows) in
      let b = left_same old fs x shows in
      omega (arith, a, b)

-- a task at its start has the bound that was reserved for it
pub begins_within : (fresh : ℕ) (s : Start) (r : Run) → r.plan.budget.steps ≡ fresh → r.thread.nest ≡ s.nest → IsAt r (begun fresh s)
    → left_of r < left_of_start fresh s.nest
begins_within fresh s r steps nest at =
    let a = left_same r (begun fresh s).frames at.own at.shows in
    let b = ap (λ (st : State Own). left r.plan.budget.steps r.thread.nest (record { frames = (begun fresh s).frames; state = st })) at.is in
    let c = ap (λ (k : ℕ). left k r.thread.nest (begun fresh s)) steps in
    let d = ap (λ (k : ℕ). left fresh k (begun fresh s)) nest in
    let e = block_costs s.body in
    omega (arith, a, b, c, d, e)

-- a task that continues after a finish has a smaller bound than at its end
pub goes_on_within : (q : Paused) (r : Run) (fs : List (Frame Own)) (before st : State Own) (x : Settled) → r.plan ≡ q.plan
    → r.thread.nest ≡ q.nest → Waits q fs before st → IsAt r (record { frames = fs; state = handed before x st })
    → left_of r < left_of_paused q
goes_on_within q r fs before st x plan nest waits at =
    let a = left_same r fs at.own at.shows in
    let b = ap (λ (to : State Own). left r.plan.budget.steps r.thread.nest (record { frames = fs; state = to })) at.is in
    let c = ap (λ (z : Plan). rate z.budget.steps r.thread.nest) plan in
    let d = ap (λ (k : ℕ). rate q.plan.budget.steps k) nest in
    let e = costs_same q.frames.items fs waits.frames in
    let f = stops_once (handed before x st).flow in
    let g = ap (λ (k : ℕ). st.steps * k) (c ∙ d) in
    let h = ap (λ (k : ℕ). k * rate q.plan.budget.steps q.nest) waits.steps in
    omega (arith, a, b, e, f, g, h)
