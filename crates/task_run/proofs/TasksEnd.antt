-- Each task that can start reaches its end by turns, so at its end it has all that it touches; and
-- the results of all tasks settle.
use Rattle.std.proofs.Common.{◌≡◌, ℕ, zero, suc, ◌+◌, ◌<◌, ◌≤◌, List, [], ◌∷◌, Option, Some, Ok, Err, refl}
use Rattle.std.proofs.Common.{subst, arith, le_refl}
use Rattle.std.specs.Prelude.{Bool, true, false, flat_map, ok_or, if◌then◌else◌}
use Rattle.sections.specs.Place.{has_piece, sides_of}
use Rattle.types.specs.declared.fault.FaultKind.TheVariants.{SplitPoint, PieceSize}
use Rattle.types.specs.Code.{Code, Do, If, While, Split, Parts, Begun, Call, Async}
use Rattle.types.specs.Code.{Finish, Rescue, Codes, End, Then, Program}
use Rattle.types.specs.Value.{Valued}
use Rattle.types.specs.Run.{Flow, On, Faulted, Stopped, State, Fault, Rules, number_at, numbers_at}
use Rattle.types.specs.Run.{truth_at, window_at, piece_size, counted}
use Rattle.effects.specs.Needs.{Needs, Provides}
use Rattle.race_checker.specs.Scope.{IsScoped}
use Rattle.race_checker.specs.Calm.{IsCalm}
use Rattle.task_run.specs.Results.{Settled, TaskResult, none_yet, complete}
use Rattle.task_run.specs.OwnRun.{Start, Child, Own, result_of, begin_own, own_rules}
use Rattle.task_run.specs.Given.{comes_to, filled, in_truth, own, given, below}
use Rattle.task_run.specs.Frames.{Frame, Rest, Again, Further, AtEnd, OnFault, Back, Standing, by_value, chosen}
use Rattle.task_run.specs.Frames.{acted, handled, paid, by_flow}
use Rattle.task_run.specs.Frames.{turn, handed, IsTask, IsGivenChild}
use Rattle.task_run.specs.Holds.{MayBegin, Carries, Holds}
use Rattle.task_run.specs.Settling.{settle, IsParted}
use Rattle.task_run.specs.Lists.{Each, Shuffled}
use Rattle.task_run.proofs.Lists.{each_append}
use Rattle.task_run.proofs.CompleteResults.{own_complete}
use Rattle.types.proofs.Counted.{counted_steps}
use Rattle.task_run.proofs.TaskRuns.{begins_task, turns_task, handed_task}
use Rattle.task_run.proofs.OnePath.{shuffled_each, shuffled_once, below_once}
use Rattle.task_run.proofs.SettledResults.{lists_true}
use Rattle.task_run.proofs.HoldingTurns.{turn_holds, handed_true, begin_holds}
use Rattle.types.proofs.Solutions.{primitive_less}

-- ---- a turn spends a step, or leaves less on the frames
abbrev pub size : Codes → ℕ
size End = 0
size (Then l s rest) = suc (size rest)

abbrev pub weight_of : Frame Own → ℕ
weight_of (Rest b) = suc (size b)
weight_of (Again l t b) = 1
weight_of (Further l s n k q i b) = 1
weight_of (AtEnd before) = 1
weight_of (OnFault before x c) = suc (suc (size c))
weight_of (Back env) = 1

abbrev pub weight : List (Frame Own) → ℕ
weight [] = 0
weight (f ∷ fs) = weight_of f + weight fs

pub data Falls (st : State Own) (w : ℕ) (t : Standing Own) : Type 0 where
  spends : t.state.steps < st.steps → Falls st w t
  sheds : t.state.steps ≤ st.steps → weight t.frames < w → Falls st w t

stand_less : {A : Type 0} (l : ℕ) (v : Valued A) (go : A → Standing Own) (fs : List (Frame Own)) (st : State Own)
    → ((x : A) → (go x).state.steps ≤ st.steps) → (by_value l v go fs st).state.steps ≤ st.steps
stand_less l (Ok x) go fs st h = h x
stand_less l (Err f) go fs st h = le_refl st.steps

chosen_less : (v : Bool) (fs gs : List (Frame Own)) (st : State Own) → (chosen v fs gs st).state.steps ≤ st.steps
chosen_less true fs gs st = le_refl st.steps
chosen_less false fs gs st = le_refl st.steps

begin_less : (needs : Codes → Needs) (n : ℕ) (b : Codes) (st : State Own) → (begin_own needs n b st).steps ≤ st.steps
begin_less needs zero b st = le_refl st.steps
begin_less needs (suc n) b st = le_refl st.steps

-- a statement whose step was taken takes no further step
module _ (p : Program) (needs : Codes → Needs) (nest : ℕ) (close : State Own → Option Settled) where
  pub acted_less : (c : Code) (l : ℕ) (fs : List (Frame Own)) (st : State Own)
      → (acted p (own_rules needs nest close) l c fs st).state.steps ≤ st.steps
  acted_less (Do c) l fs st = primitive_less p l c st
  acted_less (If t b c) l fs st =
      stand_less l (truth_at st t) _ fs st (λ v. chosen_less v (Rest b ∷ fs) (Rest c ∷ fs) st)
  acted_less (While t b) l fs st =
      stand_less l (truth_at st t) _ fs st (λ v. chosen_less v (Rest b ∷ Again l t b ∷ fs) fs st)
  acted_less (Split z e x y b) l fs st =
      stand_less l (number_at st e) _ fs st
      (λ v. stand_less l (ok_or (sides_of (window_at st z) v) SplitPoint) _ fs st (λ ws. le_refl st.steps))
  acted_less (Parts z e q i b) l fs st =
      stand_less l (number_at st e) _ fs st
      (λ v. stand_less l (ok_or (piece_size v) PieceSize) _ fs st (λ n. le_refl st.steps))
  acted_less (Begun z n k q i b) l fs st = le_refl st.steps
  acted_less (Call f es ss) l fs st = stand_less l (numbers_at st es) _ fs st (λ vs. le_refl st.steps)
  acted_less (Async b) l fs st = begin_less needs nest b st
  acted_less (Finish b) l fs st = le_refl st.steps
  acted_less (Rescue b x c) l fs st = le_refl st.steps

module _ (p : Program) (needs : Codes → Needs) (scoped : IsScoped p) (calm : IsCalm p) (provided : Provides p needs) (fresh : ℕ)
    (root : Start) where
  module _ (s : Start) where
    abbrev r : Rules Own
    r = own_rules needs s.nest (in_truth p needs fresh)

    paid_falls : (n l : ℕ) (c : Code) (fs : List (Frame Own)) (st : State Own) (w : ℕ) → n ≡ st.steps → weight fs < w
        → Falls st w (paid p r n l c fs st)
    paid_falls zero l c fs st w e lt = sheds (le_refl st.steps) lt
    paid_falls (suc n) l c fs st w e lt =
        let mid = counted r l c (record st { steps = n }) in
        let i = acted_less p needs s.nest (in_truth p needs fresh) c l fs mid in
        let j = counted_steps r l (record st { steps = n }) c in
        spends (omega (arith, e, i, j))

    pub flow_falls : (g : Flow) (l : ℕ) (c : Code) (fs below : List (Frame Own)) (st : State Own) (w : ℕ) → weight fs < w → weight below < w
        → Falls st w (by_flow p r g l c fs below st)
    flow_falls On l c fs below st w lt k = paid_falls st.steps l c fs st w refl lt
    flow_falls Faulted l c fs below st w lt k = sheds (le_refl st.steps) k
    flow_falls Stopped l c fs below st w lt k = sheds (le_refl st.steps) k

    -- a turn of a `parts`, or its end
    pub turn_falls : (l z n k q i : ℕ) (b : Codes) (fs : List (Frame Own)) (st : State Own) (w : ℕ) → weight fs < w
        → Falls st w (turn p r (Further l z n k q i b) fs st)
    turn_falls l z n k q i b fs st w lt = by (has_piece (window_at st z) n k)
      where
        c : Code
        c = Begun z n k q i b

        by : (left : Bool) → Falls st w (if◌then◌else◌ {A = Standing Own} left (by_flow p r st.flow l c fs fs st) (record { frames = fs; state = st }))
        by true = flow_falls st.flow l c fs fs st w lt lt
        by false = sheds (le_refl st.steps) lt

    -- behind a finish that has a handler
    pub handler_falls : (g : Flow) (before : List Fault) (x : ℕ) (c : Codes) (fs : List (Frame Own)) (st : State Own) (w : ℕ)
        → suc (size c) + weight fs < w → Falls st w (handled g before x c fs st)
    handler_falls On before x c fs st w lt = sheds (le_refl st.steps) (omega (arith, lt))
    handler_falls Faulted before x c fs st w lt = sheds (le_refl st.steps) lt
    handler_falls Stopped before x c fs st w lt = sheds (le_refl st.steps) (omega (arith, lt))

    -- ---- up to the end
    abbrev Ended : Type 0
    Ended = Holds p needs (record { frames = []; state = own p needs fresh s })

    abbrev EndsBelow : ℕ → Type 0
    EndsBelow n = (fs : List (Frame Own)) (st : State Own) → st.steps < n → IsTask p needs fresh root s (record { frames = fs; state = st })
        → Holds p needs (record { frames = fs; state = st }) → Ended

    abbrev EndsWithin : (n w : ℕ) → Type 0
    EndsWithin n w = (fs : List (Frame Own)) (st : State Own) → st.steps ≤ n → weight fs < w
        → IsTask p needs fresh root s (record { frames = fs; state = st })
        → Holds p needs (record { frames = fs; state = st }) → Ended

    after_turn : (n w : ℕ) → EndsBelow n → EndsWithin n w → (f : Frame Own) (fs : List (Frame Own)) (st : State Own) → st.steps ≤ n
        → IsTask p needs fresh root s (record { frames = f ∷ fs; state = st }) → Holds p needs (record { frames = f ∷ fs; state = st })
        → Falls st w (turn p r f fs st) → Ended
    after_turn n w deeper lighter f fs st le task holds (spends lt) =
        deeper (turn p r f fs st).frames (turn p r f fs st).state (omega (arith, lt, le)) (turns_task p needs fresh root s f fs st task)
        (turn_holds p needs scoped calm provided s.nest (in_truth p needs fresh) f fs st holds)
    after_turn n w deeper lighter f fs st le task holds (sheds k lt) =
        lighter (turn p r f fs st).frames (turn p r f fs st).state (omega (arith, k, le)) lt (turns_task p needs fresh root s f fs st task)
        (turn_holds p needs scoped calm provided s.nest (in_truth p needs fresh) f fs st holds)

    within : (n w : ℕ) → EndsBelow n → EndsWithin n w
    within n zero deeper fs st le lt task holds = absurd (omega (arith, lt))
    within n (suc w) deeper [] st le lt task holds = subst (λ st. Holds p needs (record { frames = []; state = st })) task.runs holds
    within n (suc w) deeper (Rest End ∷ fs) st le lt task holds =
        after_turn n w deeper (within n w deeper) (Rest End) fs st le task holds (sheds (le_refl st.steps) (omega (arith, lt)))
    within n (suc w) deeper (Rest (Then l c rest) ∷ fs) st le lt task holds =
        after_turn n w deeper (within n w deeper) (Rest (Then l c rest)) fs st le task holds
        (flow_falls st.flow l c (Rest rest ∷ fs) fs st w (omega (arith, lt)) (omega (arith, lt)))
    within n (suc w) deeper (Again l t b ∷ fs) st le lt task holds =
        after_turn n w deeper (within n w deeper) (Again l t b) fs st le task holds
        (flow_falls st.flow l (While t b) fs fs st w (omega (arith, lt)) (omega (arith, lt)))
    within n (suc w) deeper (Further l z j k q i b ∷ fs) st le lt task holds =
        after_turn n w deeper (within n w deeper) (Further l z j k q i b) fs st le task holds
        (turn_falls l z j k q i b fs st w (omega (arith, lt)))
    within n (suc w) deeper (OnFault before x c ∷ fs) st le lt task holds =
        after_turn n w deeper (within n w deeper) (OnFault before x c) fs st le task holds
        (handler_falls st.flow before x c fs st w (omega (arith, lt)))
    within n (suc w) deeper (Back env ∷ fs) st le lt task holds =
        after_turn n w deeper (within n w deeper) (Back env) fs st le task holds (sheds (le_refl st.steps) (omega (arith, lt)))
    within n (suc w) deeper (AtEnd before ∷ fs) st le lt task holds =
        let x = complete (result_of st) (filled p needs fresh st.extra.pending none_yet) in
        within n w deeper fs (handed before x st) le (omega (arith, lt)) (handed_task p needs fresh root s before fs st task x refl)
        (handed_true p needs scoped calm provided fresh before fs st holds x refl)

    ends : (n : ℕ) → EndsBelow n
    ends zero fs st lt task holds = absurd (omega (arith, lt))
    ends (suc n) fs st lt task holds = within n (suc (weight fs)) (ends n) fs st (omega (arith, lt)) (omega arith) task holds

    -- a task that can start has at its end all that it touches
    pub own_ends : given p needs fresh root s.path ≡ Some s → MayBegin p needs s → Ended
    own_ends is may =
        ends (suc fresh) _ _ (omega arith) (begins_task p needs fresh root s is) (begin_holds p needs scoped calm provided fresh s may)

  -- ---- the results of all tasks below one
  pub each_below : (P : TaskResult → Type 0) (results : Child → List TaskResult) (cs : List Child)
      → Each (IsGivenChild p needs fresh root) cs
      → Each (Carries p needs) cs
      → ((c : Child) → IsGivenChild p needs fresh root c → Carries p needs c → Each P (results c)) → Each P (flat_map results cs)
  each_below P results [] h k f = tt
  each_below P results (c ∷ cs) h k f = each_append P (results c) (flat_map results cs) (f c h.0 k.0) (each_below P results cs h.1 k.1 f)

  pub below_parted : (n : ℕ) (s : Start) → given p needs fresh root s.path ≡ Some s → MayBegin p needs s
      → Each IsParted (below p needs fresh n s)
  below_parted zero s is may = tt
  below_parted (suc n) s is may =
      each_below IsParted (λ c. result_of (own p needs fresh c.start) ∷ below p needs fresh n c.start) (own p needs fresh s).extra.pending
      (lists_true p needs fresh root s is) (own_ends s is may).carried
      (λ c t k. ((own_ends c.start t.is k.begins).parted, below_parted n c.start t.is k.begins))

  -- they settle in any order
  pub all_settle : (s : Start) → given p needs fresh root s.path ≡ Some s → MayBegin p needs s → (rs : List TaskResult)
      → Shuffled (below p needs fresh s.nest s) rs → settle (result_of (own p needs fresh s)) rs ≡ Some (comes_to p needs fresh s)
  all_settle s is may rs all =
      own_complete p needs fresh root s is rs all (shuffled_once all (below_once p needs fresh s.nest s)) (own_ends s is may).parted
      (shuffled_each IsParted all (below_parted s.nest s is may))
