-- Each live task is at some point of its own run, so it always has a next action.
use Rattle.std.proofs.Common.{◌≡◌, ℕ, zero, suc, ◌+◌, List, [], ◌∷◌, ◌++◌, length, Some, refl, sym, ap, ◌∙◌}
use Rattle.std.proofs.Common.{subst, inl, inr, ⊎_elim}
use Rattle.std.proofs.lemmas.Option.{same_Some}
use Rattle.std.proofs.lemmas.List.{append-nil, length_push}
use Rattle.std.specs.Prelude.{◌⊎◌, Bool, true, false, if◌then◌else◌}
use Rattle.sections.specs.Place.{has_piece}
use Rattle.types.specs.Code.{Code, Do, If, While, Split, Parts, Begun, Call, Async, Finish, Rescue, Codes, End, Then}
use Rattle.types.specs.Code.{Program}
use Rattle.types.specs.Run.{Flow, On, Faulted, Stopped, State, window_at}
use Rattle.effects.specs.Needs.{Needs, Provides}
use Rattle.race_checker.specs.Scope.{IsScoped}
use Rattle.race_checker.specs.Calm.{IsCalm}
use Rattle.task_run.specs.Results.{TaskResult, Settled}
use Rattle.task_run.specs.Settling.{settle}
use Rattle.task_run.specs.Lists.{Each}
use Rattle.task_run.specs.OwnRun.{Start, Action, Step, Spawn, EnterFinish, EndFinish, EndTask, Own, result_of}
use Rattle.task_run.specs.OwnRun.{own_rules, last_action, next_action}
use Rattle.task_run.specs.Given.{in_truth, IsOwn}
use Rattle.task_run.specs.Frames.{Frame, Rest, Again, Further, AtEnd, OnFault, Back, Standing, turn, handed, done_by}
use Rattle.task_run.specs.Frames.{done_at, done_in, Follows}
use Rattle.task_run.specs.Holds.{MayBegin}
use Rattle.task_run.specs.Reached.{Reached, turns, leaves}
use Rattle.task_run.proofs.NextAction.{next_is_done, next_is_end, next_is_last}
use Rattle.task_run.proofs.ReachedTasks.{goes}
use Rattle.task_run.proofs.SettledResults.{each_made}
use Rattle.task_run.proofs.TaskRuns.{turns_follow, leaves_follow}
use Rattle.task_run.proofs.NeverStuck.{by_turns}
use Rattle.task_run.proofs.TurnActions.{turn_does}

-- an action that ends nothing
abbrev pub IsMove : Action → Type 0
IsMove Step = Unit {0}
IsMove (Spawn c) = Unit {0}
IsMove EnterFinish = Unit {0}
IsMove EndFinish = ⊥
IsMove EndTask = ⊥

no_move : (a : Action) (q : List ℕ) → last_action q ≡ a → IsMove a → ⊥
no_move a [] e m = subst IsMove (sym e) m
no_move a (k ∷ q) e m = subst IsMove (sym e) m

-- a turn has no action, or one action that ends nothing
pub record DoesOne (acts : List Action) : Type 0 where
  pub action : Action
  pub moves : IsMove action
  pub is : acts ≡ action ∷ []

abbrev pub DoesLittle : List Action → Type 0
DoesLittle acts = (acts ≡ []) ⊎ DoesOne acts

one_does : (a : Action) → IsMove a → DoesLittle (a ∷ [])
one_does a m = inr (record { action = a; moves = m; is = refl })

module _ (needs : Codes → Needs) where
  done_by_little : (nest steps : ℕ) (c : Code) (st : State Own) → DoesLittle (done_by needs nest steps c st)
  done_by_little nest zero c st = inl refl
  done_by_little zero (suc n) (Async b) st = inl refl
  done_by_little (suc m) (suc n) (Async b) st = one_does (Spawn _) tt
  done_by_little zero (suc n) (Finish b) st = one_does EnterFinish tt
  done_by_little zero (suc n) (Rescue b x d) st = one_does EnterFinish tt
  done_by_little zero (suc n) (Do s) st = one_does Step tt
  done_by_little zero (suc n) (If t b c) st = one_does Step tt
  done_by_little zero (suc n) (While t b) st = one_does Step tt
  done_by_little zero (suc n) (Split s e x y b) st = one_does Step tt
  done_by_little zero (suc n) (Parts s e q i b) st = one_does Step tt
  done_by_little zero (suc n) (Begun s m k q i b) st = one_does Step tt
  done_by_little zero (suc n) (Call f es ss) st = one_does Step tt
  done_by_little (suc m) (suc n) (Finish b) st = one_does EnterFinish tt
  done_by_little (suc m) (suc n) (Rescue b x d) st = one_does EnterFinish tt
  done_by_little (suc m) (suc n) (Do s) st = one_does Step tt
  done_by_little (suc m) (suc n) (If t b c) st = one_does Step tt
  done_by_little (suc m) (suc n) (While t b) st = one_does Step tt
  done_by_little (suc m) (suc n) (Split s e x y b) st = one_does Step tt
  done_by_little (suc m) (suc n) (Parts s e q i b) st = one_does Step tt
  done_by_little (suc m) (suc n) (Begun s j k q i b) st = one_does Step tt
  done_by_little (suc m) (suc n) (Call f es ss) st = one_does Step tt

  done_at_little : (nest : ℕ) (f : Flow) (c : Code) (st : State Own) → DoesLittle (done_at needs nest f c st)
  done_at_little nest On c st = done_by_little nest st.steps c st
  done_at_little nest Faulted c st = inl refl
  done_at_little nest Stopped c st = inl refl

  pub done_in_little : (nest : ℕ) (f : Frame Own) (st : State Own) → DoesLittle (done_in needs nest f st)
  done_in_little nest (Rest End) st = inl refl
  done_in_little nest (Rest (Then l s rest)) st = done_at_little nest st.flow s st
  done_in_little nest (Again l t b) st = done_at_little nest st.flow (While t b) st
  done_in_little nest (Further l s n k q i b) st = by (has_piece (window_at st s) n k)
    where
      by : (left : Bool) → DoesLittle (if left then done_at needs nest st.flow (Begun s n k q i b) st else [])
      by true = done_at_little nest st.flow (Begun s n k q i b) st
      by false = inl refl
  done_in_little nest (AtEnd before) st = inl refl
  done_in_little nest (OnFault before x b) st = inl refl
  done_in_little nest (Back env) st = inl refl

module _ (p : Program) (needs : Codes → Needs) (scoped : IsScoped p) (calm : IsCalm p) (provided : Provides p needs) (fresh : ℕ)
    (root : Start) (named : root.path ≡ []) (may_begin : MayBegin p needs root) where
  -- a task with this start is in this configuration, with these receipts and after this number of
  -- actions
  pub record Stands (s : Start) (receipts : List (List TaskResult)) (done : ℕ) (u : Standing Own) : Type 0 where
    pub reached : Reached p needs fresh root s u
    pub follows : Follows p needs fresh root s receipts u
    pub after : length u.state.extra.actions ≡ done

  -- it is about to act, or it is at the end of a finish or at its own end
  pub data Poised (s : Start) (receipts : List (List TaskResult)) (done : ℕ) : Type 0 where
    acts : (f : Frame Own) (fs : List (Frame Own)) (st : State Own) → Stands s receipts done (record { frames = f ∷ fs; state = st })
        → DoesOne (done_in needs s.nest f st) → Poised s receipts done
    ends : (before : State Own) (fs : List (Frame Own)) (st : State Own)
        → Stands s receipts done (record { frames = AtEnd before ∷ fs; state = st }) → Poised s receipts done
    over : (st : State Own) → Stands s receipts done (record { frames = []; state = st }) → Poised s receipts done

  module _ (s : Start) (receipts : List (List TaskResult)) (done : ℕ) where
    abbrev go : Frame Own → List (Frame Own) → State Own → Standing Own
    go = turn p (own_rules needs s.nest (in_truth p needs fresh))

    abbrev At : List (Frame Own) → State Own → ℕ → Type 0
    At fs st n = Stands s receipts n (record { frames = fs; state = st })

    -- a turn appends its actions
    pub turned : (f : Frame Own) (fs : List (Frame Own)) (st : State Own) (xs : List Action) → At (f ∷ fs) st done
        → done_in needs s.nest f st ≡ xs → Stands s receipts (length (st.extra.actions ++ xs)) (go f fs st)
    turned f fs st xs h e =
        let task = (goes p needs scoped calm provided fresh root named may_begin h.reached).task in
        record {
          reached = turns h.reached;
          follows = turns_follow p needs fresh root s receipts f fs st task.fine task.below h.follows;
          after = ap length (turn_does p needs s.nest (in_truth p needs fresh) f fs st ∙ ap (λ l. st.extra.actions ++ l) e);
        }

    silent : (f : Frame Own) (fs : List (Frame Own)) (st : State Own) → At (f ∷ fs) st done → done_in needs s.nest f st ≡ []
        → Stands s receipts done (go f fs st)
    silent f fs st h e =
        let k = turned f fs st [] h e in
        record { reached = k.reached; follows = k.follows; after = k.after ∙ ap length (append-nil st.extra.actions) ∙ h.after }

    -- from each configuration, turns without an action lead to an action, or to an end
    pub poise : (u : Standing Own) → Stands s receipts done u → Poised s receipts done
    poise u h =
        by_turns p needs scoped calm provided fresh root named may_begin s (Poised s receipts done) (λ fs st. At fs st done) over
        (λ before fs st h lighter. ends before fs st h)
        (λ f fs st h. ⊎_elim (λ e. inr (silent f fs st h e)) (λ one. inl (acts f fs st h one)) (done_in_little needs s.nest f st))
        u.frames u.state h

    awake : (u : Standing Own) → Stands s receipts done u → u.state.extra.waits ≡ false
    awake u h = (goes p needs scoped calm provided fresh root named may_begin h.reached).task.awake

    -- its next action
    next_acts : (f : Frame Own) (fs : List (Frame Own)) (st : State Own) → At (f ∷ fs) st done → (one : DoesOne (done_in needs s.nest f st))
        → next_action p needs fresh receipts done s ≡ Some one.action
    next_acts f fs st h one =
        let task = (goes p needs scoped calm provided fresh root named may_begin h.reached).task in
        ap (λ n. next_action p needs fresh receipts n s) (sym h.after)
        ∙ next_is_done p needs fresh root s receipts f fs st one.action task.fine task.below h.follows one.is

    next_ends : (before : State Own) (fs : List (Frame Own)) (st : State Own) → At (AtEnd before ∷ fs) st done
        → next_action p needs fresh receipts done s ≡ Some EndFinish
    next_ends before fs st h =
        ap (λ n. next_action p needs fresh receipts n s) (sym h.after)
        ∙ next_is_end p needs fresh root s receipts before fs st (awake (record { frames = AtEnd before ∷ fs; state = st }) h) h.follows

    next_over : (st : State Own) → At [] st done → next_action p needs fresh receipts done s ≡ Some (last_action st.path)
    next_over st h =
        ap (λ n. next_action p needs fresh receipts n s) (sym h.after)
        ∙ next_is_last p needs fresh root s receipts st (awake (record { frames = []; state = st }) h) h.follows

    -- it always has a next action
    pub has_next_action : Poised s receipts done → (a : Action) × (next_action p needs fresh receipts done s ≡ Some a)
    has_next_action (acts f fs st k one) = (one.action, next_acts f fs st k one)
    has_next_action (ends before fs st k) = (EndFinish, next_ends before fs st k)
    has_next_action (over st k) = (last_action st.path, next_over st k)

    -- a next action that ends nothing is done by a turn
    pub record Moves (a : Action) : Type 0 where
      pub frame : Frame Own
      pub frames : List (Frame Own)
      pub state : State Own
      pub stands : Stands s receipts done (record { frames = frame ∷ frames; state = state })
      pub does : done_in needs s.nest frame state ≡ a ∷ []

    pub moves : Poised s receipts done → (a : Action) → IsMove a → next_action p needs fresh receipts done s ≡ Some a → Moves a
    moves (acts f fs st k one) a m e =
        let same : one.action ≡ a = same_Some _ _ (sym (next_acts f fs st k one) ∙ e) in
        record { frame = f; frames = fs; state = st; stands = k; does = one.is ∙ ap (λ x. x ∷ []) same }
    moves (ends before fs st k) a m e =
        let same : EndFinish ≡ a = same_Some _ _ (sym (next_ends before fs st k) ∙ e) in absurd (subst IsMove (sym same) m)
    moves (over st k) a m e =
        let same : last_action st.path ≡ a = same_Some _ _ (sym (next_over st k) ∙ e) in absurd (no_move a st.path same m)

    -- the end of a finish is next if it is at the end of a finish, or at its own end
    pub data Closes : Type 0 where
      finishes : (before : State Own) (fs : List (Frame Own)) (st : State Own) → At (AtEnd before ∷ fs) st done → Closes
      is_over : (st : State Own) → At [] st done → Closes

    pub closes : Poised s receipts done → next_action p needs fresh receipts done s ≡ Some EndFinish → Closes
    closes (acts f fs st k one) e =
        let same : one.action ≡ EndFinish = same_Some _ _ (sym (next_acts f fs st k one) ∙ e) in absurd (subst IsMove same one.moves)
    closes (ends before fs st k) e = finishes before fs st k
    closes (over st k) e = is_over st k

    -- the end of a task is next if the task is over
    pub closed : Poised s receipts done → next_action p needs fresh receipts done s ≡ Some EndTask → (st : State Own) × At [] st done
    closed (acts f fs st k one) e =
        let same : one.action ≡ EndTask = same_Some _ _ (sym (next_acts f fs st k one) ∙ e) in absurd (subst IsMove same one.moves)
    closed (ends before fs st k) e = absurd (subst IsFinish (same_Some _ _ (sym (next_ends before fs st k) ∙ e)) tt)
      where
        IsFinish : Action → Type 0
        IsFinish EndFinish = Unit {0}
        IsFinish x = ⊥
    closed (over st k) e = (st, k)

  -- one action further
  pub moved_on : (s : Start) (receipts : List (List TaskResult)) (done : ℕ) (a : Action) (m : Moves s receipts done a)
      → Stands s receipts (done + 1) (turn p (own_rules needs s.nest (in_truth p needs fresh)) m.frame m.frames m.state)
  moved_on s receipts done a m =
      let k = turned s receipts done m.frame m.frames m.state (a ∷ []) m.stands m.does in
      record { reached = k.reached; follows = k.follows; after = k.after ∙ length_push m.state.extra.actions a ∙ ap (λ n. n + 1) m.stands.after }

  -- after a finish
  pub left : (s : Start) (receipts : List (List TaskResult)) (done : ℕ) (before : State Own) (fs : List (Frame Own)) (st : State Own)
      → Stands s receipts done (record { frames = AtEnd before ∷ fs; state = st })
      → (rs : List TaskResult) → Each (IsOwn p needs fresh root) rs → (x : Settled) → settle (result_of st) rs ≡ Some x
      → Stands s (receipts ++ rs ∷ []) (done + 1) (record { frames = fs; state = handed before x st })
  left s receipts done before fs st h rs all x e = record {
    reached = leaves rs h.reached (each_made p needs fresh root rs all) e;
    follows = leaves_follow p needs fresh root s receipts rs before fs st x
        (goes p needs scoped calm provided fresh root named may_begin h.reached).task.awake e h.follows;
    after = length_push st.extra.actions EndFinish ∙ ap (λ n. n + 1) h.after;
  }
