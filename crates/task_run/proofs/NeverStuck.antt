-- No finish is stuck: in each reachable configuration at the end of a finish, results of own runs
-- settle.
use Rattle.std.proofs.Common.{◌≡◌, ℕ, zero, suc, ◌+◌, ◌<◌, ◌≤◌, List, [], ◌∷◌, length, Some, Ok, Err, refl, sym, ap}
use Rattle.std.proofs.Common.{◌∙◌, subst, arith, inl, inr, le_refl}
use Rattle.std.proofs.lemmas.List.{append-nil}
use Rattle.std.specs.Prelude.{◌⊎◌, Bool, true, false, map, flat_map, ok_or, if◌then◌else◌}
use Rattle.sections.specs.Place.{has_piece, sides_of}
use Rattle.types.specs.declared.fault.FaultKind.TheVariants.{SplitPoint, PieceSize}
use Rattle.types.specs.Code.{Code, Do, If, While, Split, Parts, Begun, Call, Async, Finish, Rescue, Codes, End, Then}
use Rattle.types.specs.Code.{Program}
use Rattle.types.specs.Value.{Valued}
use Rattle.types.specs.Run.{Flow, On, Faulted, Stopped, State, Rules, number_at, numbers_at, truth_at, window_at}
use Rattle.types.specs.Run.{piece_size, counted}
use Rattle.types.proofs.Keeps.{primitive_keeps, counted_keeps}
use Rattle.effects.specs.Needs.{Needs, Provides}
use Rattle.race_checker.specs.Scope.{IsScoped}
use Rattle.race_checker.specs.Calm.{IsCalm}
use Rattle.task_run.specs.Results.{TaskResult, Settled, none_yet, complete, and_then}
use Rattle.task_run.specs.OwnRun.{Start, Child, Own, result_of, own_rules}
use Rattle.task_run.specs.Given.{filled, in_truth, own, given, below, IsOfOwnRun}
use Rattle.task_run.specs.Frames.{Frame, Rest, Again, Further, AtEnd, OnFault, Back, Standing, by_value, chosen}
use Rattle.task_run.specs.Frames.{handled}
use Rattle.task_run.specs.Frames.{acted, paid, by_flow}
use Rattle.task_run.specs.Frames.{turn, handed, IsBegun, HasBegun, IsTask, IsGivenChild}
use Rattle.task_run.specs.Holds.{MayBegin, Holds}
use Rattle.task_run.specs.Reached.{Reached, root_begins, child_begins, turns, leaves, CanSettle, CanEnd}
use Rattle.task_run.specs.Settling.{fill_all, settle_within, none_left, settle, IsParted}
use Rattle.task_run.specs.Lists.{Each, Shuffled, none, one, here}
use Rattle.task_run.proofs.Lists.{each_more, each_append}
use Rattle.task_run.specs.Settling.{NoTwice}
use Rattle.task_run.proofs.CompleteResults.{Stands, fill_complete, settle_complete, none_in}
use Rattle.task_run.proofs.TaskRuns.{lists_given, made_if_given}
use Rattle.task_run.proofs.OnePath.{Once, Names, names, From, own_path, all_once, below_once, shuffled_each}
use Rattle.task_run.proofs.SettledResults.{lists_true}
use Rattle.task_run.proofs.TasksEnd.{own_ends, each_below, below_parted, weight, Falls, spends, sheds, flow_falls}
use Rattle.task_run.proofs.TasksEnd.{handler_falls, turn_falls}
use Rattle.task_run.proofs.ReachedTasks.{goes}

-- ---- children have different paths, here and at each finish around
abbrev pub OnceBelow : List (Frame Own) → Type 0
OnceBelow [] = Unit {0}
OnceBelow (Rest b ∷ fs) = OnceBelow fs
OnceBelow (Again l t b ∷ fs) = OnceBelow fs
OnceBelow (Further l s n k q i b ∷ fs) = OnceBelow fs
OnceBelow (AtEnd before ∷ fs) = Once before.extra.pending × OnceBelow fs
OnceBelow (OnFault before x c ∷ fs) = OnceBelow fs
OnceBelow (Back env ∷ fs) = OnceBelow fs

pub record Distinct (t : Standing Own) : Type 0 where
  pub ours : Once t.state.extra.pending
  pub around : OnceBelow t.frames

both : {fs : List (Frame Own)} {st : State Own} → Once st.extra.pending → OnceBelow fs → Distinct (record { frames = fs; state = st })
both o b = record { ours = o; around = b }

value_distinct : {A : Type 0} (l : ℕ) (v : Valued A) (go : A → Standing Own) (fs : List (Frame Own)) (st : State Own)
    → Once st.extra.pending → OnceBelow fs
    → ((x : A) → Distinct (go x)) → Distinct (by_value l v go fs st)
value_distinct l (Ok x) go fs st o b h = h x
value_distinct l (Err f) go fs st o b h = both o b

chosen_distinct : (v : Bool) (fs gs : List (Frame Own)) (st : State Own) → Once st.extra.pending → OnceBelow fs → OnceBelow gs
    → Distinct (chosen v fs gs st)
chosen_distinct true fs gs st o b c = both o b
chosen_distinct false fs gs st o b c = both o c

shuffled_same : {A : Type 0} (xs : List A) → Shuffled xs xs
shuffled_same [] = none
shuffled_same (x ∷ xs) = one here (shuffled_same xs)

module _ (p : Program) (needs : Codes → Needs) (fresh : ℕ) where
  -- the results of tasks that are pending, and of all below them
  abbrev pub pending_results : (nest : ℕ) → List Child → List TaskResult
  pending_results zero cs = []
  pending_results (suc n) cs = flat_map (λ c. result_of (own p needs fresh c.start) ∷ below p needs fresh n c.start) cs

  module _ (nest : ℕ) where
    abbrev r : Rules Own
    r = own_rules needs nest (in_truth p needs fresh)

    abbrev N : State Own → State Own → Type 0
    N = Names nest needs (in_truth p needs fresh)

    acted_distinct : (c : Code) (l : ℕ) (fs : List (Frame Own)) (st : State Own) → HasBegun nest st → Once st.extra.pending → OnceBelow fs
        → Distinct (acted p r l c fs st)
    acted_distinct (Do c) l fs st f o b = both ((primitive_keeps p r N (names nest needs (in_truth p needs fresh)) l c st).once f o) b
    acted_distinct (If t c d) l fs st f o b =
        value_distinct l (truth_at st t) _ fs st o b (λ v. chosen_distinct v (Rest c ∷ fs) (Rest d ∷ fs) st o b b)
    acted_distinct (While t c) l fs st f o b =
        value_distinct l (truth_at st t) _ fs st o b (λ v. chosen_distinct v (Rest c ∷ Again l t c ∷ fs) fs st o b b)
    acted_distinct (Split z e x y c) l fs st f o b =
        value_distinct l (number_at st e) _ fs st o b
        (λ v. value_distinct l (ok_or (sides_of (window_at st z) v) SplitPoint) _ fs st o b (λ ws. both o b))
    acted_distinct (Parts z e q i c) l fs st f o b =
        value_distinct l (number_at st e) _ fs st o b
        (λ v. value_distinct l (ok_or (piece_size v) PieceSize) _ fs st o b (λ n. both o b))
    acted_distinct (Begun z n k q i c) l fs st f o b = both o b
    acted_distinct (Call g es ss) l fs st f o b = value_distinct l (numbers_at st es) _ fs st o b (λ vs. both o b)
    acted_distinct (Async c) l fs st f o b = both (((names nest needs (in_truth p needs fresh)).begin l c st).once f o) b
    acted_distinct (Finish c) l fs st f o b = both tt (o, b)
    acted_distinct (Rescue c x d) l fs st f o b = both tt (o, b)

    paid_distinct : (n l : ℕ) (c : Code) (fs : List (Frame Own)) (st : State Own) → HasBegun nest st → Once st.extra.pending → OnceBelow fs
        → Distinct (paid p r n l c fs st)
    paid_distinct zero l c fs st f o b = both o b
    paid_distinct (suc n) l c fs st f o b =
        let once = record st { steps = n } in
        let i = (names nest needs (in_truth p needs fresh)).idle st once refl refl refl (λ q h. h) in
        let k = counted_keeps p r N (names nest needs (in_truth p needs fresh)) l c once in
        acted_distinct c l fs (counted r l c once) (k.tells.fine (i.tells.fine f)) (k.once (i.tells.fine f) (i.once f o)) b

    flow_distinct : (g : Flow) (l : ℕ) (c : Code) (fs below : List (Frame Own)) (st : State Own) → HasBegun nest st → Once st.extra.pending
        → OnceBelow fs → OnceBelow below
        → Distinct (by_flow p r g l c fs below st)
    flow_distinct On l c fs below st f o b d = paid_distinct st.steps l c fs st f o b
    flow_distinct Faulted l c fs below st f o b d = both o d
    flow_distinct Stopped l c fs below st f o b d = both o d

    turn_distinct : (g : Frame Own) (fs : List (Frame Own)) (st : State Own) → HasBegun nest st
        → Distinct (record { frames = g ∷ fs; state = st }) → Distinct (turn p r g fs st)
    turn_distinct (Rest End) fs st f d = both d.ours d.around
    turn_distinct (Rest (Then l c rest)) fs st f d = flow_distinct st.flow l c (Rest rest ∷ fs) fs st f d.ours d.around d.around
    turn_distinct (Again l t c) fs st f d = flow_distinct st.flow l (While t c) fs fs st f d.ours d.around d.around
    turn_distinct (Further l z n k q i c) fs st f d = by (has_piece (window_at st z) n k)
      where
        by : (left : Bool)
            → Distinct (if◌then◌else◌ {A = Standing Own} left (by_flow p r st.flow l (Begun z n k q i c) fs fs st) (record { frames = fs; state = st }))
        by true = flow_distinct st.flow l (Begun z n k q i c) fs fs st f d.ours d.around d.around
        by false = both d.ours d.around
    turn_distinct (AtEnd before) fs st f d = d
    turn_distinct (OnFault before x c) fs st f d = by st.flow
      where
        by : (g : Flow) → Distinct (handled g before x c fs st)
        by On = both d.ours d.around
        by Faulted = both d.ours d.around
        by Stopped = both d.ours d.around
    turn_distinct (Back env) fs st f d = both d.ours d.around

  -- ---- results are own
  module _ (root : Start) where
    own_is_own : (s : Start) → given p needs fresh root s.path ≡ Some s → IsOfOwnRun p needs fresh root (result_of (own p needs fresh s))
    own_is_own s is = record { start = s; of_path = ap (given p needs fresh root) (own_path p needs fresh s) ∙ is; is = refl }

    each_own : (results : Child → List TaskResult) (cs : List Child) → Each (IsGivenChild p needs fresh root) cs
        → ((c : Child) → IsGivenChild p needs fresh root c → Each (IsOfOwnRun p needs fresh root) (results c))
        → Each (IsOfOwnRun p needs fresh root) (flat_map results cs)
    each_own results [] h f = tt
    each_own results (c ∷ cs) h f =
        each_append (IsOfOwnRun p needs fresh root) (results c) (flat_map results cs) (f c h.0) (each_own results cs h.1 f)

    pub below_own : (n : ℕ) (s : Start) → given p needs fresh root s.path ≡ Some s
        → Each (IsOfOwnRun p needs fresh root) (below p needs fresh n s)
    below_own zero s is = tt
    below_own (suc n) s is =
        each_own (λ c. result_of (own p needs fresh c.start) ∷ below p needs fresh n c.start) (own p needs fresh s).extra.pending
        (lists_true p needs fresh root s is)
        (λ c t. (own_is_own c.start t.is, below_own n c.start t.is))

    pub pending_own : (n : ℕ) (cs : List Child) → Each (IsGivenChild p needs fresh root) cs
        → Each (IsOfOwnRun p needs fresh root) (pending_results n cs)
    pending_own zero cs h = tt
    pending_own (suc n) cs h =
        each_own (λ c. result_of (own p needs fresh c.start) ∷ below p needs fresh n c.start) cs h
        (λ c t. (own_is_own c.start t.is, below_own n c.start t.is))

module _ (p : Program) (needs : Codes → Needs) (scoped : IsScoped p) (calm : IsCalm p) (provided : Provides p needs) (fresh : ℕ) where
  module _ (root : Start) (named : root.path ≡ []) (may_begin : MayBegin p needs root) where
    pub distinct : {s : Start} {t : Standing Own} → Reached p needs fresh root s t → Distinct t
    distinct root_begins = both tt tt
    distinct (child_begins r m) = both tt tt
    distinct (turns {s = s} {f = f} {fs = fs} {st = st} r) =
        turn_distinct p needs fresh s.nest f fs st (goes p needs scoped calm provided fresh root named may_begin r).task.fine (distinct r)
    distinct (leaves rs r all e) = let d = distinct r in both d.around.0 d.around.1

    settled_by : (st : State Own) (rs rest : List TaskResult) (x : Settled) → rest ≡ []
        → fill_all (settle_within (length rs)) st.extra.owned (map (λ c. c.listed) st.extra.pending) none_yet rs ≡ Some (x, rest)
        → settle (result_of st) rs ≡ Some (complete (result_of st) x)
    settled_by st rs rest x nil e =
        ap (λ k. and_then (settle_within k (result_of st) rs) none_left) (let i : length rs + 1 ≡ suc (length rs) = omega arith in i)
        ∙ ap (λ o. and_then (and_then o (λ all. Some (complete (result_of st) all.0, all.1))) none_left) e
        ∙ ap (λ rest. none_left (complete (result_of st) x, rest)) nil

    -- if the results of all that is pending are there, each once and in any order, they settle
    pub settles_any : (n : ℕ) (s : Start) (fs : List (Frame Own)) (st : State Own) → s.nest ≡ n
        → IsTask p needs fresh root s (record { frames = fs; state = st })
        → Holds p needs (record { frames = fs; state = st }) → (rs : List TaskResult)
        → Shuffled (pending_results p needs fresh n st.extra.pending) rs → NoTwice rs
        → (x : Settled) × (settle (result_of st) rs ≡ Some x)
    settles_any zero s fs st e task holds rs order once =
        let none = none_in order in (
          complete (result_of st) none_yet,
          ap (settle (result_of st)) none ∙ settled_by st [] [] none_yet refl (none_filled st.extra.pending task.fine.begun),
        )
      where
        none_filled : (cs : List Child) → Each (IsBegun s.nest st) cs
            → fill_all (settle_within 0) st.extra.owned (map (λ c. c.listed) cs) none_yet [] ≡ Some (none_yet, [])
        none_filled [] h = refl
        none_filled (c ∷ cs) h = absurd (let d = h.0.deeper in omega (arith, d, e))
    settles_any (suc n) s fs st e task holds rs order once =
        let given_all = lists_given p needs fresh root s fs st task in
        let results = λ (c : Child). result_of (own p needs fresh c.start) ∷ below p needs fresh n c.start in
        let f = fill_complete p needs fresh root (length rs) n
        (settle_complete p needs fresh root (length rs) n) st.extra.owned st.extra.pending none_yet [] rs
        (stand st.extra.pending given_all task.fine.begun)
        (subst (λ l. Shuffled l rs) (sym (append-nil (flat_map results st.extra.pending))) order) once
        holds.parted
        (shuffled_each IsParted order
        (each_below p needs scoped calm provided fresh root IsParted results st.extra.pending given_all holds.carried
        (λ c t k. (
          (own_ends p needs scoped calm provided fresh root c.start t.is k.begins).parted,
          below_parted p needs scoped calm provided fresh root n c.start t.is k.begins,
        ))))
        (le_refl (length rs)) in (
          complete (result_of st) (filled p needs fresh st.extra.pending none_yet),
          settled_by st rs f.rest (filled p needs fresh st.extra.pending none_yet) (none_in f.left) f.is,
        )
      where
        stand : (cs : List Child) → Each (IsGivenChild p needs fresh root) cs → Each (IsBegun s.nest st) cs
            → Each (Stands p needs fresh root n) cs
        stand [] h k = tt
        stand (c ∷ cs) h k = (record { is = h.0; nest = let d = k.0.deeper in omega (arith, d, e) }, stand cs h.1 k.1)

    leaves_at : (n : ℕ) (s : Start) (fs : List (Frame Own)) (st : State Own) → s.nest ≡ n
        → IsTask p needs fresh root s (record { frames = fs; state = st })
        → Holds p needs (record { frames = fs; state = st }) → Once st.extra.pending → CanSettle p needs fresh root st
    leaves_at zero s fs st e task holds o =
        let k = settles_any zero s fs st e task holds [] none tt in
        record { results = []; owns = tt; comes = k.0; settles = k.1 }
    leaves_at (suc n) s fs st e task holds o =
        let results = λ (c : Child). result_of (own p needs fresh c.start) ∷ below p needs fresh n c.start in
        let rs = flat_map results st.extra.pending in
        let k = settles_any (suc n) s fs st e task holds rs (shuffled_same rs)
        (all_once p needs fresh n st.path st.extra.pending
        (each_more (IsBegun s.nest st) (From p needs fresh st.path) st.extra.pending
        (λ c h. record { number = h.number; path = h.path }) task.fine.begun) o (below_once p needs fresh n)) in
        record {
          results = rs;
          owns = pending_own p needs fresh root (suc n) st.extra.pending (lists_given p needs fresh root s fs st task);
          comes = k.0;
          settles = k.1;
        }

    -- in each configuration at the end of a finish, the finish can be left
    pub can_leave : (s : Start) (t : Standing Own) → Reached p needs fresh root s t → CanSettle p needs fresh root t.state
    can_leave s t r =
        let k = goes p needs scoped calm provided fresh root named may_begin r in
        leaves_at s.nest s t.frames t.state refl k.task k.holds (distinct r).ours

    -- ---- up to the end
    -- A fact follows if it follows when no turn is possible, at the end of a finish, and from the
    -- configuration after a turn.
    module _ (s : Start) (Goal : Type 0) (At : List (Frame Own) → State Own → Type 0) (over : (st : State Own) → At [] st → Goal)
        (at_end : (before : State Own) (fs : List (Frame Own)) (st : State Own) → At (AtEnd before ∷ fs) st
        → ((to : State Own) → to.steps ≤ st.steps → At fs to → Goal) → Goal)
        (goes_on : (f : Frame Own) (fs : List (Frame Own)) (st : State Own) → At (f ∷ fs) st
        → Goal ⊎ At (turn p (own_rules needs s.nest (in_truth p needs fresh)) f fs st).frames
        (turn p (own_rules needs s.nest (in_truth p needs fresh)) f fs st).state) where
      abbrev EndsBelow : ℕ → Type 0
      EndsBelow n = (fs : List (Frame Own)) (st : State Own) → st.steps < n → At fs st → Goal

      abbrev EndsWithin : (n w : ℕ) → Type 0
      EndsWithin n w = (fs : List (Frame Own)) (st : State Own) → st.steps ≤ n → weight fs < w → At fs st → Goal

      abbrev next : Frame Own → List (Frame Own) → State Own → Standing Own
      next = turn p (own_rules needs s.nest (in_truth p needs fresh))

      after_turn : (n w : ℕ) → EndsBelow n → EndsWithin n w → (f : Frame Own) (fs : List (Frame Own)) (st : State Own) → st.steps ≤ n
          → At (f ∷ fs) st → Falls st w (next f fs st) → Goal
      after_turn n w deeper lighter f fs st le a falls = by_turn (goes_on f fs st a) falls
        where
          by_turn : Goal ⊎ At (next f fs st).frames (next f fs st).state → Falls st w (next f fs st) → Goal
          by_turn (inl goal) falls = goal
          by_turn (inr at) (spends lt) = deeper (next f fs st).frames (next f fs st).state (omega (arith, lt, le)) at
          by_turn (inr at) (sheds k lt) = lighter (next f fs st).frames (next f fs st).state (omega (arith, k, le)) lt at

      falls : (g : Flow) (l : ℕ) (c : Code) (fs below : List (Frame Own)) (st : State Own) (w : ℕ) → weight fs < w → weight below < w
          → Falls st w (by_flow p (own_rules needs s.nest (in_truth p needs fresh)) g l c fs below st)
      falls = flow_falls p needs scoped calm provided fresh root s

      within : (n w : ℕ) → EndsBelow n → EndsWithin n w
      within n zero deeper fs st le lt a = absurd (omega (arith, lt))
      within n (suc w) deeper [] st le lt a = over st a
      within n (suc w) deeper (Rest End ∷ fs) st le lt a =
          after_turn n w deeper (within n w deeper) (Rest End) fs st le a (sheds (le_refl st.steps) (omega (arith, lt)))
      within n (suc w) deeper (Rest (Then l c rest) ∷ fs) st le lt a =
          after_turn n w deeper (within n w deeper) (Rest (Then l c rest)) fs st le a
          (falls st.flow l c (Rest rest ∷ fs) fs st w (omega (arith, lt)) (omega (arith, lt)))
      within n (suc w) deeper (Again l t b ∷ fs) st le lt a =
          after_turn n w deeper (within n w deeper) (Again l t b) fs st le a
          (falls st.flow l (While t b) fs fs st w (omega (arith, lt)) (omega (arith, lt)))
      within n (suc w) deeper (Further l z j k q i b ∷ fs) st le lt a =
          after_turn n w deeper (within n w deeper) (Further l z j k q i b) fs st le a
          (turn_falls p needs scoped calm provided fresh root s l z j k q i b fs st w (omega (arith, lt)))
      within n (suc w) deeper (OnFault before x c ∷ fs) st le lt a =
          after_turn n w deeper (within n w deeper) (OnFault before x c) fs st le a
          (handler_falls p needs scoped calm provided fresh root s st.flow before x c fs st w (omega (arith, lt)))
      within n (suc w) deeper (Back env ∷ fs) st le lt a =
          after_turn n w deeper (within n w deeper) (Back env) fs st le a (sheds (le_refl st.steps) (omega (arith, lt)))
      within n (suc w) deeper (AtEnd before ∷ fs) st le lt a =
          at_end before fs st a (λ to few at. within n w deeper fs to (omega (arith, few, le)) (omega (arith, lt)) at)

      ends : (n : ℕ) → EndsBelow n
      ends zero fs st lt a = absurd (omega (arith, lt))
      ends (suc n) fs st lt a = within n (suc (weight fs)) (ends n) fs st (omega (arith, lt)) (omega arith) a

      pub by_turns : (fs : List (Frame Own)) (st : State Own) → At fs st → Goal
      by_turns fs st a = ends (suc st.steps) fs st (omega arith) a

    -- each reachable task can reach its end
    pub can_end : (s : Start) (t : Standing Own) → Reached p needs fresh root s t → CanEnd p needs fresh root s
    can_end s t r =
        by_turns s (CanEnd p needs fresh root s) (λ fs st. Reached p needs fresh root s (record { frames = fs; state = st }))
        (λ st r. record { state = st; ended = r })
        (λ before fs st r lighter.
        let k = can_leave s (record { frames = AtEnd before ∷ fs; state = st }) r in
        lighter (handed before k.comes st) (le_refl st.steps)
        (leaves k.results r (made_if_given p needs fresh root k.results k.owns) k.settles))
        (λ f fs st r. inr (turns r)) t.frames t.state r
