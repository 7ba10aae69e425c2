-- A task is stopped by its budget, or by a stopped task that its finish gathers, and by nothing
-- else.
use Rattle.std.proofs.lemmas.Option.{none-some, same_Some}
use Rattle.std.proofs.Common.{◌≡◌, ℕ, zero, suc, ◌+◌, List, [], ◌∷◌, length, Option, Some, None, Ok, Err, refl, sym}
use Rattle.std.proofs.Common.{ap, ◌∙◌, subst}
use Rattle.std.specs.Prelude.{Bool, true, false, nat_eq, ◌&&◌, ◌||◌, ok_or, if◌then◌else◌}
use Rattle.std.proofs.Math.Bool.{or-false, or_assoc}
use Rattle.shared_lemmas.proofs.Truths.{or_swap}
use Rattle.sections.specs.Covers.{has}
use Rattle.sections.specs.Place.{Place, has_piece, sides_of}
use Rattle.types.specs.declared.fault.FaultKind.TheVariants.{SplitPoint, PieceSize}
use Rattle.types.specs.Code.{Primitive, Skip, Assign, Store, Print, Raise, Code, Do, If, While, Split, Parts, Begun, Call}
use Rattle.types.specs.Code.{Async, Finish, Rescue, Codes, End, Then, Program}
use Rattle.types.specs.Value.{Valued, element_of, holds_number}
use Rattle.types.specs.Run.{Flow, On, Faulted, Stopped, Fault, State, Rules, with_value, put, print, assign}
use Rattle.types.specs.Run.{primitive, piece_size, number_at, numbers_at, truth_at, window_at, array_of}
use Rattle.types.specs.Meaning.{after_finish}
use Rattle.effects.specs.Needs.{Needs}
use Rattle.task_run.specs.Places.{Places, meets}
use Rattle.task_run.specs.Apart.{is_stopped}
use Rattle.task_run.specs.Results.{Listed, TaskResult, Settled, none_yet, fill, complete}
use Rattle.task_run.specs.OwnRun.{Own, own_rules, begin_own, result_of}
use Rattle.task_run.specs.Frames.{Frame, Rest, Again, Further, AtEnd, OnFault, Back, Standing, by_value, chosen, paid}
use Rattle.task_run.specs.Frames.{by_flow, turn, handed, handled}
use Rattle.task_run.specs.Stops.{is_none, is_over, is_next_over, stops, some_stopped}
use Rattle.std.specs.Cmp.Lexicographic.{pointwise}
use Rattle.task_run.specs.Settling.{behind, take, fill_all, settle_within, none_left, settle}
use Rattle.task_run.proofs.SettledResults.{unless_none, gives}

-- ---- a turn
module _ (p : Program) (needs : Codes → Needs) (nest : ℕ) (close : State Own → Option Settled) where
  abbrev r : Rules Own
  r = own_rules needs nest close

  -- the task isn't stopped
  abbrev Goes : State Own → Type 0
  Goes st = is_stopped st.flow ≡ false

  value_goes : {A : Type 0} (l : ℕ) (v : Valued A) (go : A → State Own → State Own) (st : State Own)
      → ((a : A) → Goes (go a st)) → Goes (with_value l v go st)
  value_goes l (Ok a) go st h = h a
  value_goes l (Err f) go st h = refl

  put_goes : (l : ℕ) (fits : Bool) (q : Place) (v : _) (st : State Own) → Goes st → Goes (put l fits q v st)
  put_goes l true q v st on = on
  put_goes l false q v st on = refl

  primitive_goes : (l : ℕ) (s : Primitive) (st : State Own) → Goes st → Goes (primitive p l s st)
  primitive_goes l Skip st on = on
  primitive_goes l (Assign x e) st on = value_goes l (number_at st e) (assign x) st (λ v. on)
  primitive_goes l (Store s i e) st on =
      value_goes l (number_at st i) _ st (λ at. value_goes l (number_at st e) _ st (λ v.
      value_goes l (element_of (window_at st s) at) _ st (λ q.
      put_goes l (holds_number (array_of p q.array).element v) q v st on)))
  primitive_goes l (Print es) st on = value_goes l (numbers_at st es) print st (λ vs. on)
  primitive_goes l (Raise e) st on = value_goes l (number_at st e) _ st (λ v. refl)

  -- a task in a configuration isn't stopped
  by_value_goes : {A : Type 0} (l : ℕ) (v : Valued A) (go : A → Standing Own) (fs : List (Frame Own)) (st : State Own)
      → ((a : A) → Goes (go a).state) → Goes (by_value l v go fs st).state
  by_value_goes l (Ok a) go fs st h = h a
  by_value_goes l (Err f) go fs st h = refl

  chosen_goes : (v : Bool) (fs gs : List (Frame Own)) (st : State Own) → Goes st → Goes (chosen v fs gs st).state
  chosen_goes true fs gs st on = on
  chosen_goes false fs gs st on = on

  begin_stops : (m : ℕ) (b : Codes) (st : State Own) → is_stopped (begin_own needs m b st).flow ≡ is_none m
  begin_stops zero b st = refl
  begin_stops (suc m) b st = refl

  paid_stops : (n l : ℕ) (s : Code) (fs : List (Frame Own)) (st : State Own) → Goes st
      → is_stopped (paid p r n l s fs st).state.flow ≡ is_over nest n s
  paid_stops zero l s fs st on = refl
  paid_stops (suc n) l (Do s) fs st on = primitive_goes l s _ on
  paid_stops (suc n) l (If t b c) fs st on = by_value_goes l (truth_at st t) _ fs _ (λ v. chosen_goes v _ _ _ on)
  paid_stops (suc n) l (While t b) fs st on = by_value_goes l (truth_at st t) _ fs _ (λ v. chosen_goes v _ _ _ on)
  paid_stops (suc n) l (Split s e x y b) fs st on =
      by_value_goes l (number_at st e) _ fs _ (λ v.
      by_value_goes l (ok_or (sides_of (window_at st s) v) SplitPoint) _ fs _ (λ ws. on))
  paid_stops (suc n) l (Parts s e q i b) fs st on =
      by_value_goes l (number_at st e) _ fs _ (λ v.
      by_value_goes l (ok_or (piece_size v) PieceSize) _ fs _ (λ m. on))
  paid_stops (suc n) l (Begun s m k q i b) fs st on = on
  paid_stops (suc n) l (Call f es ss) fs st on = by_value_goes l (numbers_at st es) _ fs _ (λ vs. on)
  paid_stops (suc n) l (Async b) fs st on = begin_stops nest b (record st { steps = n })
  paid_stops (suc n) l (Finish b) fs st on = on
  paid_stops (suc n) l (Rescue b x c) fs st on = on

  flow_stops : (f : Flow) (l : ℕ) (s : Code) (fs below : List (Frame Own)) (st : State Own) → st.flow ≡ f
      → is_stopped (by_flow p r f l s fs below st).state.flow ≡ (is_stopped f || is_next_over nest f st.steps s)
  flow_stops On l s fs below st e = paid_stops st.steps l s fs st (ap is_stopped e)
  flow_stops Faulted l s fs below st e = ap is_stopped e
  flow_stops Stopped l s fs below st e = ap is_stopped e

  -- a turn stops a task exactly if what it does next is over the budget
  pub turn_stops : (f : Frame Own) (fs : List (Frame Own)) (st : State Own)
      → is_stopped (turn p r f fs st).state.flow ≡ (is_stopped st.flow || stops nest f st)
  turn_stops (Rest End) fs st = sym (or-false (is_stopped st.flow))
  turn_stops (Rest (Then l s rest)) fs st = flow_stops st.flow l s (Rest rest ∷ fs) fs st refl
  turn_stops (Again l t b) fs st = flow_stops st.flow l (While t b) fs fs st refl
  turn_stops (Further l s n k q i b) fs st = by (has_piece (window_at st s) n k)
    where
      c : Code
      c = Begun s n k q i b

      by : (left : Bool)
          → is_stopped (if◌then◌else◌ {A = Standing Own} left (by_flow p r st.flow l c fs fs st) (record { frames = fs; state = st })).state.flow
          ≡ (is_stopped st.flow || (left && is_next_over nest st.flow st.steps c))
      by true = flow_stops st.flow l c fs fs st refl
      by false = sym (or-false (is_stopped st.flow))
  turn_stops (AtEnd before) fs st = sym (or-false (is_stopped st.flow))
  turn_stops (OnFault before x c) fs st = by st.flow refl
    where
      by : (f : Flow) → st.flow ≡ f → is_stopped (handled f before x c fs st).state.flow ≡ (is_stopped f || false)
      by On e = ap is_stopped e
      by Faulted e = refl
      by Stopped e = ap is_stopped e
  turn_stops (Back env) fs st = sym (or-false (is_stopped st.flow))

-- ---- what is gathered
take_stopped : (path : List ℕ) (rs : List TaskResult) (found : TaskResult × List TaskResult) → take path rs ≡ Some found
    → some_stopped rs ≡ (found.0.stopped || some_stopped found.1)
take_stopped path [] found e = absurd (none-some _ e)
take_stopped path (r ∷ rs) found e = by_path (take_stopped path rs) (pointwise nat_eq r.path path) e
  where
    later : ((f : TaskResult × List TaskResult) → take path rs ≡ Some f → some_stopped rs ≡ (f.0.stopped || some_stopped f.1))
        → (o : Option (TaskResult × List TaskResult)) → take path rs ≡ o → behind r o ≡ Some found
        → (r.stopped || some_stopped rs) ≡ (found.0.stopped || some_stopped found.1)
    later rec None w q = absurd (none-some _ q)
    later rec (Some f) w q =
        let i : (f.0, r ∷ f.1) ≡ found = same_Some _ _ q in
        subst (λ (f : TaskResult × List TaskResult). (r.stopped || some_stopped rs) ≡ (f.0.stopped || some_stopped f.1)) i
        (ap (λ h. r.stopped || h) (rec f w) ∙ or_swap r.stopped f.0.stopped (some_stopped f.1))

    by_path : ((f : TaskResult × List TaskResult) → take path rs ≡ Some f → some_stopped rs ≡ (f.0.stopped || some_stopped f.1))
        → (b : Bool) → (if b then Some (r, rs) else behind r (take path rs)) ≡ Some found
        → (r.stopped || some_stopped rs) ≡ (found.0.stopped || some_stopped found.1)
    by_path rec true q =
        let i : (r, rs) ≡ found = same_Some _ _ q in
        subst (λ (f : TaskResult × List TaskResult). (r.stopped || some_stopped rs) ≡ (f.0.stopped || some_stopped f.1)) i refl
    by_path rec false q = later rec (take path rs) refl q

-- a task was stopped, or a task whose result is left
abbrev either_stopped : Settled × List TaskResult → Bool
either_stopped x = x.0.stopped || some_stopped x.1

fill_stopped : (deeper : TaskResult → List TaskResult → Option (Settled × List TaskResult))
    → ((r : TaskResult) (rs : List TaskResult) (x : Settled × List TaskResult) → deeper r rs ≡ Some x
    → either_stopped x ≡ (r.stopped || some_stopped rs))
    → (owned : Places) (cs : List Listed) (so_far : Settled) (rs : List TaskResult) (x : Settled × List TaskResult)
    → fill_all deeper owned cs so_far rs ≡ Some x → either_stopped x ≡ (so_far.stopped || some_stopped rs)
fill_stopped deeper h owned [] so_far rs x e =
    let i : (so_far, rs) ≡ x = same_Some _ _ e in
    subst (λ (x : Settled × List TaskResult). either_stopped x ≡ (so_far.stopped || some_stopped rs)) i refl
fill_stopped deeper h owned (c ∷ cs) so_far rs x e =
    let g = gives (take c.path rs) _ x (unless_none (meets owned c.windows) _ e) in
    let f = gives (deeper g.one.0 g.one.1) _ x g.next in
    fill_stopped deeper h (λ q. owned q || has c.windows q) cs (fill c f.one.0 so_far) f.one.1 x f.next
    ∙ or_assoc so_far.stopped f.one.0.stopped (some_stopped f.one.1)
    ∙ ap (λ b. so_far.stopped || b) (h g.one.0 g.one.1 f.one f.first ∙ sym (take_stopped c.path rs g.one g.first))

within_stopped : (k : ℕ) (r : TaskResult) (rs : List TaskResult) (x : Settled × List TaskResult)
    → settle_within k r rs ≡ Some x → either_stopped x ≡ (r.stopped || some_stopped rs)
within_stopped zero r rs x e = absurd (none-some _ e)
within_stopped (suc k) r rs x e =
    let g = gives (fill_all (settle_within k) r.owned r.children none_yet rs) _ x e in
    let i : (complete r g.one.0, g.one.1) ≡ x = same_Some _ _ g.next in
    subst (λ (x : Settled × List TaskResult). either_stopped x ≡ (r.stopped || some_stopped rs)) i
    (or_assoc r.stopped g.one.0.stopped (some_stopped g.one.1)
    ∙ ap (λ b. r.stopped || b) (fill_stopped (settle_within k) (within_stopped k) r.owned r.children none_yet rs g.one g.first))

left_stopped : (x : Settled × List TaskResult) (y : Settled) → none_left x ≡ Some y → y.stopped ≡ either_stopped x
left_stopped (s, []) y e = ap (λ (s : Settled). s.stopped) (sym (same_Some _ _ e)) ∙ sym (or-false s.stopped)
left_stopped (s, r ∷ rs) y e = absurd (none-some _ e)

-- a settled result is stopped exactly if one of the results was
pub settle_stopped : (r : TaskResult) (rs : List TaskResult) (x : Settled) → settle r rs ≡ Some x
    → x.stopped ≡ (r.stopped || some_stopped rs)
settle_stopped r rs x e =
    let g = gives (settle_within (length rs + 1) r rs) none_left x e in
    left_stopped g.one x g.next ∙ within_stopped (length rs + 1) r rs g.one g.first

flow_stopped : (h : Bool) (faults : List Fault) → is_stopped (if h then Stopped else after_finish On faults) ≡ h
flow_stopped true faults = refl
flow_stopped false [] = refl
flow_stopped false (f ∷ faults) = refl

-- a finish stops its owner exactly if the owner or one of the gathered tasks was stopped
pub finish_stops : (before st : State Own) (rs : List TaskResult) (x : Settled) → settle (result_of st) rs ≡ Some x
    → is_stopped (handed before x st).flow ≡ (is_stopped st.flow || some_stopped rs)
finish_stops before st rs x e = flow_stopped x.stopped x.faults ∙ settle_stopped (result_of st) rs x e
