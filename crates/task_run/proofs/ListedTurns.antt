-- The actions of a turn determine how the lists of a task's children change.
use Rattle.std.proofs.Common.{◌≡◌, ℕ, zero, suc, List, [], ◌∷◌, Option, Ok, Err, refl, ap, subst}
use Rattle.std.specs.Prelude.{Bool, true, false, ◌&&◌, ok_or, if◌then◌else◌}
use Rattle.shared_lemmas.proofs.Truths.{false_true}
use Rattle.sections.specs.Place.{has_piece, sides_of}
use Rattle.types.specs.declared.fault.FaultKind.TheVariants.{SplitPoint, PieceSize}
use Rattle.types.specs.Code.{Code, Do, If, While, Split, Parts, Begun, Call, Async, Finish, Rescue, Codes, End, Then}
use Rattle.types.specs.Code.{Program, Number}
use Rattle.types.specs.Code.{Primitive, Truth}
use Rattle.types.specs.Value.{Valued}
use Rattle.types.specs.Run.{Flow, On, Faulted, Stopped, State, piece_size, number_at, numbers_at, truth_at, window_at, Rules}
use Rattle.types.proofs.Keeps.{primitive_keeps}
use Rattle.effects.specs.Needs.{Needs}
use Rattle.task_run.specs.Results.{Settled}
use Rattle.task_run.specs.OwnRun.{Child, Step, Own, notes, own_rules, child_of}
use Rattle.task_run.specs.Frames.{Frame, Rest, Again, Further, AtEnd, OnFault, Back, Standing, by_value, chosen}
use Rattle.task_run.specs.Frames.{handled, paid}
use Rattle.task_run.specs.Frames.{by_flow, turn}
use Rattle.task_run.specs.Frames.{done_by, done_at, done_in}
use Rattle.task_run.specs.Stops.{is_over, is_next_over, stops}
use Rattle.task_run.specs.Worth.{Lists, around, lists, ListsAs}
use Rattle.task_run.proofs.TurnActions.{silent}

abbrev listing : List Child → List (List Child) → Lists
listing cs css = record { inner = cs; outer = css }

-- ---- over the budget nothing is done
over_by : (needs : Codes → Needs) (nest n : ℕ) (s : Code) (st : State Own) → is_over nest n s ≡ true
    → done_by needs nest n s st ≡ []
over_by needs nest zero s st e = refl
over_by needs zero (suc n) (Async b) st e = refl
over_by needs (suc m) (suc n) (Async b) st e = absurd (false_true e)
over_by needs nest (suc n) (Finish b) st e = absurd (false_true e)
over_by needs nest (suc n) (Rescue b x c) st e = absurd (false_true e)
over_by needs nest (suc n) (Do s) st e = absurd (false_true e)
over_by needs nest (suc n) (If t b c) st e = absurd (false_true e)
over_by needs nest (suc n) (While t b) st e = absurd (false_true e)
over_by needs nest (suc n) (Split s x y z b) st e = absurd (false_true e)
over_by needs nest (suc n) (Parts s x y z b) st e = absurd (false_true e)
over_by needs nest (suc n) (Begun s m k y z b) st e = absurd (false_true e)
over_by needs nest (suc n) (Call f es ss) st e = absurd (false_true e)

over_at : (needs : Codes → Needs) (nest : ℕ) (g : Flow) (s : Code) (st : State Own) → is_next_over nest g st.steps s ≡ true
    → done_at needs nest g s st ≡ []
over_at needs nest On s st e = over_by needs nest st.steps s st e
over_at needs nest Faulted s st e = refl
over_at needs nest Stopped s st e = refl

pub over_does_nothing : (needs : Codes → Needs) (nest : ℕ) (f : Frame Own) (st : State Own) → stops nest f st ≡ true
    → done_in needs nest f st ≡ []
over_does_nothing needs nest (Rest End) st e = refl
over_does_nothing needs nest (Rest (Then l s rest)) st e = over_at needs nest st.flow s st e
over_does_nothing needs nest (Again l t b) st e = over_at needs nest st.flow (While t b) st e
over_does_nothing needs nest (Further l s n k q i b) st e = by (has_piece (window_at st s) n k) e
  where
    c : Code
    c = Begun s n k q i b

    by : (left : Bool) → (left && is_next_over nest st.flow st.steps c) ≡ true
        → (if left then done_at needs nest st.flow c st else []) ≡ []
    by true e = over_at needs nest st.flow c st e
    by false e = refl
over_does_nothing needs nest (AtEnd before) st e = refl
over_does_nothing needs nest (OnFault before x c) st e = refl
over_does_nothing needs nest (Back env) st e = refl

module _ (p : Program) (needs : Codes → Needs) (close : State Own → Option Settled) where
  abbrev r : ℕ → Rules Own
  r nest = own_rules needs nest close

  value_lists : {A : Type 0} (l : ℕ) (v : Valued A) (go : A → Standing Own) (fs : List (Frame Own)) (st : State Own)
      (ls : Lists) → listing st.extra.pending (around fs) ≡ ls → ((x : A) → lists (go x) ≡ ls) → lists (by_value l v go fs st) ≡ ls
  value_lists l (Ok x) go fs st ls e h = h x
  value_lists l (Err f) go fs st ls e h = e

  chosen_lists : (v : Bool) (fs gs : List (Frame Own)) (st : State Own) (ls : Lists) → listing st.extra.pending (around fs) ≡ ls
      → listing st.extra.pending (around gs) ≡ ls → lists (chosen v fs gs st) ≡ ls
  chosen_lists true fs gs st ls e f = e
  chosen_lists false fs gs st ls e f = f

  -- a statement that takes a step
  module _ (nest n : ℕ) (fs : List (Frame Own)) (st : State Own) where
    abbrev after : State Own
    after = record st { steps = n; extra = notes Step st.extra }

    abbrev old : Lists
    old = listing st.extra.pending (around fs)

    do_lists : (l : ℕ) (s : Primitive) → lists (paid p (r nest) (suc n) l (Do s) fs st) ≡ old
    do_lists l s =
        ap (λ cs. listing cs (around fs))
        (primitive_keeps p _ (λ st to. to.extra.pending ≡ st.extra.pending)
        (silent (λ x. x.pending)) l s after)

    if_lists : (l : ℕ) (t : Truth) (b c : Codes) → lists (paid p (r nest) (suc n) l (If t b c) fs st) ≡ old
    if_lists l t b c = value_lists l (truth_at st t) _ fs after _ refl (λ v. chosen_lists v _ _ after _ refl refl)

    while_lists : (l : ℕ) (t : Truth) (b : Codes) → lists (paid p (r nest) (suc n) l (While t b) fs st) ≡ old
    while_lists l t b = value_lists l (truth_at st t) _ fs after _ refl (λ v. chosen_lists v _ _ after _ refl refl)

    split_lists : (l s x y : ℕ) (e : Number) (b : Codes) → lists (paid p (r nest) (suc n) l (Split s e x y b) fs st) ≡ old
    split_lists l s x y e b =
        value_lists l (number_at st e) _ fs after _ refl (λ v.
        value_lists l (ok_or (sides_of (window_at st s) v) SplitPoint) _ fs after _ refl (λ ws. refl))

    parts_lists : (l s q i : ℕ) (e : Number) (b : Codes) → lists (paid p (r nest) (suc n) l (Parts s e q i b) fs st) ≡ old
    parts_lists l s q i e b =
        value_lists l (number_at st e) _ fs after _ refl (λ v.
        value_lists l (ok_or (piece_size v) PieceSize) _ fs after _ refl (λ m. refl))

    call_lists : (l f : ℕ) (es : List Number) (ss : List ℕ) → lists (paid p (r nest) (suc n) l (Call f es ss) fs st) ≡ old
    call_lists l f es ss = value_lists l (numbers_at st es) _ fs after _ refl (λ vs. refl)

  paid_lists : (nest n l : ℕ) (s : Code) (fs : List (Frame Own)) (st : State Own)
      → ListsAs (done_by needs nest n s st) (listing st.extra.pending (around fs)) (lists (paid p (r nest) n l s fs st))
  paid_lists (suc m) (suc n) l (Async b) fs st =
      record { child = child_of (needs b) m b (record st { steps = n }); start = refl; lists = refl }
  paid_lists nest (suc n) l (Do s) fs st = do_lists nest n fs st l s
  paid_lists nest (suc n) l (If t b c) fs st = if_lists nest n fs st l t b c
  paid_lists nest (suc n) l (While t b) fs st = while_lists nest n fs st l t b
  paid_lists nest (suc n) l (Split s e x y b) fs st = split_lists nest n fs st l s x y e b
  paid_lists nest (suc n) l (Parts s e q i b) fs st = parts_lists nest n fs st l s q i e b
  paid_lists nest (suc n) l (Call f es ss) fs st = call_lists nest n fs st l f es ss
  -- a finish and a turn of a `parts` spawn no task, and neither does a statement that is over the budget
  paid_lists nest n l s fs st = refl

  flow_lists : (nest : ℕ) (g : Flow) (l : ℕ) (s : Code) (fs below : List (Frame Own)) (st : State Own) → around fs ≡ around below
      → ListsAs (done_at needs nest g s st) (listing st.extra.pending (around below)) (lists (by_flow p (r nest) g l s fs below st))
  flow_lists nest On l s fs below st e =
      subst (λ css. ListsAs (done_by needs nest st.steps s st) (listing st.extra.pending css) (lists (paid p (r nest) st.steps l s fs st)))
      e (paid_lists nest st.steps l s fs st)
  flow_lists nest Faulted l s fs below st e = refl
  flow_lists nest Stopped l s fs below st e = refl

  -- a turn changes the lists according to its actions
  pub turn_lists : (nest : ℕ) (f : Frame Own) (fs : List (Frame Own)) (st : State Own)
      → ListsAs (done_in needs nest f st) (lists (record { frames = f ∷ fs; state = st })) (lists (turn p (r nest) f fs st))
  turn_lists nest (Rest End) fs st = refl
  turn_lists nest (Rest (Then l s rest)) fs st = flow_lists nest st.flow l s (Rest rest ∷ fs) fs st refl
  turn_lists nest (Again l t b) fs st = flow_lists nest st.flow l (While t b) fs fs st refl
  turn_lists nest (Further l s n k q i b) fs st = by (has_piece (window_at st s) n k)
    where
      c : Code
      c = Begun s n k q i b

      by : (left : Bool)
          → ListsAs (if left then done_at needs nest st.flow c st else [])
          (lists (record { frames = Further l s n k q i b ∷ fs; state = st }))
          (lists (if◌then◌else◌ {A = Standing Own} left (by_flow p (r nest) st.flow l c fs fs st) (record { frames = fs; state = st })))
      by true = flow_lists nest st.flow l c fs fs st refl
      by false = refl
  turn_lists nest (AtEnd before) fs st = refl
  turn_lists nest (OnFault before x c) fs st = by st.flow
    where
      by : (g : Flow) → lists (handled g before x c fs st) ≡ listing st.extra.pending (around fs)
      by On = refl
      by Faulted = refl
      by Stopped = refl
  turn_lists nest (Back env) fs st = refl
