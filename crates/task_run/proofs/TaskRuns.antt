-- From its start to its end a task is its own run, and so are its result and the starts of its
-- children.
use Rattle.std.proofs.lemmas.Option.{same_Some}
use Rattle.std.proofs.Common.{◌≡◌, ℕ, zero, suc, ◌+◌, List, [], ◌∷◌, ◌++◌, length, Option, Some, refl, sym, ap, ◌∙◌}
use Rattle.std.proofs.Common.{arith, append_assoc}
use Rattle.std.specs.Prelude.{Bool, true, false, slice_get, if◌then◌else◌}
use Rattle.sections.specs.Place.{has_piece}
use Rattle.std.proofs.lemmas.Bool.{and_right}
use Rattle.types.specs.Code.{Code, Do, If, While, Split, Parts, Begun, Call, Async, Finish, Rescue, Codes, End, Then}
use Rattle.types.specs.Code.{Program}
use Rattle.types.specs.Run.{Flow, On, Faulted, Stopped, State, Rules, window_at}
use Rattle.effects.specs.Needs.{Needs}
use Rattle.task_run.specs.Apart.{is_stopped}
use Rattle.task_run.specs.Results.{TaskResult, Settled, none_yet, complete, and_then}
use Rattle.task_run.specs.OwnRun.{Start, Action, Own, EndFinish, at_first, notes, result_of, leave_with, own_rules}
use Rattle.task_run.specs.OwnRun.{begun_by, beginning, from_receipts, run_by}
use Rattle.task_run.specs.Given.{filled, in_truth, own, given, IsOfOwnRun, IsOwn}
use Rattle.task_run.specs.InPlace.{IsMade}
use Rattle.task_run.specs.Frames.{Frame, Rest, Again, Further, AtEnd, OnFault, Back, Standing, resume, paid, by_flow}
use Rattle.task_run.specs.Frames.{turn, handed}
use Rattle.task_run.specs.Frames.{IsBegun, HasBegun, HasBegunBelow, IsGivenChild, IsTask, Follows}
use Rattle.task_run.specs.Settling.{settle}
use Rattle.task_run.specs.Lists.{Each}
use Rattle.task_run.proofs.Lists.{each_more}
use Rattle.task_run.proofs.Begun.{at_first_fine, quiet, begun_by-append, still_begun}
use Rattle.task_run.proofs.SettledResults.{begun_is_true, each_made, part_sound}
use Rattle.task_run.proofs.TurnsResume.{turn_keeps}
use Rattle.task_run.proofs.TaskTurns.{own_thrifty, resume_grows, turn_kept}
use Rattle.shared_lemmas.proofs.Lists.{get-append_left}

module _ (p : Program) (needs : Codes → Needs) (fresh : ℕ) (root : Start) where
  -- a fact about a task's own run is true for each start that its path is given
  pub own_if_given : (r : TaskResult) → IsOfOwnRun p needs fresh root r → IsOwn p needs fresh root r
  own_if_given r k s e = k.is ∙ ap (λ s. result_of (own p needs fresh s)) (same_Some _ _ (sym k.of_path ∙ e))

  pub each_if_given : (rs : List TaskResult) → Each (IsOfOwnRun p needs fresh root) rs → Each (IsOwn p needs fresh root) rs
  each_if_given rs = each_more (IsOfOwnRun p needs fresh root) (IsOwn p needs fresh root) rs own_if_given

  pub made_if_given : (rs : List TaskResult) → Each (IsOfOwnRun p needs fresh root) rs → Each (IsMade p needs fresh root) rs
  made_if_given rs all = each_made p needs fresh root rs (each_if_given rs all)

  -- unless it waits, a finish ends with what is handed over
  leaves : (nest : ℕ) (close : State Own → Option Settled) (before st : State Own) (x : Settled) → st.extra.waits ≡ false
      → close st ≡ Some x
      → (own_rules needs nest close).leave before st ≡ handed before x st
  leaves nest close before st x w e =
      ap (λ b. if b then st else leave_with before noted (close st)) (and_right (is_stopped st.flow) st.extra.waits w)
      ∙ ap (leave_with before noted) e
    where
      noted : State Own
      noted = record st { extra = notes EndFinish st.extra }

  module _ (s : Start) where
    abbrev r : Rules Own
    r = own_rules needs s.nest (in_truth p needs fresh)

    -- a task at its beginning
    pub begins_task : given p needs fresh root s.path ≡ Some s
        → IsTask p needs fresh root s (record { frames = Rest s.body ∷ []; state = beginning (at_first s.owned) fresh s })
    begins_task e =
        record {
          comes = e;
          runs = refl;
          path = refl;
          awake = refl;
          fine =
              at_first_fine s.nest needs (in_truth p needs fresh) fresh s;
          below = tt;
        }

    -- a turn
    pub turns_task : (f : Frame Own) (fs : List (Frame Own)) (st : State Own)
        → IsTask p needs fresh root s (record { frames = f ∷ fs; state = st })
        → IsTask p needs fresh root s (turn p r f fs st)
    turns_task f fs st h =
        let k = turn_kept p needs s.nest (in_truth p needs fresh) f fs st h.fine h.below in
        record {
          comes = h.comes;
          runs = turn_keeps p r (own_thrifty p needs s.nest (in_truth p needs fresh)) (λ l st. refl) f fs st ∙ h.runs;
          path = k.tells.path ∙ h.path;
          awake = k.waits ∙ h.awake;
          fine = k.tells.fine h.fine;
          below = k.below;
        }

    -- the actions that it has done are the first of all its actions
    pub goes_on : (fs : List (Frame Own)) (st : State Own) → IsTask p needs fresh root s (record { frames = fs; state = st })
        → (done : List Action) × ((own p needs fresh s).extra.actions ≡ st.extra.actions ++ done)
    goes_on fs st h =
        let g = resume_grows p needs s.nest (in_truth p needs fresh) fs st in
        (g.done, ap (λ (st : State Own). st.extra.actions) (sym h.runs) ∙ g.more)

    -- each listed task is given its start
    pub lists_given : (fs : List (Frame Own)) (st : State Own) → IsTask p needs fresh root s (record { frames = fs; state = st })
        → Each (IsGivenChild p needs fresh root) st.extra.pending
    lists_given fs st h =
        let g = goes_on fs st h in
        each_more (IsBegun s.nest st) (IsGivenChild p needs fresh root) st.extra.pending
        (λ c. begun_is_true p needs fresh root s h.comes st c h.path
        (λ k t e. ap (λ acts. slice_get (begun_by acts) k) g.1 ∙ ap (λ ss. slice_get ss k) (begun_by-append st.extra.actions g.0)
        ∙ get-append_left (begun_by st.extra.actions) (begun_by g.0) k t e))
        h.fine.begun

    -- the end of a finish, with its real settled result
    pub handed_task : (before : State Own) (fs : List (Frame Own)) (st : State Own)
        → IsTask p needs fresh root s (record { frames = AtEnd before ∷ fs; state = st }) → (x : Settled)
        → x ≡ complete (result_of st) (filled p needs fresh st.extra.pending none_yet)
        → IsTask p needs fresh root s (record { frames = fs; state = handed before x st })
    handed_task before fs st h x right =
        let to = handed before x st in
        record {
          comes = h.comes;
          runs =
              ap (λ x. resume p r fs (handed before x st)) right
              ∙ ap (resume p r fs)
              (sym (leaves s.nest (in_truth p needs fresh) before st
              (complete (result_of st) (filled p needs fresh st.extra.pending none_yet)) h.awake refl))
              ∙ h.runs;
          path = h.path;
          awake = h.awake;
          fine = record {
            counted = (quiet s.nest st (record st { extra = notes EndFinish st.extra }) EndFinish refl refl refl refl refl h.fine).counted;
            begun = each_more (IsBegun s.nest st) (IsBegun s.nest to) before.extra.pending
                (λ c. still_begun s.nest st to c refl (EndFinish ∷ []) refl) h.below.0;
          };
          below = below_still fs h.below.1;
        }
      where
        below_still : (fs : List (Frame Own)) → HasBegunBelow s.nest st fs → HasBegunBelow s.nest (handed before x st) fs
        below_still [] k = tt
        below_still (Rest b ∷ fs) k = below_still fs k
        below_still (Again l t b ∷ fs) k = below_still fs k
        below_still (Further l s n j q i b ∷ fs) k = below_still fs k
        below_still (AtEnd mid ∷ fs) k = (
          each_more (IsBegun s.nest st) (IsBegun s.nest (handed before x st)) mid.extra.pending
              (λ c. still_begun s.nest st (handed before x st) c refl (EndFinish ∷ []) refl) k.0,
          below_still fs k.1,
        )
        below_still (OnFault mid y c ∷ fs) k = below_still fs k
        below_still (Back env ∷ fs) k = below_still fs k

    -- with results of tasks
    pub leaves_task : (rs : List TaskResult) → Each (IsMade p needs fresh root) rs
        → (before : State Own) (fs : List (Frame Own)) (st : State Own)
        → IsTask p needs fresh root s (record { frames = AtEnd before ∷ fs; state = st }) → (x : Settled)
        → settle (result_of st) rs ≡ Some x
        → IsTask p needs fresh root s (record { frames = fs; state = handed before x st })
    leaves_task rs all before fs st h x e =
        handed_task before fs st h x
        (part_sound p needs fresh root st.extra.pending (lists_given (AtEnd before ∷ fs) st h) (result_of st) refl rs all x e)

    -- its end
    pub of_own_run : (st : State Own) → IsTask p needs fresh root s (record { frames = []; state = st })
        → IsOfOwnRun p needs fresh root (result_of st)
    of_own_run st h = record {
      start = s;
      of_path = ap (given p needs fresh root) h.path ∙ h.comes;
      is = ap result_of h.runs;
    }

    pub ends_task : (st : State Own) → IsTask p needs fresh root s (record { frames = []; state = st })
        → IsOwn p needs fresh root (result_of st)
    ends_task st h = own_if_given (result_of st) (of_own_run st h)

    -- ---- by receipts
    pub begins_follow : Follows p needs fresh root s [] (record { frames = Rest s.body ∷ []; state = beginning (at_first s.owned) fresh s })
    begins_follow = record { count = refl; follows = λ later. refl }

    -- a turn doesn't depend on the settled results of finishes
    module _ (c d : State Own → Option Settled) where
      paid_alike : (n l : ℕ) (t : Code) (fs : List (Frame Own)) (st : State Own)
          → paid p (own_rules needs s.nest c) n l t fs st ≡ paid p (own_rules needs s.nest d) n l t fs st
      paid_alike zero l t fs st = refl
      paid_alike (suc n) l (Do t) fs st = refl
      paid_alike (suc n) l (If t b e) fs st = refl
      paid_alike (suc n) l (While t b) fs st = refl
      paid_alike (suc n) l (Split t e x y b) fs st = refl
      paid_alike (suc n) l (Parts t e x i b) fs st = refl
      paid_alike (suc n) l (Begun t m k x i b) fs st = refl
      paid_alike (suc n) l (Call f es ss) fs st = refl
      paid_alike (suc n) l (Async b) fs st = refl
      paid_alike (suc n) l (Finish b) fs st = refl
      paid_alike (suc n) l (Rescue b x e) fs st = refl

      flow_alike : (f : Flow) (l : ℕ) (t : Code) (fs below : List (Frame Own)) (st : State Own)
          → by_flow p (own_rules needs s.nest c) f l t fs below st ≡ by_flow p (own_rules needs s.nest d) f l t fs below st
      flow_alike On l t fs below st = paid_alike st.steps l t fs st
      flow_alike Faulted l t fs below st = refl
      flow_alike Stopped l t fs below st = refl

      pub turn_alike : (f : Frame Own) (fs : List (Frame Own)) (st : State Own)
          → turn p (own_rules needs s.nest c) f fs st ≡ turn p (own_rules needs s.nest d) f fs st
      turn_alike (Rest End) fs st = refl
      turn_alike (Rest (Then l t rest)) fs st = flow_alike st.flow l t (Rest rest ∷ fs) fs st
      turn_alike (Again l t b) fs st = flow_alike st.flow l (While t b) fs fs st
      turn_alike (Further l x n k q i b) fs st = by (has_piece (window_at st x) n k)
        where
          by : (left : Bool)
              → if◌then◌else◌ {A = Standing Own} left (by_flow p (own_rules needs s.nest c) st.flow l (Begun x n k q i b) fs fs st)
              (record { frames = fs; state = st })
              ≡ if◌then◌else◌ {A = Standing Own} left (by_flow p (own_rules needs s.nest d) st.flow l (Begun x n k q i b) fs fs st)
              (record { frames = fs; state = st })
          by true = flow_alike st.flow l (Begun x n k q i b) fs fs st
          by false = refl
      turn_alike (AtEnd before) fs st = refl
      turn_alike (OnFault before x e) fs st = refl
      turn_alike (Back env) fs st = refl

    pub turns_follow : (taken : List (List TaskResult)) (f : Frame Own) (fs : List (Frame Own)) (st : State Own) → HasBegun s.nest st
        → HasBegunBelow s.nest st (f ∷ fs)
        → Follows p needs fresh root s taken (record { frames = f ∷ fs; state = st })
        → Follows p needs fresh root s taken (turn p r f fs st)
    turns_follow taken f fs st fine below h = record {
      count = (turn_kept p needs s.nest (in_truth p needs fresh) f fs st fine below).ended ∙ h.count;
      follows = λ later.
          let c = from_receipts (taken ++ later) in
          h.follows later
          ∙ sym (turn_keeps p (own_rules needs s.nest c) (own_thrifty p needs s.nest c) (λ l st. refl) f fs st)
          ∙ ap (λ (t : Standing Own). resume p (own_rules needs s.nest c) t.frames t.state) (turn_alike c (in_truth p needs fresh) f fs st);
    }

    get_last : {A : Type 0} (xs : List A) (x : A) (ys : List A) (j : ℕ) → j ≡ length xs → slice_get ((xs ++ x ∷ []) ++ ys) j ≡ Some x
    get_last [] x ys zero e = refl
    get_last [] x ys (suc j) e = absurd (omega (arith, e))
    get_last (z ∷ xs) x ys zero e = absurd (omega (arith, e))
    get_last (z ∷ xs) x ys (suc j) e = get_last xs x ys j (omega (arith, e))

    length_last : {A : Type 0} (xs : List A) (x : A) → length xs + 1 ≡ length (xs ++ x ∷ [])
    length_last [] x = refl
    length_last (z ∷ xs) x = omega (arith, length_last xs x)

    -- the end of a finish takes a receipt
    pub leaves_follow : (taken : List (List TaskResult)) (receipt : List TaskResult) (before : State Own) (fs : List (Frame Own))
        (st : State Own) (x : Settled)
        → st.extra.waits ≡ false → settle (result_of st) receipt ≡ Some x
        → Follows p needs fresh root s taken (record { frames = AtEnd before ∷ fs; state = st })
        → Follows p needs fresh root s (taken ++ receipt ∷ []) (record { frames = fs; state = handed before x st })
    leaves_follow taken receipt before fs st x w e h = record {
      count = ap (λ n. n + 1) h.count ∙ length_last taken receipt;
      follows = λ later.
          let all = (taken ++ receipt ∷ []) ++ later in
          let same : all ≡ taken ++ (receipt ∷ later) = append_assoc taken (receipt ∷ []) later in
          ap (λ l. run_by p needs fresh l s) same
          ∙ h.follows (receipt ∷ later)
          ∙ ap (λ l. resume p (own_rules needs s.nest (from_receipts l)) (AtEnd before ∷ fs) st) (sym same)
          ∙ ap (resume p (own_rules needs s.nest (from_receipts all)) fs)
          (leaves s.nest (from_receipts all) before st x w
          (ap (λ o. and_then o (settle (result_of st))) (get_last taken receipt later st.extra.ended h.count) ∙ e));
    }
