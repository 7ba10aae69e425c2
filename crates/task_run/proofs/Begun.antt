-- A task has spawned all that it lists, each under a separate path; if all results are handed over,
-- it never waits.
use Rattle.std.proofs.Common.{◌≡◌, ℕ, zero, suc, ◌+◌, List, [], ◌∷◌, ◌++◌, length, Option, Some, None, refl, sym, ap}
use Rattle.std.proofs.Common.{◌∙◌, subst, arith, add-one, append_assoc}
use Rattle.std.proofs.lemmas.List.{append-nil, length_push}
use Rattle.std.specs.Prelude.{Bool, true, false, slice_get, if◌then◌else◌}
use Rattle.types.specs.Code.{Codes, Program}
use Rattle.types.specs.Run.{State, Rules, Work, run}
use Rattle.types.specs.Laws.{IsKept}
use Rattle.types.proofs.Keeps.{run_keeps}
use Rattle.effects.specs.Needs.{Needs}
use Rattle.task_run.specs.Results.{Settled}
use Rattle.task_run.specs.OwnRun.{Start, Child, Action, Step, Spawn, EnterFinish, EndFinish, EndTask, Own, at_first}
use Rattle.task_run.specs.OwnRun.{is_waiting, child_of, list_child, begin_own, go_on_with, leave_with, own_rules}
use Rattle.task_run.specs.OwnRun.{begun_by, beginning}
use Rattle.task_run.specs.Frames.{IsBegun, HasBegun}
use Rattle.task_run.specs.Lists.{Each}
use Rattle.task_run.proofs.Lists.{each_more, each_last}
use Rattle.shared_lemmas.proofs.Lists.{get-append_left}

-- ---- lists
pub begun_by-append : (acts bs : List Action) → begun_by (acts ++ bs) ≡ begun_by acts ++ begun_by bs
begun_by-append [] bs = refl
begun_by-append (Spawn s ∷ acts) bs = ap (λ ss. s ∷ ss) (begun_by-append acts bs)
begun_by-append (Step ∷ acts) bs = begun_by-append acts bs
begun_by-append (EnterFinish ∷ acts) bs = begun_by-append acts bs
begun_by-append (EndFinish ∷ acts) bs = begun_by-append acts bs
begun_by-append (EndTask ∷ acts) bs = begun_by-append acts bs

get_last : {A : Type 0} (xs : List A) (x : A) (k : ℕ) → length xs ≡ k → slice_get (xs ++ x ∷ []) k ≡ Some x
get_last [] x zero e = refl
get_last [] x (suc k) e = absurd (omega (arith, e))
get_last (y ∷ xs) x zero e = absurd (omega (arith, e))
get_last (y ∷ xs) x (suc k) e = get_last xs x k (omega (arith, e))

-- ---- what is known
-- a state follows another: its path stays, its actions grow at their end
pub record Tells (nest : ℕ) (st to : State Own) : Type 0 where
  pub path : to.path ≡ st.path
  pub done : List Action
  pub more : to.extra.actions ≡ st.extra.actions ++ done
  pub fine : HasBegun nest st → HasBegun nest to

module _ (nest : ℕ) where
  pub still_begun : (st to : State Own) (c : Child) → to.path ≡ st.path → (done : List Action) → to.extra.actions ≡ st.extra.actions ++ done
      → IsBegun nest st c → IsBegun nest to c
  still_begun st to c path done more h = record {
    number = h.number;
    path = h.path ∙ ap (λ q. q ++ suc h.number ∷ []) (sym path);
    listed = h.listed;
    here = ap (λ acts. slice_get (begun_by acts) h.number) more
        ∙ ap (λ ss. slice_get ss h.number) (begun_by-append st.extra.actions done)
        ∙ get-append_left (begun_by st.extra.actions) (begun_by done) h.number c.start h.here;
    deeper = h.deeper;
  }

  -- an action other than a spawn, with no more tasks spawned
  pub quiet : (st to : State Own) (a : Action) → begun_by (a ∷ []) ≡ [] → to.path ≡ st.path → to.spawned ≡ st.spawned
      → to.extra.actions ≡ st.extra.actions ++ a ∷ [] → to.extra.pending ≡ st.extra.pending → HasBegun nest st → HasBegun nest to
  quiet st to a none path spawned more pending h = record {
    counted =
        ap (λ acts. length (begun_by acts)) more
        ∙ ap length
        (begun_by-append st.extra.actions (a ∷ []) ∙ ap (λ ss. begun_by st.extra.actions ++ ss) none
        ∙ append-nil (begun_by st.extra.actions))
        ∙ h.counted ∙ sym spawned;
    begun = subst (λ cs. Each (IsBegun nest to) cs) (sym pending)
        (each_more (IsBegun nest st) (IsBegun nest to) st.extra.pending (λ c. still_begun st to c path (a ∷ []) more) h.begun);
  }

  pub idle_tells : (st to : State Own) → to.path ≡ st.path → to.spawned ≡ st.spawned → to.extra ≡ st.extra → Tells nest st to
  idle_tells st to path spawned extra =
      let more = ap (λ (x : Own). x.actions) extra ∙ sym (append-nil st.extra.actions) in
      record {
        path = path;
        done = [];
        more = more;
        fine = λ h. record {
          counted = ap (λ (x : Own). length (begun_by x.actions)) extra ∙ h.counted ∙ sym spawned;
          begun = subst (λ (cs : List Child). Each (IsBegun nest to) cs) (sym (ap (λ (x : Own). x.pending) extra))
              (each_more (IsBegun nest st) (IsBegun nest to) st.extra.pending (λ c. still_begun st to c path [] more) h.begun);
        };
      }

  further_tells : (a b c : State Own) → Tells nest a b → Tells nest b c → Tells nest a c
  further_tells a b c h k = record {
    path = k.path ∙ h.path;
    done = h.done ++ k.done;
    more = k.more ∙ ap (λ acts. acts ++ k.done) h.more ∙ append_assoc a.extra.actions h.done k.done;
    fine = λ f. k.fine (h.fine f);
  }

  list_tells : (n : Needs) (m : ℕ) (b : Codes) (st : State Own) → suc m ≡ nest → Tells nest st (list_child n m b st)
  list_tells n m b st e =
      let c = child_of n m b st in
      let to = list_child n m b st in
      let done : List Action = Spawn c.start ∷ [] in
      record {
        path = refl;
        done = done;
        more = refl;
        fine = λ h. record {
          counted =
              ap length (begun_by-append st.extra.actions done)
              ∙ length_push (begun_by st.extra.actions) c.start ∙ ap (λ k. k + 1) h.counted;
          begun = each_last (IsBegun nest to) st.extra.pending c
              (each_more (IsBegun nest st) (IsBegun nest to) st.extra.pending (λ d. still_begun st to d refl done refl) h.begun)
              (record {
                number = st.spawned;
                path = ap (λ k. st.path ++ k ∷ []) (add-one st.spawned);
                listed = refl;
                here = ap (λ ss. slice_get ss st.spawned) (begun_by-append st.extra.actions done)
                    ∙ get_last (begun_by st.extra.actions) c.start st.spawned h.counted;
                deeper = e;
              });
        };
      }

  module _ (needs : Codes → Needs) (close : State Own → Option Settled) where
    abbrev r : Rules Own
    r = own_rules needs nest close

    pub begin_tells : (m : ℕ) → m ≡ nest → (b : Codes) (st : State Own) → Tells nest st (begin_own needs m b st)
    begin_tells zero e b st = idle_tells st _ refl refl refl
    begin_tells (suc n) e b st = list_tells (needs b) n b st e

    pub enter_tells : (l : ℕ) (st : State Own) → Tells nest st (r.enter l st)
    enter_tells l st = record {
      path = refl;
      done = EnterFinish ∷ [];
      more = refl;
      fine = λ h. record {
        counted =
            (quiet st
            (record (r.enter l st) {
              extra =
                  record (r.enter l st).extra { pending = st.extra.pending };
            }) EnterFinish refl refl refl refl refl h).counted;
        begun = tt;
      };
    }

    finish_tells : (l : ℕ) (st out : State Own) → Tells nest (r.enter l st) out → Tells nest st (r.leave st out)
    finish_tells l st out h = by_waiting (is_waiting out)
      where
        noted : State Own
        noted = record out { extra = record out.extra { actions = out.extra.actions ++ EndFinish ∷ [] } }

        inner : Tells nest st out
        inner = further_tells st (r.enter l st) out (enter_tells l st) h

        ends : (s : Option Settled) → Tells nest st (leave_with st noted s)
        ends None =
            further_tells st out (leave_with st noted None) inner
            (record {
              path = refl;
              done = EndFinish ∷ [];
              more = refl;
              fine =
                  quiet out (leave_with st noted None) EndFinish refl refl refl refl refl;
            })
        ends (Some s) =
            let to = go_on_with st noted s in
            let more = ap (λ acts. acts ++ EndFinish ∷ []) inner.more ∙ append_assoc st.extra.actions inner.done (EndFinish ∷ []) in
            record {
              path = inner.path;
              done = inner.done ++ EndFinish ∷ [];
              more = more;
              fine = λ f. record {
                counted = (quiet out noted EndFinish refl refl refl refl refl (inner.fine f)).counted;
                begun = each_more (IsBegun nest st) (IsBegun nest to) st.extra.pending
                    (λ c. still_begun st to c inner.path (inner.done ++ EndFinish ∷ []) more) f.begun;
              };
            }

        by_waiting : (b : Bool) → Tells nest st (if b then out else leave_with st noted (close out))
        by_waiting true = inner
        by_waiting false = ends (close out)

    pub tells : IsKept r (Tells nest)
    tells = record {
      idle = λ st to path spawned extra _. idle_tells st to path spawned extra;
      further = further_tells;
      stepped =
          λ l st. record {
            path = refl;
            done = Step ∷ [];
            more = refl;
            fine =
                quiet st (record st { extra = r.stepped l st.extra }) Step refl refl refl refl refl;
          };
      begin = λ l b st. begin_tells nest refl b st;
      finish = finish_tells;
    }

    -- facts about any run by these rules
    pub run_tells : (p : Program) (w : Work) (st : State Own) → Tells nest st (run p r w st)
    run_tells p w st = run_keeps p r (Tells nest) tells w st

    pub at_first_fine : (fresh : ℕ) (s : Start) → HasBegun nest (beginning (at_first s.owned) fresh s)
    at_first_fine fresh s = record { counted = refl; begun = tt }

    -- if all results are handed over, it never waits
    abbrev Awake : State Own → State Own → Type 0
    Awake st to = st.extra.waits ≡ false → to.extra.waits ≡ false

    module _ (there : State Own → Settled) (all : (st : State Own) → close st ≡ Some (there st)) where
      begin_awake : (m : ℕ) (b : Codes) (st : State Own) → Awake st (begin_own needs m b st)
      begin_awake zero b st e = e
      begin_awake (suc n) b st e = e

      finish_awake : (l : ℕ) (st out : State Own) → Awake (r.enter l st) out → Awake st (r.leave st out)
      finish_awake l st out h e = by_waiting (is_waiting out)
        where
          noted : State Own
          noted = record out { extra = record out.extra { actions = out.extra.actions ++ EndFinish ∷ [] } }

          by_waiting : (b : Bool) → (if b then out else leave_with st noted (close out)).extra.waits ≡ false
          by_waiting true = h e
          by_waiting false = ap (λ o. (leave_with st noted o).extra.waits) (all out) ∙ h e

      awake : IsKept r Awake
      awake = record {
        idle = λ st to path spawned extra _ e. ap (λ (x : Own). x.waits) extra ∙ e;
        further = λ a b c h k e. k (h e);
        stepped = λ l st e. e;
        begin = λ l b st. begin_awake nest b st;
        finish = finish_awake;
      }

      pub never_waits : (p : Program) (w : Work) (st : State Own) → st.extra.waits ≡ false → (run p r w st).extra.waits ≡ false
      never_waits p w st e = run_keeps p r Awake awake w st e
