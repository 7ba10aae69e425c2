-- The finishes of a task's actions are bracketed, and what it has pending at its end are the tasks
-- that it spawned outside of its own finishes.
use Rattle.std.proofs.Common.{◌≡◌, ℕ, zero, suc, ◌+◌, List, [], ◌∷◌, ◌++◌, Option, Some, None, refl, sym, ap, ◌∙◌}
use Rattle.std.proofs.Common.{arith, append_assoc}
use Rattle.std.proofs.lemmas.List.{append-nil, map-append}
use Rattle.std.specs.Prelude.{Bool, true, false, map, if◌then◌else◌}
use Rattle.std.proofs.lemmas.Option.{none-some, same_Some}
use Rattle.std.proofs.lemmas.Bool.{and_parts}
use Rattle.shared_lemmas.proofs.Truths.{false_true}
use Rattle.types.specs.Code.{Codes, Program}
use Rattle.types.specs.Run.{State, Rules, Work, Block, run}
use Rattle.types.specs.Laws.{IsKept}
use Rattle.types.proofs.Keeps.{run_keeps}
use Rattle.effects.specs.Needs.{Needs}
use Rattle.task_run.specs.Apart.{is_stopped}
use Rattle.task_run.specs.Results.{Settled, none_yet, complete}
use Rattle.task_run.specs.OwnRun.{Start, Child, Action, Step, Spawn, EnterFinish, EndFinish, EndTask, Own, at_first}
use Rattle.task_run.specs.OwnRun.{notes, is_waiting, result_of, child_of, begin_own, leave_with, own_rules, own_run, beginning}
use Rattle.task_run.specs.Given.{filled, in_truth, own}
use Rattle.task_run.proofs.Begun.{never_waits}
use Rattle.event_worlds.proofs.Levels.{depth, depth-append, IsLevel, level-append, same_level, flat_level}

abbrev pub start_of : Child → Start
start_of c = c.start

-- the tasks spawned at the level at which the actions start, from a point that is d finishes deep
abbrev pub direct : ℕ → List Action → List Start
direct d [] = []
direct d (Step ∷ xs) = direct d xs
direct zero (Spawn c ∷ xs) = c ∷ direct zero xs
direct (suc d) (Spawn c ∷ xs) = direct (suc d) xs
direct d (EnterFinish ∷ xs) = direct (suc d) xs
direct zero (EndFinish ∷ xs) = []
direct (suc d) (EndFinish ∷ xs) = direct d xs
direct d (EndTask ∷ xs) = []

pub direct-append : (d : ℕ) (xs ys : List Action) (e : ℕ) → depth d xs ≡ Some e → direct d (xs ++ ys) ≡ direct d xs ++ direct e ys
direct-append d [] ys e h = ap (λ n. direct n ys) (same_Some _ _ h)
direct-append d (Step ∷ xs) ys e h = direct-append d xs ys e h
direct-append zero (Spawn c ∷ xs) ys e h = ap (λ l. c ∷ l) (direct-append zero xs ys e h)
direct-append (suc d) (Spawn c ∷ xs) ys e h = direct-append (suc d) xs ys e h
direct-append d (EnterFinish ∷ xs) ys e h = direct-append (suc d) xs ys e h
direct-append zero (EndFinish ∷ xs) ys e h = absurd (none-some _ h)
direct-append (suc d) (EndFinish ∷ xs) ys e h = direct-append d xs ys e h
direct-append d (EndTask ∷ xs) ys e h = absurd (none-some _ h)

-- a state follows another
record Follows (st to : State Own) : Type 0 where
  done : List Action
  more : to.extra.actions ≡ st.extra.actions ++ done
  -- the number of finishes left open: none, unless it waits at the end of one
  rise : ℕ
  level : IsLevel done rise
  flat : to.extra.waits ≡ false → rise ≡ 0
  awake : to.extra.waits ≡ false → st.extra.waits ≡ false
  pending : to.extra.waits ≡ false → map start_of to.extra.pending ≡ map start_of st.extra.pending ++ direct 0 done
  -- nothing that is deeper is spawned at its level
  deeper : to.extra.waits ≡ false → (d : ℕ) → direct (suc d) done ≡ []

module _ (needs : Codes → Needs) (nest : ℕ) (close : State Own → Option Settled) where
  abbrev r : Rules Own
  r = own_rules needs nest close

  idle : (st to : State Own) → to.extra ≡ st.extra → Follows st to
  idle st to e = record {
    done = [];
    more = ap (λ (x : Own). x.actions) e ∙ sym (append-nil st.extra.actions);
    rise = 0;
    level = same_level;
    flat = λ h. refl;
    awake = λ h. ap (λ (x : Own). x.waits) (sym e) ∙ h;
    pending = λ h. ap (λ (x : Own). map start_of x.pending) e ∙ sym (append-nil (map start_of st.extra.pending));
    deeper = λ h d. refl;
  }

  -- after actions that don't wait, the same finishes are open as before
  at_level : (st to : State Own) (h : Follows st to) → to.extra.waits ≡ false → (d : ℕ) → depth d h.done ≡ Some d
  at_level st to h e = flat_level h.done h.rise h.level (h.flat e)

  further : (a b c : State Own) → Follows a b → Follows b c → Follows a c
  further a b c h k = record {
    done = h.done ++ k.done;
    more = k.more ∙ ap (λ l. l ++ k.done) h.more ∙ append_assoc a.extra.actions h.done k.done;
    rise = h.rise + k.rise;
    level = level-append h.done k.done h.rise k.rise h.level k.level;
    flat = λ e. (let x = h.flat (k.awake e) in let y = k.flat e in omega (arith, x, y));
    awake = λ e. h.awake (k.awake e);
    pending = λ e. k.pending e ∙ ap (λ l. l ++ direct 0 k.done) (h.pending (k.awake e)) ∙ append_assoc (map start_of a.extra.pending) (direct 0 h.done) (direct 0 k.done)
        ∙ ap (λ l. map start_of a.extra.pending ++ l) (sym (direct-append 0 h.done k.done 0 (at_level a b h (k.awake e) 0)));
    deeper = λ e d. direct-append (suc d) h.done k.done (suc d) (at_level a b h (k.awake e) (suc d))
        ∙ ap (λ l. l ++ direct (suc d) k.done) (h.deeper (k.awake e) d) ∙ k.deeper e d;
  }

  begins : (n : ℕ) (b : Codes) (st : State Own) → Follows st (begin_own needs n b st)
  begins zero b st = idle st _ refl
  begins (suc n) b st =
      let c = child_of (needs b) n b st in
      record {
        done = Spawn c.start ∷ [];
        more = refl;
        rise = 0;
        level = same_level;
        flat = λ e. refl;
        awake = λ e. e;
        pending = λ e. map-append start_of st.extra.pending (c ∷ []);
        deeper = λ e d. refl;
      }

  finishes : (l : ℕ) (st out : State Own) → Follows (r.enter l st) out → Follows st (r.leave st out)
  finishes l st out h = by_waiting (is_waiting out) refl
    where
      entered : out.extra.actions ≡ st.extra.actions ++ EnterFinish ∷ h.done
      entered = h.more ∙ append_assoc st.extra.actions (EnterFinish ∷ []) h.done

      left : (st.extra.actions ++ EnterFinish ∷ h.done) ++ EndFinish ∷ [] ≡ st.extra.actions ++ ((EnterFinish ∷ h.done) ++ EndFinish ∷ [])
      left = append_assoc st.extra.actions (EnterFinish ∷ h.done) (EndFinish ∷ [])

      inner : IsLevel (EnterFinish ∷ h.done) (suc h.rise)
      inner d = let e : h.rise + suc d ≡ suc h.rise + d = omega arith in h.level (suc d) ∙ ap Some e

      whole : IsLevel ((EnterFinish ∷ h.done) ++ EndFinish ∷ []) h.rise
      whole d =
          let e : h.rise + suc d ≡ suc (h.rise + d) = omega arith in
          depth-append (suc d) h.done (EndFinish ∷ []) (h.rise + suc d) (h.level (suc d)) ∙ ap (λ n. depth n (EndFinish ∷ [])) e

      around : out.extra.waits ≡ false → (d : ℕ) → direct d ((EnterFinish ∷ h.done) ++ EndFinish ∷ []) ≡ []
      around e d = direct-append (suc d) h.done (EndFinish ∷ []) (suc d) (at_level (r.enter l st) out h e (suc d)) ∙ ap (λ l. l ++ []) (h.deeper e d)

      ends : (s : Option Settled) → Follows st (leave_with st (record out { extra = notes EndFinish out.extra }) s)
      ends None = record {
        done = (EnterFinish ∷ h.done) ++ EndFinish ∷ [];
        more = ap (λ l. l ++ EndFinish ∷ []) entered ∙ left;
        rise = h.rise;
        level = whole;
        flat = λ e. absurd (false_true (sym e));
        awake = λ e. absurd (false_true (sym e));
        pending = λ e. absurd (false_true (sym e));
        deeper = λ e. absurd (false_true (sym e));
      }
      ends (Some x) = record {
        done = (EnterFinish ∷ h.done) ++ EndFinish ∷ [];
        more = ap (λ l. l ++ EndFinish ∷ []) entered ∙ left;
        rise = h.rise;
        level = whole;
        flat = h.flat;
        awake = h.awake;
        pending = λ e. sym (append-nil (map start_of st.extra.pending)) ∙ ap (λ l. map start_of st.extra.pending ++ l) (sym (around e 0));
        deeper = λ e d. around e (suc d);
      }

      by_waiting : (b : Bool) → is_waiting out ≡ b → Follows st (if b then out else leave_with st (record out { extra = notes EndFinish out.extra }) (close out))
      by_waiting true e =
          let w = (and_parts (is_stopped out.flow) out.extra.waits e).1 in
          record {
            done = EnterFinish ∷ h.done;
            more = entered;
            rise = suc h.rise;
            level = inner;
            flat = λ f. absurd (false_true (sym f ∙ w));
            awake = h.awake;
            pending = λ f. absurd (false_true (sym f ∙ w));
            deeper = λ f. absurd (false_true (sym f ∙ w));
          }
      by_waiting false e = ends (close out)

  follows : IsKept r Follows
  follows = record {
    idle = λ st to path spawned extra _. idle st to extra;
    further = further;
    stepped = λ l st. record {
      done = Step ∷ [];
      more = refl;
      rise = 0;
      level = same_level;
      flat = λ e. refl;
      awake = λ e. e;
      pending = λ e. sym (append-nil (map start_of st.extra.pending));
      deeper = λ e d. refl;
    };
    begin = λ l b st. begins nest b st;
    finish = finishes;
  }

  run_follows : (p : Program) (w : Work) (st : State Own) → Follows st (run p r w st)
  run_follows p w st = run_keeps p r Follows follows w st

-- the actions of the own run of a start, with any receipts
pub record IsBracketed (st : State Own) : Type 0 where
  pub rise : ℕ
  pub level : depth 0 st.extra.actions ≡ Some rise
  pub flat : st.extra.waits ≡ false → rise ≡ 0

pub bracketed : (p : Program) (needs : Codes → Needs) (fresh : ℕ) (close : State Own → Option Settled) (s : Start) → IsBracketed (own_run p needs fresh close s)
bracketed p needs fresh close s =
    let h = run_follows needs s.nest close p (Block s.body) (beginning (at_first s.owned) fresh s) in
    let e : h.rise + 0 ≡ h.rise = omega arith in
    record { rise = h.rise; level = ap (depth 0) h.more ∙ h.level 0 ∙ ap Some e; flat = h.flat }

-- what a task lists at its end
pub own_lists : (p : Program) (needs : Codes → Needs) (fresh : ℕ) (s : Start) → map start_of (own p needs fresh s).extra.pending ≡ direct 0 (own p needs fresh s).extra.actions
own_lists p needs fresh s =
    let h = run_follows needs s.nest (in_truth p needs fresh) p (Block s.body) (beginning (at_first s.owned) fresh s) in
    let awake = never_waits s.nest needs (in_truth p needs fresh) (λ st. complete (result_of st) (filled p needs fresh st.extra.pending none_yet)) (λ st. refl) p (Block s.body) (beginning (at_first s.owned) fresh s) refl in
    h.pending awake ∙ ap (direct 0) (sym h.more)
