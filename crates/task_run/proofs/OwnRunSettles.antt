-- An own run with its holes filled is the settled meaning.
use Rattle.std.proofs.Common.{◌≡◌, ℕ, zero, suc, ◌+◌, List, [], ◌∷◌, ◌++◌, refl, sym, ap, ◌∙◌, inl, inr, append_assoc}
use Rattle.std.proofs.lemmas.List.{append-nil}
use Rattle.std.specs.Prelude.{◌⊎◌, Bool, true, false, ◌&&◌, ◌||◌, if◌then◌else◌}
use Rattle.std.proofs.lemmas.Bool.{and_parts}
use Rattle.shared_lemmas.proofs.Truths.{false_true}
use Rattle.types.specs.Code.{Codes, Program}
use Rattle.types.specs.Run.{Flow, On, Faulted, Stopped, Fault, State, Rules, Work, Block, run}
use Rattle.types.specs.Meaning.{after_finish}
use Rattle.types.proofs.Views.{View, viewed, same_told, Follows, IsView, within_follows}
use Rattle.effects.specs.Needs.{Needs}
use Rattle.task_run.specs.Apart.{Aside, is_stopped, stops_anywhere, merged, gather, apart_rules, begin_apart, apart}
use Rattle.task_run.specs.Results.{Settled, none_yet, fill, complete}
use Rattle.task_run.specs.OwnRun.{Start, Child, Own, EndFinish, at_first, notes, is_waiting, result_of, child_of}
use Rattle.task_run.specs.OwnRun.{list_child, begin_own, go_on_with, leave_with, own_rules, beginning}
use Rattle.task_run.specs.Given.{filled, in_truth, comes_to, own}
use Rattle.task_run.proofs.Begun.{never_waits}

abbrev A : Type 0
A = State Aside

module _ (p : Program) (needs : Codes → Needs) (fresh : ℕ) where
  -- the real settled results of the listed children, over nothing
  abbrev come : Own → Settled
  come x = filled p needs fresh x.pending none_yet

  abbrev settling : View (Unit {0}) Own Aside
  settling = record {
    lines = λ u x. (come x).lines;
    faults = λ u x. (come x).faults;
    steps = λ u n. n;
    extra = λ u x. record { contents = (come x).contents; stopped = (come x).stopped };
  }

  -- with the real settled results of the children that it lists
  abbrev pub settled : Unit {0} → State Own → A
  settled = viewed settling

  abbrev IsLost : State Own → Type 0
  IsLost st = is_waiting st ≡ true

  filled_last : (cs : List Child) (c : Child) (g : Settled)
      → filled p needs fresh (cs ++ c ∷ []) g ≡ fill c.listed (comes_to p needs fresh c.start) (filled p needs fresh cs g)
  filled_last [] c g = refl
  filled_last (d ∷ cs) c g = filled_last cs c (fill d.listed (comes_to p needs fresh d.start) g)

  pub flow_is : (f : Flow) (h : Bool) (fs : List Fault)
      → (if is_stopped f || h then Stopped else after_finish f fs) ≡ (if is_stopped f || h then Stopped else after_finish On fs)
  flow_is On h fs = refl
  flow_is Faulted h [] = refl
  flow_is Faulted h (f ∷ fs) = refl
  flow_is Stopped h fs = refl

  -- what waits is stopped
  lost_stops : (st : State Own) → IsLost st → st.flow ≡ Stopped
  lost_stops st e = by_flow st.flow (and_parts (is_stopped st.flow) st.extra.waits e).0
    where
      by_flow : (f : Flow) → is_stopped f ≡ true → f ≡ Stopped
      by_flow On y = absurd (false_true y)
      by_flow Faulted y = absurd (false_true y)
      by_flow Stopped y = refl

  module _ (nest : ℕ) where
    abbrev r : Rules Own
    r = own_rules needs nest (in_truth p needs fresh)

    abbrev s : Rules Aside
    s = apart_rules p needs fresh nest

    leave_settled : (st out : State Own) → gather (settled tt st) (settled tt out)
        ≡ settled tt
        (go_on_with st (record out { extra = notes EndFinish out.extra })
        (complete (result_of out) (filled p needs fresh out.extra.pending none_yet)))
    leave_settled st out =
        let g = filled p needs fresh st.extra.pending none_yet in
        let v = settled tt out in
        ap {B = A} (λ f. record (gather (settled tt st) v) { flow = f }) (flow_is out.flow v.extra.stopped v.faults)
        ∙ same_told (record (gather (settled tt st) v) { flow = if stops_anywhere v then Stopped else after_finish On v.faults }) _ _ _ _
        (append_assoc g.lines st.lines v.lines) (append_assoc g.faults st.faults v.faults)

    begin_settled : (n : ℕ) (b : Codes) (st : State Own)
        → begin_apart p needs fresh n b (settled tt st) ≡ settled tt (begin_own needs n b st)
    begin_settled zero b st = refl
    begin_settled (suc n) b st =
        let c = child_of (needs b) n b st in
        sym (ap {B = A} (λ g. record (settled tt (list_child (needs b) n b st)) {
          lines = g.lines ++ [];
          faults = g.faults ++ [];
          extra = record { contents = g.contents; stopped = g.stopped };
        })
        (filled_last st.extra.pending c none_yet)
        ∙ same_told (begin_apart p needs fresh (suc n) b (settled tt st)) _ _ _ _ (append-nil _) (append-nil _))

    view : IsView settling IsLost r s
    view = record {
      out_of_steps = λ u st. inr refl;
      one_less = λ u n. refl;
      stepped = λ u l st. refl;
      begin = λ l b u st. inr (begin_settled nest b st);
      finish = finish_settled;
      earlier = earlier_settled;
      stops = lost_stops;
      lost_moved = λ st env e. e;
    }
      where
        -- a finish that doesn't wait lists the earlier children again
        earlier_settled : (u : Unit {0}) (l : ℕ) (go : State Own → State Own) (st : State Own) → let out = r.leave st (go (r.enter l st)) in
            IsLost out ⊎ ((come out.extra).faults ≡ (come st.extra).faults)
        earlier_settled u l go st = by_waiting (is_waiting out) refl
          where
            out : State Own
            out = go (r.enter l st)

            left : State Own
            left = leave_with st (record out { extra = notes EndFinish out.extra }) (in_truth p needs fresh out)

            by_waiting : (b : Bool) → is_waiting out ≡ b
                → IsLost (if b then out else left) ⊎ ((come (if b then out else left).extra).faults ≡ (come st.extra).faults)
            by_waiting true w = inl w
            by_waiting false w = inr refl

        finish_settled : (l : ℕ) (go : State Own → State Own) (to : A → A) → Follows settling IsLost go to
            → Follows settling IsLost (λ st. r.leave st (go (r.enter l st))) (λ st. s.leave st (to (s.enter l st)))
        finish_settled l go to h u st = by_body (h u (r.enter l st))
          where
            out : State Own
            out = go (r.enter l st)

            left : State Own
            left = leave_with st (record out { extra = notes EndFinish out.extra }) (in_truth p needs fresh out)

            by_waiting : (b : Bool) → is_waiting out ≡ b → to (s.enter l (settled u st)) ≡ settled u out
                → IsLost (if b then out else left)
                ⊎ (s.leave (settled u st) (to (s.enter l (settled u st))) ≡ settled u (if b then out else left))
            by_waiting true w e = inl w
            by_waiting false w e = inr (ap (gather (settled u st)) e ∙ leave_settled st out)

            lost_out : (b : Bool) → is_waiting out ≡ b → IsLost out → IsLost (if b then out else left)
            lost_out true w e = e
            lost_out false w e = absurd (false_true (sym w ∙ e))

            by_body : IsLost out ⊎ (to (s.enter l (settled u st)) ≡ settled u out)
                → IsLost (r.leave st out) ⊎ (s.leave (settled u st) (to (s.enter l (settled u st))) ≡ settled u (r.leave st out))
            by_body (inl e) = inl (lost_out (is_waiting out) refl e)
            by_body (inr e) = by_waiting (is_waiting out) refl e

    -- an own run from a configuration in which nothing waits
    pub run_settles : (w : Work) (st : State Own) → st.extra.waits ≡ false
        → apart p needs fresh nest w (settled tt st) ≡ settled tt (run p r w st)
    run_settles w st e = surely (within_follows p r s settling IsLost view (st.steps + 1) w tt st)
      where
        out : State Own
        out = run p r w st

        awake : out.extra.waits ≡ false
        awake = never_waits nest needs (in_truth p needs fresh)
            (λ st. complete (result_of st) (filled p needs fresh st.extra.pending none_yet)) (λ st. refl) p w st e

        asleep : (f : Bool) (w : Bool) → (f && w) ≡ true → w ≡ false → ⊥
        asleep f w y n = false_true (sym n ∙ (and_parts f w y).1)

        surely : IsLost out ⊎ (apart p needs fresh nest w (settled tt st) ≡ settled tt out)
            → apart p needs fresh nest w (settled tt st) ≡ settled tt out
        surely (inl l) = absurd (asleep (is_stopped out.flow) out.extra.waits l awake)
        surely (inr e) = e

  -- a task's own run, with the settled results of its children, is the settled result of its start
  pub own_settles : (s : Start) → complete (result_of (own p needs fresh s))
      (filled p needs fresh (own p needs fresh s).extra.pending none_yet) ≡ comes_to p needs fresh s
  own_settles s =
      ap (λ (a : A). let t : Settled = record { stopped = stops_anywhere a; contents = merged a; lines = a.lines; faults = a.faults } in t)
      (sym (run_settles s.nest (Block s.body) (beginning (at_first s.owned) fresh s) refl))
