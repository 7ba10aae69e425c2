-- The outcome of tasks apart is the one-thread outcome.
use Rattle.std.proofs.Common.{◌≡◌, ℕ, zero, suc, ◌+◌, List, [], ◌∷◌, Option, refl, sym, ap, ◌∙◌, arith}
use Rattle.std.specs.Prelude.{ℤ, Bool, true, false, ◌||◌, slice_index_or}
use Rattle.shared_lemmas.proofs.Truths.{false_true}
use Rattle.sections.specs.Place.{Place, In, nowhere}
use Rattle.types.specs.Code.{Array, Codes, Finish, Program}
use Rattle.types.specs.Contents.{Contents, held_by, shown}
use Rattle.types.specs.Run.{Flow, On, Faulted, Stopped, Block, entry}
use Rattle.types.specs.Meaning.{one_rules, one, begin_one}
use Rattle.types.specs.Outcome.{Budget, start, outcome_by, ending_of, outcome_of, outcome, whole_arrays}
use Rattle.effects.specs.Accesses.{Access}
use Rattle.effects.specs.Effects.{Pending, PendingOf, accesses}
use Rattle.effects.specs.Footprint.{Overwrites}
use Rattle.effects.specs.Needs.{Needs, Provides}
use Rattle.race_checker.specs.Scope.{Top, FitsTop, arrays_of, IsScoped}
use Rattle.race_checker.specs.Calm.{IsCalm}
use Rattle.task_run.specs.Apart.{Aside, nothing, is_stopped, merged, gather, apart, apart_outcome, begin_apart}
use Rattle.task_run.specs.Ready.{Around}
use Rattle.task_run.proofs.Windows.{not_nowhere}
use Rattle.task_run.proofs.SideBySide.{S, A, Same, Agree, same, both_stop}
use Rattle.task_run.proofs.StaysStopped.{begin_marks}
use Rattle.task_run.proofs.Simulation.{within_sim, finish_agrees, finish_ready, enter_same, begins, ReadyOf}

-- ---- the arrays share no place
pub array_here : (xs : List Array) (k a : ℕ) (q : Place) → In (slice_index_or (whole_arrays a xs) k nowhere) q → q.array ≡ a + k
array_here [] k a q i = absurd (not_nowhere q i)
array_here (x ∷ xs) zero a q i = let e = i.array in omega (arith, e)
array_here (x ∷ xs) (suc k) a q i = let e = array_here xs k (a + 1) q i in omega (arith, e)

pub arrays_fit : (p : Program) → FitsTop (arrays_of p) (entry [] (whole_arrays 0 p.arrays))
arrays_fit p j k may lt ne q a b =
    let e = array_here p.arrays j 0 q a in
    let f = array_here p.arrays k 0 q b in
    ne (omega (arith, e, f))

-- ---- the outcome of both
stopped_is : (f : Flow) → is_stopped f ≡ true → f ≡ Stopped
stopped_is Stopped e = refl
stopped_is On e = absurd (false_true e)
stopped_is Faulted e = absurd (false_true e)

or_false : (b : Bool) → (b || false) ≡ true → b ≡ true
or_false true e = refl
or_false false e = absurd (false_true e)

same_outcome : (p : Program) (x : Around) (final : Place → Type 0) (o : S) (a : A) → ((q : Place) → x.held q) → a.extra ≡ nothing
    → Agree x final o a
    → outcome_of p o ≡ outcome_of p a
same_outcome p x final o a all e (same h) =
    let contents : o.store ≡ a.store = λ t q. (h.store q (all q) ∙ ap (λ (y : Aside). over_nothing y.contents (a.store) q) e) t in
    ap (λ f. outcome_by f (ending_of p o)) h.flow
    ∙ ap (λ c. outcome_by a.flow (record { arrays = shown p.arrays c; lines = o.lines; faults = o.faults })) contents
    ∙ ap (λ ls. outcome_by a.flow (record { arrays = shown p.arrays a.store; lines = ls; faults = o.faults })) h.lines
    ∙ ap (λ fs. outcome_by a.flow (record { arrays = shown p.arrays a.store; lines = a.lines; faults = fs })) h.faults
  where
    over_nothing : Contents → Contents → Place → Option ℤ
    over_nothing c d q = merged (record a { extra = record { contents = c; stopped = false } }) q
same_outcome p x final o a all e (both_stop f y) =
    ap (λ g. outcome_by g (ending_of p o)) f
    ∙ sym (ap (λ g. outcome_by g (ending_of p a))
    (stopped_is a.flow (or_false (is_stopped a.flow) (ap (λ (z : Aside). is_stopped a.flow || z.stopped) (sym e) ∙ y))))

module _ (p : Program) (needs : Codes → Needs) (is_scoped : IsScoped p) (is_calm : IsCalm p) (provides : Provides p needs) where
  pub settles : (input : List (List ℤ)) (b : Budget) → outcome p input b ≡ apart_outcome p needs input b
  settles input b =
      same_outcome p around none left right (λ q. tt) refl
      (finish_agrees p needs around none none 0 p.main.body ready o a both one_end apart_end
      (within_sim p needs is_scoped is_calm provides (begin_one p b.steps b.nest) (begin_apart p needs b.steps b.nest)
      (begin_marks p needs b.steps b.nest)
      (begins p needs is_scoped is_calm provides b.steps b.nest) (b.steps + 1) (Block p.main.body) is_scoped.main_text _ none
      (Overwrites around.env (Pending p accesses p.main.body)) (finish_ready p needs around none none 0 p.main.body ready o a both is_scoped.main_text) o a
      (enter_same p needs around none none 0 p.main.body ready o a both)))
    where
      none : Place → Type 0
      none q = ⊥

      around : Around
      around = record {
        scope = Top (arrays_of p);
        env = entry [] (whole_arrays 0 p.arrays);
        base = held_by input;
        wrote = λ q. Unit {0};
        held = λ q. Unit {0};
      }

      o : S
      o = start tt p b.steps (held_by input)

      a : A
      a = start nothing p b.steps (held_by input)

      one_end : S
      one_end = one p b.steps b.nest (Block p.main.body) o

      apart_end : A
      apart_end = apart p needs b.steps b.nest (Block p.main.body) a

      left : S
      left = (one_rules p b.steps b.nest).leave o one_end

      right : A
      right = gather a apart_end

      -- `main` as the body of a finish, if all that it leaves pending has ended
      ready : ReadyOf p needs around none none 0 (Finish p.main.body)
      ready = record {
        fits = arrays_fit p;
        names = λ y m. elim m [ ];
        scoped = is_scoped.main;
        calm = is_calm.main;
        provided = provides.main;
        free = λ q t n. n;
        held = λ q t. tt;
        wrote = λ q t. tt;
        kept = λ q n. n;
        added = λ q t. none_pending t.among;
        turns_free = λ q t. absurd t;
        turns_held = λ q t. absurd t;
        turns_wrote = λ q t. absurd t;
        turns_added = λ q t. absurd t;
      }
        where
          none_pending : {y : Access} → PendingOf p accesses (Finish p.main.body) y → ⊥
          none_pending (PendingOf.inner i h e) = elim i [ ]

      both : Same around none o a
      both = record {
        flow = refl;
        environment = refl;
        windows = λ s i. refl;
        store = λ q h. refl;
        stays = λ q n. refl;
        lines = refl;
        faults = refl;
        steps = refl;
        path = refl;
        spawned = refl;
        alive = refl;
        out = λ q n. refl;
      }
