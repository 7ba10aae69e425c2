-- All that a task had at its start is there once everything has come back.
use Rattle.std.proofs.Common.{◌≡◌, ℕ, zero, suc, List, [], ◌∷◌, ◌++◌, Option, Some, None, refl, sym, subst, inl, inr}
use Rattle.std.specs.Prelude.{ℤ, Bool, true, false, if◌then◌else◌}
use Rattle.std.proofs.lemmas.Bool.{or_cases}
use Rattle.shared_lemmas.proofs.Truths.{false_true}
use Rattle.sections.specs.Covers.{has}
use Rattle.sections.specs.Place.{Place}
use Rattle.types.specs.Code.{Codes, Program}
use Rattle.types.specs.Value.{Environment}
use Rattle.types.specs.Run.{State, Block, run}
use Rattle.types.specs.Contents.{IsThere, Extends}
use Rattle.types.specs.Laws.{IsKept}
use Rattle.types.proofs.Keeps.{run_keeps}
use Rattle.effects.specs.Needs.{Needs}
use Rattle.effects.proofs.Members.{in_left}
use Rattle.task_run.specs.Places.{only, written, touched, first_of}
use Rattle.task_run.specs.Apart.{Aside, nothing, merged, child_apart, apart_rules_by, begin_apart}
use Rattle.task_run.specs.Results.{Settled, fill}
use Rattle.task_run.specs.OwnRun.{Start, Child, back_from, beginning}
use Rattle.task_run.specs.Given.{filled, comes_to}
use Rattle.task_run.specs.Lists.{Each}
use Rattle.task_run.proofs.Windows.{named_some, some_named}

abbrev A : Type 0
A = State Aside

pub there_or : (u v w : Option ℤ) → (IsThere v → IsThere w) → IsThere (first_of u v) → IsThere (first_of u w)
there_or None v w f h = f h
there_or (Some x) v w f h = h

pub there_left : (u v : Option ℤ) → IsThere u → IsThere (first_of u v)
there_left None v h = absurd h
there_left (Some x) v h = h

pub there_right : (u v : Option ℤ) → IsThere v → IsThere (first_of u v)
there_right None v h = h
there_right (Some x) v h = tt

abbrev R : A → A → Type 0
R a b = Extends (merged a) (merged b)

-- each place that may be written may be touched
pub written_touched : (env : Environment) (n : Needs) (q : Place) → written env n q ≡ true → touched env n q ≡ true
written_touched env n q h =
    let i = named_some env n.writes q h in
    some_named env (n.writes ++ n.reads) i.section q (in_left n.reads i.listed) i.place

aside_there : (w : Bool) (m old mine : Option ℤ) → (w ≡ true → IsThere mine → IsThere m) → IsThere (first_of old mine)
    → IsThere (first_of (first_of (if w then m else None) old) (if w then None else mine))
aside_there true m (Some v) mine f h = there_left (first_of m (Some v)) None (there_right m (Some v) tt)
aside_there true m None mine f h = there_left (first_of m None) None (there_left m None (f refl h))
aside_there false m (Some v) mine f h = tt
aside_there false m None mine f h = h

module _ (begin : Codes → A → A) (begins : (b : Codes) (st : A) → R st (begin b st)) where
  present : IsKept (apart_rules_by begin) R
  present = record {
    idle = λ st to path spawned extra stores q h.
        subst (λ (x : Aside). IsThere (first_of (x.contents q) (to.store q))) (sym extra)
        (there_or (st.extra.contents q) (st.store q) (to.store q) (stores q) h);
    further = λ a b c h k q i. k q (h q i);
    stepped = λ l st q h. h;
    begin = λ l. begins;
    finish = λ l st out h q i. there_or (st.extra.contents q) (st.store q) (merged out q) (λ k. h q k) i;
  }

-- if only some places are kept, a number at one of them stays
pub only_there : (t : Bool) (v : Option ℤ) → t ≡ true → IsThere v → IsThere (if t then v else None)
only_there true v e h = h
only_there false v e h = absurd (false_true e)

module _ (p : Program) (needs : Codes → Needs) (fresh : ℕ) where
  begins_present : (nest : ℕ) (b : Codes) (st : A) → R st (begin_apart p needs fresh nest b st)
  begins_present zero b st q h = h
  begins_present (suc n) b st q h =
      let c = child_apart fresh (needs b) st in
      let out = run p (apart_rules_by (begin_apart p needs fresh n)) (Block b) c in
      aside_there (written st.environment (needs b) q) (merged out q) (st.extra.contents q) (st.store q)
      (λ w i. run_keeps p (apart_rules_by (begin_apart p needs fresh n)) R (present (begin_apart p needs fresh n) (begins_present n))
      (Block b) c q
      (only_there (touched st.environment (needs b) q) (st.store q) (written_touched st.environment (needs b) q w) i))
      h

  pub comes_present : (s : Start) → Extends s.contents (comes_to p needs fresh s).contents
  comes_present s q h =
      run_keeps p (apart_rules_by (begin_apart p needs fresh s.nest)) R (present (begin_apart p needs fresh s.nest) (begins_present s.nest))
      (Block s.body)
      (beginning nothing fresh s) q h

  -- what is gathered stays, and what comes back is there
  pub filled_there : (cs : List Child) (so_far : Settled) (q : Place) → IsThere (so_far.contents q)
      → IsThere ((filled p needs fresh cs so_far).contents q)
  filled_there [] so_far q h = h
  filled_there (c ∷ cs) so_far q h =
      filled_there cs (fill c.listed (comes_to p needs fresh c.start) so_far) q
      (there_right (only (has c.listed.windows) (comes_to p needs fresh c.start).contents q) (so_far.contents q) h)

  pub back_there : (cs : List Child) (so_far : Settled) (q : Place)
      → Each (λ c. (q : Place) → has c.listed.windows q ≡ true → IsThere (c.start.contents q)) cs
      → back_from cs q ≡ true → IsThere ((filled p needs fresh cs so_far).contents q)
  back_there [] so_far q h e = absurd (false_true e)
  back_there (c ∷ cs) so_far q h e =
      elim (or_cases (has c.listed.windows q) (back_from cs q) e) as
      (λ _. IsThere ((filled p needs fresh (c ∷ cs) so_far).contents q)) [
        | inl w ↦ filled_there cs (fill c.listed (comes_to p needs fresh c.start) so_far) q
            (there_left (only (has c.listed.windows) (comes_to p needs fresh c.start).contents q) (so_far.contents q)
            (only_there (has c.listed.windows q) ((comes_to p needs fresh c.start).contents q) w (comes_present c.start q (h.0 q w))))
        | inr w ↦ back_there cs (fill c.listed (comes_to p needs fresh c.start) so_far) q h.1 w
      ]
