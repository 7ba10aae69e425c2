-- Results with the same measures as all that a task has pending are exactly these, each once. So
-- they settle.
use Rattle.std.proofs.Common.{◌≡◌, ℕ, zero, suc, ◌+◌, ◌≤◌, List, [], ◌∷◌, Some, refl, sym, ap, ◌∙◌, subst, arith}
use Rattle.std.proofs.lemmas.List.Sums.{sum_by-cons}
use Rattle.std.specs.Prelude.{ℤ, Bool, true, false, nat_eq, sum_by, if◌then◌else◌}
use Rattle.std.specs.Cmp.Lexicographic.{pointwise}
use Rattle.types.specs.Code.{Codes, Program}
use Rattle.types.specs.Contents.{FitsArrays}
use Rattle.types.specs.Outcome.{Budget}
use Rattle.types.specs.Run.{State}
use Rattle.effects.specs.Sound.{IsSound}
use Rattle.effects.specs.Needs.{Needs, Provides}
use Rattle.effects.specs.Rounds.{needs_of}
use Rattle.race_checker.specs.Clash.{IsAccepted}
use Rattle.race_checker.specs.Scope.{IsScoped}
use Rattle.race_checker.specs.Calm.{IsCalm}
use Rattle.race_checker.proofs.Scoping.{is_scoped}
use Rattle.race_checker.proofs.Calming.{is_calm}
use Rattle.task_run.specs.Results.{TaskResult, Settled}
use Rattle.task_run.specs.OwnRun.{Start, Own, result_of}
use Rattle.task_run.specs.Given.{given, IsOfOwnRun, IsOwn}
use Rattle.task_run.specs.Frames.{Standing, IsBegun}
use Rattle.task_run.specs.Holds.{MayBegin}
use Rattle.task_run.specs.Lists.{Each, Inserted, here, later, Shuffled, none, one}
use Rattle.task_run.specs.Reached.{Reached}
use Rattle.task_run.specs.Runs.{root, MayStand, IsTaskResult}
use Rattle.task_run.specs.Settling.{settle, NoTwice}
use Rattle.task_run.specs.Worth.{measured, worth_by, worth, listed_worth}
use Rattle.task_run.proofs.Lists.{each_more}
use Rattle.task_run.proofs.SettledResults.{paths_same}
use Rattle.task_run.proofs.CompleteResults.{inserted_each, path_same}
use Rattle.task_run.proofs.OnePath.{From, all_once, below_once, shuffled_once}
use Rattle.task_run.proofs.TaskRuns.{lists_given}
use Rattle.task_run.proofs.HoldingTurns.{root_begins}
use Rattle.task_run.proofs.ReachedTasks.{goes, ends_own}
use Rattle.task_run.proofs.NeverStuck.{pending_results, pending_own, distinct, settles_any}
use Rattle.task_run.proofs.AcceptedPrograms.{provides_needs}
use Rattle.task_run.proofs.StartsWorth.{pending_worth, worth_lists}

-- ---- a result is found by its path
-- one, if the path is this path
at_path : List ℕ → TaskResult → ℕ
at_path path r = if pointwise nat_eq r.path path then 1 else 0

at_path_is : (path : List ℕ) (r : TaskResult) → at_path path r ≡ (if pointwise nat_eq r.path path then 1 else 0)
unfolding at_path
at_path_is path r = refl

measured-inserted : (f : TaskResult → ℕ) (x : TaskResult) (ys zs : List TaskResult) → Inserted x ys zs
    → measured f zs ≡ f x + measured f ys
measured-inserted f x ys zs here = sum_by-cons f x ys
measured-inserted f x _ _ (later {y = y} {ys = ys} {zs = zs} i) =
    let a = measured-inserted f x ys zs i in
    let b = sum_by-cons f y zs in
    let c = sum_by-cons f y ys in
    omega (arith, a, b, c)

record Picked (path : List ℕ) (zs : List TaskResult) : Type 0 where
  it : TaskResult
  others : List TaskResult
  put : Inserted it others zs
  named : it.path ≡ path

pick : (path : List ℕ) (zs : List TaskResult) → 1 ≤ measured (at_path path) zs → Picked path zs
pick path [] h = absurd (omega (arith, h))
pick path (z ∷ zs) h = by_path (pick path zs) (pointwise nat_eq z.path path) refl
  where
    by_path : (1 ≤ measured (at_path path) zs → Picked path zs) → (b : Bool) → pointwise nat_eq z.path path ≡ b → Picked path (z ∷ zs)
    by_path further true e = record { it = z; others = zs; put = here; named = paths_same z.path path e }
    by_path further false e =
        let a = sum_by-cons (at_path path) z zs in
        let b : at_path path z ≡ 0 = at_path_is path z ∙ ap (λ (b : Bool). if b then 1 else 0) e in
        let p = further (omega (arith, a, b, h)) in
        record { it = p.it; others = z ∷ p.others; put = later p.put; named = p.named }

no_more : (ys : List TaskResult) → 0 ≡ measured (λ r. 1) ys → ys ≡ []
no_more [] e = refl
no_more (y ∷ ys) e = absurd (let a = sum_by-cons (λ (r : TaskResult). 1) y ys in omega (arith, a, e))

module _ (p : Program) (needs : Codes → Needs) (fresh : ℕ) (top : Start) where
  -- results of own runs with the same measures are the same, in some order
  pub shuffled : (xs ys : List TaskResult) → Each (IsOfOwnRun p needs fresh top) xs → Each (IsOwn p needs fresh top) ys
      → ((f : TaskResult → ℕ) → measured f xs ≡ measured f ys) → Shuffled xs ys
  shuffled [] ys h k e = subst (Shuffled []) (sym (no_more ys (e (λ r. 1)))) none
  shuffled (x ∷ xs) ys h k e =
      let first : at_path x.path x ≡ 1 = at_path_is x.path x ∙ ap (λ (b : Bool). if b then 1 else 0) (path_same x.path) in
      let some = e (at_path x.path) in
      let cons = sum_by-cons (at_path x.path) x xs in
      let q = pick x.path ys (omega (arith, first, some, cons)) in
      let own_ones = inserted_each (IsOwn p needs fresh top) q.put k in
      let same : q.it ≡ x = own_ones.0 h.0.start (ap (given p needs fresh top) q.named ∙ h.0.of_path) ∙ sym h.0.is in
      one (subst (λ y. Inserted y q.others ys) same q.put)
      (shuffled xs q.others h.1 own_ones.1 (λ f. less f q.it q.others q.put same))
    where
      less : (f : TaskResult → ℕ) (it : TaskResult) (others : List TaskResult) → Inserted it others ys → it ≡ x
          → measured f xs ≡ measured f others
      less f it others i same =
          let a = e f in
          let b = measured-inserted f it others ys i in
          let c : f it ≡ f x = ap f same in
          let d = sum_by-cons f x xs in
          omega (arith, a, b, c, d)

module _ (p : Program) (needs : Codes → Needs) (scoped : IsScoped p) (calm : IsCalm p) (provided : Provides p needs) (fresh : ℕ)
    (top : Start) (named : top.path ≡ []) (may_begin : MayBegin p needs top) where
  -- at the end of a task's own run, a start is worth what has been made of it
  pub ended_worth_by : (f : TaskResult → ℕ) (s : Start) (st : State Own)
      → Reached p needs fresh top s (record { frames = []; state = st })
      → worth_by p needs fresh f s ≡ f (result_of st) + sum_by (λ c. worth_by p needs fresh f c.start) st.extra.pending
  ended_worth_by f s st r =
      worth_lists p needs fresh f s
      ∙ ap (λ (st : State Own). f (result_of st) + sum_by (λ c. worth_by p needs fresh f c.start) st.extra.pending)
      (sym (goes p needs scoped calm provided fresh top named may_begin r).task.runs)

  all_pending_once : (n : ℕ) (s : Start) (t : Standing Own) → Reached p needs fresh top s t
      → NoTwice (pending_results p needs fresh n t.state.extra.pending)
  all_pending_once zero s t r = tt
  all_pending_once (suc n) s t r =
      let k = goes p needs scoped calm provided fresh top named may_begin r in
      all_once p needs fresh n t.state.path t.state.extra.pending
      (each_more (IsBegun s.nest t.state) (From p needs fresh t.state.path) t.state.extra.pending
      (λ c h. record { number = h.number; path = h.path }) k.task.fine.begun)
      (distinct p needs scoped calm provided fresh top named may_begin r).ours (below_once p needs fresh n)

  -- in each configuration of a task, results of own runs with the measures of its pending tasks
  -- settle
  pub measured_settles_by : (s : Start) (t : Standing Own) → Reached p needs fresh top s t
      → (rs : List TaskResult) → Each (IsOwn p needs fresh top) rs
      → ((f : TaskResult → ℕ) → measured f rs ≡ sum_by (λ c. worth_by p needs fresh f c.start) t.state.extra.pending)
      → (x : Settled) × (settle (result_of t.state) rs ≡ Some x)
  measured_settles_by s t r rs all e =
      let k = goes p needs scoped calm provided fresh top named may_begin r in
      let order =
      shuffled p needs fresh top (pending_results p needs fresh s.nest t.state.extra.pending) rs
      (pending_own p needs fresh top s.nest t.state.extra.pending (lists_given p needs fresh top s t.frames t.state k.task))
      all (λ f. pending_worth p needs fresh f s.nest t.state t.state.extra.pending k.task.fine.begun ∙ sym (e f)) in
      settles_any p needs scoped calm provided fresh top named may_begin s.nest s t.frames t.state refl k.task k.holds rs order
      (shuffled_once order (all_pending_once s.nest s t r))

-- ---- sound and accepted programs, on an input that fits
module _ (p : Program) (sound : IsSound p) (accepted : IsAccepted p) (input : List (List ℤ)) (b : Budget)
    (fits : FitsArrays p.arrays input) where
  root_may_begin : MayBegin p (needs_of p) (root p input b)
  root_may_begin = root_begins p (needs_of p) (is_scoped p sound) (is_calm p sound accepted) (provides_needs p sound) input b.nest fits

  -- a task at its end has made of its start what the start is worth: its result, and what it lists
  pub ended_worth : (f : TaskResult → ℕ) (s : Start) (st : State Own) → MayStand p input b s (record { frames = []; state = st })
      → worth p b f s ≡ f (result_of st) + listed_worth p b f st.extra.pending
  ended_worth f s st r =
      ended_worth_by p (needs_of p) (is_scoped p sound) (is_calm p sound accepted) (provides_needs p sound) b.steps (root p input b) refl
      root_may_begin f s st r

  -- in each configuration, at the end of a finish or at its own, results of tasks with the measures
  -- of what it lists settle
  pub measured_settles : (s : Start) (t : Standing Own) → MayStand p input b s t
      → (rs : List TaskResult) → Each (IsTaskResult p input b) rs
      → ((f : TaskResult → ℕ) → measured f rs ≡ listed_worth p b f t.state.extra.pending)
      → (x : Settled) × (settle (result_of t.state) rs ≡ Some x)
  measured_settles s t r rs all e =
      measured_settles_by p (needs_of p) (is_scoped p sound) (is_calm p sound accepted) (provides_needs p sound) b.steps (root p input b)
      refl root_may_begin s t r rs
      (each_more (IsTaskResult p input b) (IsOwn p (needs_of p) b.steps (root p input b)) rs
      (ends_own p (needs_of p) (is_scoped p sound) (is_calm p sound accepted) (provides_needs p sound) b.steps (root p input b) refl
      root_may_begin) all)
      e
