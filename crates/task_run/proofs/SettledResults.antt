-- Results of tasks that settle, in any order, give the settled result of the start.
use Rattle.std.proofs.lemmas.Option.{none-some, same_Some}
use Rattle.std.proofs.Common.{◌≡◌, ℕ, zero, suc, ◌+◌, List, [], ◌∷◌, ◌++◌, length, Option, Some, None, refl, sym, ap}
use Rattle.std.proofs.Common.{◌∙◌, subst}
use Rattle.std.proofs.lemmas.Bool.{eqb-true, and_parts}
use Rattle.std.proofs.Math.Bool.{or-false}
use Rattle.std.specs.Prelude.{ℤ, Bool, true, false, ◌||◌, nat_eq, map, slice_get, if◌then◌else◌}
use Rattle.sections.specs.Covers.{has}
use Rattle.types.specs.Code.{Codes, Program}
use Rattle.types.specs.Contents.{held_by, shown}
use Rattle.types.specs.Run.{State, Block}
use Rattle.types.specs.Outcome.{Budget, start, outcome_by, outcome}
use Rattle.effects.specs.Needs.{Needs, Provides}
use Rattle.race_checker.specs.Scope.{IsScoped}
use Rattle.race_checker.specs.Calm.{IsCalm}
use Rattle.task_run.specs.Places.{Places, meets}
use Rattle.task_run.specs.Apart.{nothing, merged, apart, apart_outcome}
use Rattle.task_run.specs.Results.{TaskResult, Settled, none_yet, fill, complete, and_then}
use Rattle.task_run.specs.OwnRun.{Start, Child, Own, at_first, result_of, begun_by, kth, beginning}
use Rattle.task_run.specs.Given.{filled, in_truth, comes_to, own, given, IsOwn, root_of, told_of}
use Rattle.task_run.specs.InPlace.{whole, IsMadeFrom, own_run, whole_run, IsMade}
use Rattle.task_run.specs.Frames.{IsBegun, IsGivenChild}
use Rattle.std.specs.Cmp.Lexicographic.{pointwise}
use Rattle.shared_lemmas.proofs.Truths.{false_true}
use Rattle.task_run.specs.Settling.{behind, take, fill_all, settle_within, none_left, settle}
use Rattle.task_run.specs.Lists.{Each}
use Rattle.task_run.proofs.Lists.{each_more}
use Rattle.task_run.proofs.Begun.{run_tells, at_first_fine}
use Rattle.task_run.proofs.OwnRunSettles.{own_settles, flow_is}
use Rattle.task_run.proofs.ApartOutcome.{settles}

-- ---- options
pub unless_none : {A : Type 0} {x : A} (b : Bool) (o : Option A) → (if b then None else o) ≡ Some x → o ≡ Some x
unless_none true o e = absurd (none-some _ e)
unless_none false o e = e

pub record Gives {A B : Type 0} (o : Option A) (go : A → Option B) (y : B) : Type 0 where
  pub one : A
  pub first : o ≡ Some one
  pub next : go one ≡ Some y

pub gives : {A B : Type 0} (o : Option A) (go : A → Option B) (y : B) → and_then o go ≡ Some y → Gives o go y
gives None go y e = absurd (none-some _ e)
gives (Some x) go y e = record { one = x; first = refl; next = e }

-- ---- a result by its path
pub paths_same : (p q : List ℕ) → pointwise nat_eq p q ≡ true → p ≡ q
paths_same [] [] e = refl
paths_same [] (k ∷ q) e = absurd (false_true e)
paths_same (j ∷ p) [] e = absurd (false_true e)
paths_same (j ∷ p) (k ∷ q) e =
    let h = and_parts (nat_eq j k) (pointwise nat_eq p q) e in
    ap (λ i. i ∷ p) (eqb-true j k h.0) ∙ ap (λ l. k ∷ l) (paths_same p q h.1)

pub record Taken (P : TaskResult → Type 0) (path : List ℕ) (found : TaskResult × List TaskResult) : Type 0 where
  pub at : found.0.path ≡ path
  pub this : P found.0
  pub others : Each P found.1

module _ (P : TaskResult → Type 0) (path : List ℕ) where
  pub taken : (rs : List TaskResult) (found : TaskResult × List TaskResult) → Each P rs → take path rs ≡ Some found → Taken P path found
  taken [] found h e = absurd (none-some _ e)
  taken (r ∷ rs) found h e = by_path (λ f. taken rs f h.1) (pointwise nat_eq r.path path) refl e
    where
      later : ((f : TaskResult × List TaskResult) → take path rs ≡ Some f → Taken P path f)
          → (o : Option (TaskResult × List TaskResult)) → take path rs ≡ o → behind r o ≡ Some found → Taken P path found
      later rec None w q = absurd (none-some _ q)
      later rec (Some f) w q =
          let t = rec f w in
          let i : (f.0, r ∷ f.1) ≡ found = same_Some _ _ q in
          subst (Taken P path) i (record { at = t.at; this = t.this; others = (h.0, t.others) })

      by_path : ((f : TaskResult × List TaskResult) → take path rs ≡ Some f → Taken P path f)
          → (b : Bool) → pointwise nat_eq r.path path ≡ b → (if b then Some (r, rs) else behind r (take path rs)) ≡ Some found → Taken P path found
      by_path rec true w q =
          let i : (r, rs) ≡ found = same_Some _ _ q in
          subst (Taken P path) i (record { at = paths_same r.path path w; this = h.0; others = h.1 })
      by_path rec false w q = later rec (take path rs) refl q

-- a settled result is the right one, and P is true of the results that are left
pub record Right (P : TaskResult → Type 0) (rest : List TaskResult) (x y : Settled) : Type 0 where
  pub same : x ≡ y
  pub others : Each P rest

pub and_then-some : {A : Type 0} (o : Option A) → and_then o (λ x. Some x) ≡ o
and_then-some None = refl
and_then-some (Some x) = refl

module _ (p : Program) (needs : Codes → Needs) (fresh : ℕ) where
  -- the k-th child of a task
  pub given_last : (path : List ℕ) (root s : Start) (k : ℕ) → given p needs fresh root path ≡ Some s
      → given p needs fresh root (path ++ k ∷ []) ≡ kth k (begun_by (own p needs fresh s).extra.actions)
  given_last [] root s k e = and_then-some _ ∙ ap (λ (s : Start). kth k (begun_by (own p needs fresh s).extra.actions)) (same_Some _ _ e)
  given_last (j ∷ path) root s k e = by_child (λ c. given_last path c s k) (kth j (begun_by (own p needs fresh root).extra.actions)) e
    where
      by_child : ((c : Start) → given p needs fresh c path ≡ Some s
          → given p needs fresh c (path ++ k ∷ []) ≡ kth k (begun_by (own p needs fresh s).extra.actions))
          → (o : Option Start) → and_then o (λ c. given p needs fresh c path) ≡ Some s
          → and_then o (λ c. given p needs fresh c (path ++ k ∷ [])) ≡ kth k (begun_by (own p needs fresh s).extra.actions)
      by_child rec None q = absurd (none-some _ q)
      by_child rec (Some c) q = rec c q

  -- the whole of a task settles to what its start comes to
  pub whole_settles : (s : Start) → complete (whole p needs fresh s) none_yet ≡ comes_to p needs fresh s
  whole_settles s =
      let all = comes_to p needs fresh s in
      ap (λ (b : Bool). record { stopped = b; contents = all.contents; lines = all.lines; faults = all.faults }) (or-false all.stopped)

  module _ (root : Start) where
    -- a start is the one given to its path
    abbrev pub IsGiven : Start → Type 0
    IsGiven s = given p needs fresh root s.path ≡ Some s

    pub begun_is_true : (s : Start) → IsGiven s → (st : State Own) (c : Child) → st.path ≡ s.path
        → ((k : ℕ) (t : Start) → slice_get (begun_by st.extra.actions) k ≡ Some t
        → slice_get (begun_by (own p needs fresh s).extra.actions) k ≡ Some t)
        → IsBegun s.nest st c → IsGivenChild p needs fresh root c
    begun_is_true s is st c path more h = record {
      listed = h.listed;
      is = ap (given p needs fresh root) (h.path ∙ ap (λ q. q ++ suc h.number ∷ []) path)
          ∙ given_last s.path root s (suc h.number) is ∙ more h.number c.start h.here;
    }

    pub lists_true : (s : Start) → IsGiven s → Each (IsGivenChild p needs fresh root) (own p needs fresh s).extra.pending
    lists_true s is =
        let end = own p needs fresh s in
        let t = run_tells s.nest needs (in_truth p needs fresh) p (Block s.body) (beginning (at_first s.owned) fresh s) in
        each_more (IsBegun s.nest end) (IsGivenChild p needs fresh root) end.extra.pending
        (λ c h. begun_is_true s is end c t.path (λ k t e. e) h)
        (t.fine (at_first_fine s.nest needs (in_truth p needs fresh) fresh s)).begun

    pub own_made : (r : TaskResult) → IsOwn p needs fresh root r → IsMade p needs fresh root r
    own_made r k s e = own_run (k s e)

    pub each_made : (rs : List TaskResult) → Each (IsOwn p needs fresh root) rs → Each (IsMade p needs fresh root) rs
    each_made rs = each_more (IsOwn p needs fresh root) (IsMade p needs fresh root) rs own_made

    -- results that are made from the starts of their paths, and of which perhaps more is known
    module _ (P : TaskResult → Type 0) (made : (r : TaskResult) → P r → IsMade p needs fresh root r) where
      pub fill_sound : (deeper : TaskResult → List TaskResult → Option (Settled × List TaskResult))
          → ((s : Start) → IsGiven s → (r : TaskResult) → IsMadeFrom p needs fresh s r → (rs : List TaskResult) → Each P rs
          → (x : Settled × List TaskResult) → deeper r rs ≡ Some x → Right P x.1 x.0 (comes_to p needs fresh s))
          → (owned : Places) (cs : List Child) (so_far : Settled) (rs : List TaskResult) → Each (IsGivenChild p needs fresh root) cs
          → Each P rs → (x : Settled × List TaskResult)
          → fill_all deeper owned (map (λ c. c.listed) cs) so_far rs ≡ Some x → Right P x.1 x.0 (filled p needs fresh cs so_far)
      fill_sound deeper h owned [] so_far rs k all x e =
          let i : (so_far, rs) ≡ x = same_Some _ _ e in
          subst (λ (x : Settled × List TaskResult). Right P x.1 x.0 so_far) i (record { same = refl; others = all })
      fill_sound deeper h owned (c ∷ cs) so_far rs k all x e =
          let g = gives (take c.listed.path rs) _ x (unless_none (meets owned c.listed.windows) _ e) in
          let t = taken P c.listed.path rs g.one all g.first in
          let f = gives (deeper g.one.0 g.one.1) _ x g.next in
          let from = made g.one.0 t.this c.start (ap (given p needs fresh root) (t.at ∙ k.0.listed) ∙ k.0.is) in
          let child = h c.start k.0.is g.one.0 from g.one.1 t.others f.one f.first in
          let others =
          fill_sound deeper h (λ q. owned q || has c.listed.windows q) cs
          (fill c.listed f.one.0 so_far) f.one.1 k.1 child.others x f.next in
          record { same = others.same ∙ ap (λ y. filled p needs fresh cs (fill c.listed y so_far)) child.same; others = others.others }

      pub settle_sound : (k : ℕ) (s : Start) → IsGiven s → (r : TaskResult) → IsMadeFrom p needs fresh s r
          → (rs : List TaskResult) → Each P rs → (x : Settled × List TaskResult)
          → settle_within k r rs ≡ Some x → Right P x.1 x.0 (comes_to p needs fresh s)
      settle_sound zero s is r m rs all x e = absurd (none-some _ e)
      settle_sound (suc k) s is r (own_run i) rs all x e =
          let end = own p needs fresh s in
          let g = gives (fill_all (settle_within k) end.extra.owned (map (λ c. c.listed) end.extra.pending) none_yet rs) _ x
          (ap (λ r. settle_within (suc k) r rs) (sym i) ∙ e) in
          let f = fill_sound (settle_within k) (settle_sound k) end.extra.owned end.extra.pending none_yet rs
          (lists_true s is) all g.one g.first in
          let q : (complete (result_of end) g.one.0, g.one.1) ≡ x = same_Some _ _ g.next in
          record {
            same = ap (λ (x : Settled × List TaskResult). x.0) (sym q) ∙ ap (complete (result_of end)) f.same ∙ own_settles p needs fresh s;
            others = subst (λ (x : Settled × List TaskResult). Each P x.1) q f.others;
          }
      settle_sound (suc k) s is r (whole_run i) rs all x e =
          let q : (complete (whole p needs fresh s) none_yet, rs) ≡ x =
          same_Some _ _ (ap (λ r. settle_within (suc k) r rs) (sym i) ∙ e) in
          record {
            same = ap (λ (x : Settled × List TaskResult). x.0) (sym q) ∙ whole_settles s;
            others = subst (λ (x : Settled × List TaskResult). Each P x.1) q all;
          }

    none_left_is : (x : Settled × List TaskResult) (y : Settled) → none_left x ≡ Some y → x.0 ≡ y
    none_left_is (s, []) y e = same_Some _ _ e
    none_left_is (s, r ∷ rs) y e = absurd (none-some _ e)

    -- the pending children of a task that was given its start, with results of tasks
    pub part_sound : (cs : List Child) → Each (IsGivenChild p needs fresh root) cs → (r : TaskResult) → r.children ≡ map (λ c. c.listed) cs
        → (rs : List TaskResult)
        → Each (IsMade p needs fresh root) rs → (x : Settled) → settle r rs ≡ Some x → x ≡ complete r (filled p needs fresh cs none_yet)
    part_sound cs k r e rs all x h = by_depth (length rs + 1) h
      where
        any : (r : TaskResult) → IsMade p needs fresh root r → IsMade p needs fresh root r
        any r m = m

        by_depth : (n : ℕ) → and_then (settle_within n r rs) none_left ≡ Some x → x ≡ complete r (filled p needs fresh cs none_yet)
        by_depth zero q = absurd (none-some _ q)
        by_depth (suc n) q =
            let g = gives (settle_within (suc n) r rs) none_left x q in
            let m = gives (fill_all (settle_within n) r.owned r.children none_yet rs) _ g.one g.first in
            let f = fill_sound (IsMade p needs fresh root) any (settle_within n) (settle_sound (IsMade p needs fresh root) any n)
            r.owned cs none_yet rs k all m.one
            (ap (λ ls. fill_all (settle_within n) r.owned ls none_yet rs) (sym e) ∙ m.first) in
            sym (none_left_is g.one x g.next)
            ∙ ap (λ (y : Settled × List TaskResult). y.0) (sym (same_Some _ _ m.next))
            ∙ ap (complete r) f.same

    -- what is made from a start
    pub made_sound : (s : Start) → IsGiven s → (r : TaskResult) → IsMadeFrom p needs fresh s r
        → (rs : List TaskResult) → Each (IsMade p needs fresh root) rs → (x : Settled)
        → settle r rs ≡ Some x → x ≡ comes_to p needs fresh s
    made_sound s is r m rs all x e =
        let g = gives (settle_within (length rs + 1) r rs) none_left x e in
        sym (none_left_is g.one x g.next)
        ∙ (settle_sound (IsMade p needs fresh root) (λ r m. m) (length rs + 1) s is r m rs all g.one g.first).same

  -- the outcome of the root's settled result is the settled outcome
  pub told_apart : (input : List (List ℤ)) (b : Budget) → fresh ≡ b.steps
      → told_of p (comes_to p needs fresh (root_of p input b.nest)) ≡ apart_outcome p needs input b
  told_apart input b e =
      ap (λ n. told_of p (comes_to p needs n (root_of p input b.nest))) e
      ∙ (let out = apart p needs b.steps b.nest (Block p.main.body) (start nothing p b.steps (held_by input)) in
      sym (ap (λ f. outcome_by f (record { arrays = shown p.arrays (merged out); lines = out.lines; faults = out.faults }))
      (flow_is p needs b.steps out.flow out.extra.stopped out.faults)))

-- results of tasks, settled in any order, give the one-thread outcome
pub settled_outcome : (p : Program) (needs : Codes → Needs) → IsScoped p → IsCalm p → Provides p needs
    → (input : List (List ℤ)) (b : Budget) (rs : List TaskResult) (x : Settled)
    → Each (IsMade p needs b.steps (root_of p input b.nest)) rs
    → settle (result_of (own p needs b.steps (root_of p input b.nest))) rs ≡ Some x
    → told_of p x ≡ outcome p input b
settled_outcome p needs scoped calm provides input b rs x all e =
    ap (told_of p)
    (made_sound p needs b.steps (root_of p input b.nest) (root_of p input b.nest) refl
    (result_of (own p needs b.steps (root_of p input b.nest))) (own_run refl) rs all x e)
    ∙ told_apart p needs b.steps input b refl
    ∙ sym (settles p needs scoped calm provides input b)
