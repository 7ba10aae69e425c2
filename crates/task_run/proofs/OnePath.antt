-- No two tasks below a task have the same path.
use Rattle.std.proofs.lemmas.Option.{none-some}
use Rattle.std.proofs.Common.{◌≡◌, ℕ, zero, suc, ◌+◌, ◌<◌, List, [], ◌∷◌, ◌++◌, length, Option, Some, None, refl, sym}
use Rattle.std.proofs.Common.{ap, ◌∙◌, subst, arith, append_assoc}
use Rattle.std.proofs.lemmas.List.{append-nil}
use Rattle.std.specs.Prelude.{◌≢◌, Bool, true, false, flat_map, slice_get, if◌then◌else◌}
use Rattle.types.specs.Code.{Codes, Program}
use Rattle.types.specs.Run.{State, Rules, Work, Block, run}
use Rattle.types.specs.Laws.{IsKept}
use Rattle.types.proofs.Keeps.{run_keeps}
use Rattle.effects.specs.Needs.{Needs}
use Rattle.task_run.specs.Results.{TaskResult, Settled}
use Rattle.task_run.specs.OwnRun.{Start, Child, Own, EndFinish, at_first, is_waiting, result_of, child_of, begin_own}
use Rattle.task_run.specs.OwnRun.{leave_with, own_rules, begun_by, beginning}
use Rattle.task_run.specs.Given.{in_truth, own, below}
use Rattle.task_run.specs.Frames.{IsBegun, HasBegun}
use Rattle.task_run.specs.Lists.{Each, Inserted, here, later, Shuffled, none, one}
use Rattle.task_run.proofs.Lists.{each_more, each_append}
use Rattle.task_run.specs.Settling.{NoTwice}
use Rattle.task_run.proofs.Begun.{Tells, tells, begin_tells, enter_tells, run_tells, at_first_fine}

-- ---- paths
abbrev head_or : ℕ → List ℕ → ℕ
head_or d [] = d
head_or d (x ∷ xs) = x

abbrev tail_of : List ℕ → List ℕ
tail_of [] = []
tail_of (x ∷ xs) = xs

pub same_number : (base : List ℕ) (j k : ℕ) (t u : List ℕ) → base ++ suc j ∷ t ≡ base ++ suc k ∷ u → j ≡ k
same_number [] j k t u e = let h = ap (head_or 0) e in heads j k h
  where
    heads : (j k : ℕ) → suc j ≡ suc k → j ≡ k
    heads j k h = omega (arith, h)
same_number (x ∷ base) j k t u e = same_number base j k t u (ap tail_of e)

longer : (base : List ℕ) (x : ℕ) (t : List ℕ) → base ++ x ∷ t ≡ base → ⊥
longer [] x t e = absurd (empty_not e)
  where
    empty_not : x ∷ t ≡ [] → ⊥
    empty_not e = subst (λ (l : List ℕ). elim l as (λ _. Type 0) [ [] ↦ ⊥ | y ∷ (ys → h) ↦ Unit {0} ]) e tt
longer (y ∷ base) x t e = longer base x t (ap tail_of e)

get_less : {A : Type 0} (xs : List A) (k : ℕ) (x : A) → slice_get xs k ≡ Some x → k < length xs
get_less [] k x e = absurd (none-some _ e)
get_less (y ∷ xs) zero x e = omega arith
get_less (y ∷ xs) (suc k) x e = let h = get_less xs k x e in omega (arith, h)

-- ---- the children of a task
abbrev pub Once : List Child → Type 0
Once [] = Unit {0}
Once (c ∷ cs) = Each (λ d. d.start.path ≢ c.start.path) cs × Once cs

once_last : (cs : List Child) (c : Child) → Each (λ d. c.start.path ≢ d.start.path) cs → Once cs → Once (cs ++ c ∷ [])
once_last [] c h k = (tt, tt)
once_last (d ∷ cs) c h k = (each_last cs h.0 k.0, once_last cs c h.1 k.1)
  where
    each_last : (cs : List Child) → c.start.path ≢ d.start.path → Each (λ x. x.start.path ≢ d.start.path) cs
        → Each (λ x. x.start.path ≢ d.start.path) (cs ++ c ∷ [])
    each_last [] m n = (m, tt)
    each_last (x ∷ cs) m n = (n.0, each_last cs m n.1)

module _ (nest : ℕ) (needs : Codes → Needs) (close : State Own → Option Settled) where
  abbrev r : Rules Own
  r = own_rules needs nest close

  pub record Names (st to : State Own) : Type 0 where
    pub tells : Tells nest st to
    pub once : HasBegun nest st → Once st.extra.pending → Once to.extra.pending

  new_path : (n : Needs) (m : ℕ) (b : Codes) (st : State Own) → HasBegun nest st
      → Each (λ d. (child_of n m b st).start.path ≢ d.start.path) st.extra.pending
  new_path n m b st f = each_more (IsBegun nest st) _ st.extra.pending
      (λ d h e.
      let k = get_less (begun_by st.extra.actions) h.number d.start h.here in
      let c = f.counted in
      let next : st.spawned + 1 ≡ suc st.spawned = omega arith in
      let j = same_number st.path st.spawned h.number [] [] (ap (λ i. st.path ++ i ∷ []) (sym next) ∙ e ∙ h.path) in
      omega (arith, k, c, j))
      f.begun

  begin_names : (m : ℕ) → m ≡ nest → (b : Codes) (st : State Own) → Names st (begin_own needs m b st)
  begin_names zero e b st = record { tells = begin_tells nest needs close zero e b st; once = λ f o. o }
  begin_names (suc m) e b st = record {
    tells = begin_tells nest needs close (suc m) e b st;
    once = λ f o. once_last st.extra.pending (child_of (needs b) m b st) (new_path (needs b) m b st f) o;
  }

  finish_names : (l : ℕ) (st out : State Own) → Names (r.enter l st) out → Names st (r.leave st out)
  finish_names l st out h = record { tells = (tells nest needs close).finish l st out h.tells; once = λ f o. by_waiting f o (is_waiting out) }
    where
      noted : State Own
      noted = record out { extra = record out.extra { actions = out.extra.actions ++ EndFinish ∷ [] } }

      inner : HasBegun nest st → Once out.extra.pending
      inner f = h.once ((enter_tells nest needs close l st).fine f) tt

      ends : HasBegun nest st → Once st.extra.pending → (x : Option Settled) → Once (leave_with st noted x).extra.pending
      ends f o None = inner f
      ends f o (Some x) = o

      by_waiting : HasBegun nest st → Once st.extra.pending → (b : Bool)
          → Once (if b then out else leave_with st noted (close out)).extra.pending
      by_waiting f o true = inner f
      by_waiting f o false = ends f o (close out)

  pub names : IsKept r Names
  names = record {
    idle = λ st to path spawned extra x. record {
      tells = (tells nest needs close).idle st to path spawned extra x;
      once = λ f o. subst (λ (y : Own). Once y.pending) (sym extra) o;
    };
    further =
        λ a b c h k.
        record { tells = (tells nest needs close).further a b c h.tells k.tells; once = λ f o. k.once (h.tells.fine f) (h.once f o) };
    stepped = λ l st. record { tells = (tells nest needs close).stepped l st; once = λ f o. o };
    begin = λ l b st. begin_names nest refl b st;
    finish = finish_names;
  }

  pub run_once : (p : Program) (w : Work) (st : State Own) → HasBegun nest st → Once st.extra.pending → Once (run p r w st).extra.pending
  run_once p w st f o = (run_keeps p r Names names w st).once f o

-- ---- results

abbrev Apart : TaskResult → TaskResult → Type 0
Apart x y = y.path ≢ x.path

no_twice-append : (xs ys : List TaskResult) → NoTwice xs → NoTwice ys → Each (λ x. Each (Apart x) ys) xs → NoTwice (xs ++ ys)
no_twice-append [] ys h k c = k
no_twice-append (x ∷ xs) ys h k c = (each_append (Apart x) xs ys h.0 c.0, no_twice-append xs ys h.1 k c.1)

inserted_each : {A : Type 0} (P : A → Type 0) {x : A} {ys zs : List A} → Inserted x ys zs → P x → Each P ys → Each P zs
inserted_each P here h k = (h, k)
inserted_each P (later i) h k = (k.0, inserted_each P i h k.1)

pub shuffled_each : {A : Type 0} (P : A → Type 0) {xs ys : List A} → Shuffled xs ys → Each P xs → Each P ys
shuffled_each P none h = tt
shuffled_each P (one i s) h = inserted_each P i h.0 (shuffled_each P s h.1)

inserted_once : {x : TaskResult} {ys zs : List TaskResult} → Inserted x ys zs → Each (Apart x) ys → NoTwice ys → NoTwice zs
inserted_once here h k = (h, k)
inserted_once (later i) h k = (inserted_each _ i (λ e. h.0 (sym e)) k.0, inserted_once i h.1 k.1)

-- no path has two results in another order either
pub shuffled_once : {xs ys : List TaskResult} → Shuffled xs ys → NoTwice xs → NoTwice ys
shuffled_once none h = tt
shuffled_once (one i s) h = inserted_once i (shuffled_each _ s h.0) (shuffled_once s h.1)

module _ (p : Program) (needs : Codes → Needs) (fresh : ℕ) where
  -- a result of a task below another, by its path
  pub record Under (base : List ℕ) (x : TaskResult) : Type 0 where
    pub number : ℕ
    pub rest : List ℕ
    pub path : x.path ≡ base ++ suc number ∷ rest

  pub record From (base : List ℕ) (c : Child) : Type 0 where
    pub number : ℕ
    pub path : c.start.path ≡ base ++ suc number ∷ []

  -- the results of a child and of all below it
  abbrev pub results : ℕ → Child → List TaskResult
  results n c = result_of (own p needs fresh c.start) ∷ below p needs fresh n c.start

  record Extends (base : List ℕ) (x : TaskResult) : Type 0 where
    rest : List ℕ
    path : x.path ≡ base ++ rest

  pub own_path : (s : Start) → (own p needs fresh s).path ≡ s.path
  own_path s = (run_tells s.nest needs (in_truth p needs fresh) p (Block s.body) (beginning (at_first s.owned) fresh s)).path

  pub own_once : (s : Start) → Once (own p needs fresh s).extra.pending
  own_once s =
      run_once s.nest needs (in_truth p needs fresh) p (Block s.body) (beginning (at_first s.owned) fresh s)
      (at_first_fine s.nest needs (in_truth p needs fresh) fresh s) tt

  pub own_from : (s : Start) → Each (From s.path) (own p needs fresh s).extra.pending
  own_from s =
      let end = own p needs fresh s in
      let t = run_tells s.nest needs (in_truth p needs fresh) p (Block s.body) (beginning (at_first s.owned) fresh s) in
      each_more (IsBegun s.nest end) (From s.path) end.extra.pending
      (λ c h. record { number = h.number; path = h.path ∙ ap (λ q. q ++ suc h.number ∷ []) t.path })
      (t.fine (at_first_fine s.nest needs (in_truth p needs fresh) fresh s)).begun

  -- results of different children
  crossed : (base : List ℕ) (c d : Child) → From base c → From base d → d.start.path ≢ c.start.path → (x y : TaskResult)
      → Extends c.start.path x → Extends d.start.path y → Apart x y
  crossed base c d f g ne x y h k e =
      let same = same_number base g.number f.number k.rest h.rest
      (sym (append_assoc base (suc g.number ∷ []) k.rest) ∙ ap (λ q. q ++ k.rest) (sym g.path) ∙ sym k.path ∙ e ∙ h.path
      ∙ ap (λ q. q ++ h.rest) f.path ∙ append_assoc base (suc f.number ∷ []) h.rest) in
      ne (g.path ∙ ap (λ j. base ++ suc j ∷ []) same ∙ sym f.path)

  -- for each start a result with its path, and others with longer paths
  module _ (head : Start → TaskResult) (tail : Start → List TaskResult) (at : (s : Start) → (head s).path ≡ s.path)
      (under : (s : Start) → Each (Under s.path) (tail s)) where
    abbrev both : Child → List TaskResult
    both c = head c.start ∷ tail c.start

    pub all_under : (base : List ℕ) (cs : List Child) → Each (From base) cs → Each (Under base) (flat_map both cs)
    all_under base [] f = tt
    all_under base (c ∷ cs) f = (
      record { number = f.0.number; rest = []; path = at c.start ∙ f.0.path },
      each_append (Under base) (tail c.start) (flat_map both cs)
          (each_more (Under c.start.path) (Under base) (tail c.start)
          (λ x u. record {
            number = f.0.number;
            rest = suc u.number ∷ u.rest;
            path =
                u.path ∙ ap (λ q. q ++ suc u.number ∷ u.rest) f.0.path ∙ append_assoc base (suc f.0.number ∷ []) (suc u.number ∷ u.rest);
          })
          (under c.start))
          (all_under base cs f.1),
    )

    child_extends : (c : Child) → Each (Extends c.start.path) (both c)
    child_extends c = (
      record { rest = []; path = at c.start ∙ sym (append-nil c.start.path) },
      each_more (Under c.start.path) (Extends c.start.path) (tail c.start)
          (λ x u. record { rest = suc u.number ∷ u.rest; path = u.path }) (under c.start),
    )

    cross_one : (base : List ℕ) (c : Child) (x : TaskResult) → From base c → Extends c.start.path x → (cs : List Child)
        → Each (From base) cs
        → Each (λ d. d.start.path ≢ c.start.path) cs → Each (Apart x) (flat_map both cs)
    cross_one base c x f h [] g o = tt
    cross_one base c x f h (d ∷ cs) g o =
        each_append (Apart x) (both d) (flat_map both cs)
        (each_more (Extends d.start.path) (Apart x) (both d) (λ y k. crossed base c d f g.0 o.0 x y h k) (child_extends d))
        (cross_one base c x f h cs g.1 o.1)

    pub none_twice : (base : List ℕ) (cs : List Child) → Each (From base) cs → Once cs
        → ((s : Start) → NoTwice (tail s)) → NoTwice (flat_map both cs)
    none_twice base [] f o h = tt
    none_twice base (c ∷ cs) f o h =
        no_twice-append (both c) (flat_map both cs) (
          each_more (Under c.start.path) (Apart (head c.start)) (tail c.start)
              (λ x u e. longer c.start.path (suc u.number) u.rest (sym u.path ∙ e ∙ at c.start)) (under c.start),
          h c.start,
        )
        (none_twice base cs f.1 o.1 h)
        (each_more (Extends c.start.path) (λ x. Each (Apart x) (flat_map both cs)) (both c)
        (λ x k. cross_one base c x f.0 k cs f.1 o.0) (child_extends c))

  -- the result of a task's own run
  abbrev ended : Start → TaskResult
  ended s = result_of (own p needs fresh s)

  below_under : (n : ℕ) (s : Start) → Each (Under s.path) (below p needs fresh n s)
  below_under zero s = tt
  below_under (suc n) s =
      all_under ended (below p needs fresh n) own_path (below_under n) s.path (own p needs fresh s).extra.pending (own_from s)

  pub all_once : (n : ℕ) (base : List ℕ) (cs : List Child) → Each (From base) cs → Once cs
      → ((s : Start) → NoTwice (below p needs fresh n s)) → NoTwice (flat_map (results n) cs)
  all_once n base cs f o h = none_twice ended (below p needs fresh n) own_path (below_under n) base cs f o h

  -- no path has two results below a task
  pub below_once : (n : ℕ) (s : Start) → NoTwice (below p needs fresh n s)
  below_once zero s = tt
  below_once (suc n) s = all_once n s.path (own p needs fresh s).extra.pending (own_from s) (own_once s) (below_once n)
