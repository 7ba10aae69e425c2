-- The depth at which results are listed makes no difference, and a result is settled hole by hole.
use Rattle.std.proofs.lemmas.Option.{none-some, same_Some}
use Rattle.std.proofs.Common.{◌≡◌, ℕ, zero, suc, ◌+◌, ◌<◌, ◌≤◌, List, [], ◌∷◌, length, Option, Some, None, refl, sym, ap}
use Rattle.std.proofs.Common.{◌∙◌, arith, add-one}
use Rattle.std.proofs.Math.Bool.{or_assoc, or-false}
use Rattle.std.specs.Prelude.{ℤ, Bool, true, false, ◌||◌, nat_eq, if◌then◌else◌}
use Rattle.std.specs.Cmp.Lexicographic.{pointwise}
use Rattle.sections.specs.Covers.{has}
use Rattle.task_run.specs.Places.{Places, meets, only, over, first_of}
use Rattle.task_run.specs.Results.{Listed, TaskResult, Settled, none_yet, fill, complete, and_then}
use Rattle.task_run.specs.Settling.{behind, take, fill_all, settle_within}
use Rattle.task_run.proofs.SettledResults.{gives, unless_none}
use Rattle.gather.specs.Parts.{Comes, opened, closed, finished, settle_one}

-- ---- options
pub and_then-assoc : {A B C : Type 0} (o : Option A) (f : A → Option B) (g : B → Option C)
    → and_then (and_then o f) g ≡ and_then o (λ x. and_then (f x) g)
and_then-assoc None f g = refl
and_then-assoc (Some x) f g = refl

pub and_then-same : {A B : Type 0} (o : Option A) (f g : A → Option B) → ((x : A) → o ≡ Some x → f x ≡ g x) → and_then o f ≡ and_then o g
and_then-same None f g h = refl
and_then-same (Some x) f g h = h x refl

abbrev pub never : {A B : Type 0} → A → Option B
never x = None

pub and_then-none : {A B : Type 0} (o : Option A) → and_then o (λ x. never {B = B} x) ≡ None
and_then-none None = refl
and_then-none (Some x) = refl

unless-same : {A : Type 0} (b : Bool) (x y : Option A) → x ≡ y → (if b then None else x) ≡ (if b then None else y)
unless-same true x y e = refl
unless-same false x y e = e

-- ---- one result fewer
pub fewer_taken : (path : List ℕ) (rs : List TaskResult) (found : TaskResult × List TaskResult) → take path rs ≡ Some found
    → length rs ≡ suc (length found.1)
fewer_taken path [] found e = absurd (none-some _ e)
fewer_taken path (r ∷ rs) found e = by_path (λ f. fewer_taken path rs f) (pointwise nat_eq r.path path) e
  where
    later : ((f : TaskResult × List TaskResult) → take path rs ≡ Some f → length rs ≡ suc (length f.1))
        → (o : Option (TaskResult × List TaskResult)) → take path rs ≡ o → behind r o ≡ Some found → length (r ∷ rs) ≡ suc (length found.1)
    later rec None w q = absurd (none-some _ q)
    later rec (Some f) w q =
        let i : (f.0, r ∷ f.1) ≡ found = same_Some _ _ q in
        ap suc (rec f w) ∙ ap (λ (f : TaskResult × List TaskResult). suc (length f.1)) i

    by_path : ((f : TaskResult × List TaskResult) → take path rs ≡ Some f → length rs ≡ suc (length f.1))
        → (b : Bool) → (if b then Some (r, rs) else behind r (take path rs)) ≡ Some found → length (r ∷ rs) ≡ suc (length found.1)
    by_path rec true q =
        let i : (r, rs) ≡ found = same_Some _ _ q in
        ap (λ (f : TaskResult × List TaskResult). suc (length f.1)) i
    by_path rec false q = later rec (take path rs) refl q

-- ---- not more results
abbrev Shrinks : (TaskResult → List TaskResult → Comes) → Type 0
Shrinks d = (r : TaskResult) (rs : List TaskResult) (x : Settled × List TaskResult) → d r rs ≡ Some x → length x.1 ≤ length rs

fill_shrinks : (d : TaskResult → List TaskResult → Comes) → Shrinks d → (owned : Places) (cs : List Listed) (s : Settled)
    (rs : List TaskResult) (x : Settled × List TaskResult) → fill_all d owned cs s rs ≡ Some x → length x.1 ≤ length rs
fill_shrinks d h owned [] s rs x e =
    let i : (s, rs) ≡ x = same_Some _ _ e in
    let k : length rs ≡ length x.1 = ap (λ (x : Settled × List TaskResult). length x.1) i in
    omega (arith, k)
fill_shrinks d h owned (c ∷ cs) s rs x e =
    let g = gives (take c.path rs) _ x (unless_none (meets owned c.windows) _ e) in
    let f = gives (d g.one.0 g.one.1) _ x g.next in
    let a = fewer_taken c.path rs g.one g.first in
    let b = h g.one.0 g.one.1 f.one f.first in
    let k = fill_shrinks d h (λ q. owned q || has c.windows q) cs (fill c f.one.0 s) f.one.1 x f.next in
    omega (arith, a, b, k)

settle_shrinks : (k : ℕ) → Shrinks (settle_within k)
settle_shrinks zero r rs x e = absurd (none-some _ e)
settle_shrinks (suc k) r rs x e =
    let g = gives (fill_all (settle_within k) r.owned r.children none_yet rs) _ x e in
    let a = fill_shrinks (settle_within k) (settle_shrinks k) r.owned r.children none_yet rs g.one g.first in
    let i : (complete r g.one.0, g.one.1) ≡ x = same_Some _ _ g.next in
    let b : length g.one.1 ≡ length x.1 = ap (λ (x : Settled × List TaskResult). length x.1) i in
    omega (arith, a, b)

-- ---- the nesting limit makes no difference if it is high enough
fill_same : (d e : TaskResult → List TaskResult → Comes) (n : ℕ) → Shrinks d
    → ((r : TaskResult) (rs : List TaskResult) → length rs < n → d r rs ≡ e r rs)
    → (owned : Places) (cs : List Listed) (s : Settled) (rs : List TaskResult) → length rs ≤ n
    → fill_all d owned cs s rs ≡ fill_all e owned cs s rs
fill_same d e n h same owned [] s rs le = refl
fill_same d e n h same owned (c ∷ cs) s rs le =
    unless-same (meets owned c.windows) _ _
    (and_then-same (take c.path rs) _ _ (λ found t.
    let a = fewer_taken c.path rs found t in
    and_then-same (d found.0 found.1) _ _ (λ child u.
    let b = h found.0 found.1 child u in
    fill_same d e n h same (λ q. owned q || has c.windows q) cs (fill c child.0 s) child.1 (omega (arith, a, b, le)))
    ∙ ap (λ (o : Comes). and_then o (λ child. fill_all e (λ q. owned q || has c.windows q) cs (fill c child.0 s) child.1))
    (same found.0 found.1 (omega (arith, a, le)))))

pub settle_same : (k j : ℕ) (r : TaskResult) (rs : List TaskResult) → length rs < k → length rs < j → settle_within k r rs ≡ settle_within j r rs
settle_same zero j r rs lt gt = absurd (omega (arith, lt))
settle_same (suc k) zero r rs lt gt = absurd (omega (arith, gt))
settle_same (suc k) (suc j) r rs lt gt =
    ap (λ (o : Comes). and_then o (λ all. Some (complete r all.0, all.1)))
    (fill_same (settle_within k) (settle_within j) (length rs) (settle_shrinks k)
    (λ x xs le. settle_same k j x xs (omega (arith, lt, le)) (omega (arith, gt, le)))
    r.owned r.children none_yet rs (omega arith))

-- ---- what the task itself has may come first
abbrev more : Places → Listed → Places
more owned c q = owned q || has c.windows q

shifted : TaskResult → Settled → Settled
shifted r s = record { stopped = r.stopped || s.stopped; contents = over s.contents r.contents; lines = s.lines; faults = s.faults }

first_of-assoc : (x y z : Option ℤ) → first_of x (first_of y z) ≡ first_of (first_of x y) z
first_of-assoc None y z = refl
first_of-assoc (Some v) y z = refl

fill-shifted : (r : TaskResult) (c : Listed) (child s : Settled) → fill c child (shifted r s) ≡ shifted r (fill c child s)
unfolding shifted
fill-shifted r c child s =
    ap (λ b. record (fill c child (shifted r s)) { stopped = b }) (or_assoc r.stopped s.stopped child.stopped)
    ∙ ap (λ f. record (shifted r (fill c child s)) { contents = f })
    (λ t q. first_of-assoc (only (has c.windows) child.contents q) (s.contents q) (r.contents q) t)

fill_all-shifted : (d : TaskResult → List TaskResult → Comes) (r : TaskResult) (owned : Places) (cs : List Listed) (s : Settled)
    (rs : List TaskResult)
    → fill_all d owned cs (shifted r s) rs ≡ and_then (fill_all d owned cs s rs) (λ all. Some (shifted r all.0, all.1))
fill_all-shifted d r owned [] s rs = refl
fill_all-shifted d r owned (c ∷ cs) s rs =
    by_test (λ u us. fill_all-shifted d r (more owned c) cs u us) (meets owned c.windows)
  where
    by_child : ((u : Settled) (us : List TaskResult) → fill_all d (more owned c) cs (shifted r u) us
        ≡ and_then (fill_all d (more owned c) cs u us) (λ all. Some (shifted r all.0, all.1)))
        → (o : Comes) → and_then o (λ child. fill_all d (more owned c) cs (fill c child.0 (shifted r s)) child.1)
        ≡ and_then (and_then o (λ child. fill_all d (more owned c) cs (fill c child.0 s) child.1)) (λ all. Some (shifted r all.0, all.1))
    by_child rest None = refl
    by_child rest (Some x) =
        ap (λ y. fill_all d (more owned c) cs y x.1) (fill-shifted r c x.0 s) ∙ rest (fill c x.0 s) x.1

    by_result : ((u : Settled) (us : List TaskResult) → fill_all d (more owned c) cs (shifted r u) us
        ≡ and_then (fill_all d (more owned c) cs u us) (λ all. Some (shifted r all.0, all.1)))
        → (o : Option (TaskResult × List TaskResult))
        → and_then o (λ found. and_then (d found.0 found.1)
        (λ child. fill_all d (more owned c) cs (fill c child.0 (shifted r s)) child.1))
        ≡ and_then (and_then o (λ found. and_then (d found.0 found.1)
        (λ child. fill_all d (more owned c) cs (fill c child.0 s) child.1)))
        (λ all. Some (shifted r all.0, all.1))
    by_result rest None = refl
    by_result rest (Some x) = by_child rest (d x.0 x.1)

    by_test : ((u : Settled) (us : List TaskResult) → fill_all d (more owned c) cs (shifted r u) us
        ≡ and_then (fill_all d (more owned c) cs u us) (λ all. Some (shifted r all.0, all.1)))
        → (b : Bool)
        → (if b then None else and_then (take c.path rs) (λ found. and_then (d found.0 found.1)
        (λ child. fill_all d (more owned c) cs (fill c child.0 (shifted r s)) child.1)))
        ≡ and_then (if b then None else and_then (take c.path rs) (λ found. and_then (d found.0 found.1)
        (λ child. fill_all d (more owned c) cs (fill c child.0 s) child.1)))
        (λ all. Some (shifted r all.0, all.1))
    by_test rest true = refl
    by_test rest false = by_result rest (take c.path rs)

opened-shifted : (r : TaskResult) → (opened r).so_far ≡ shifted r none_yet
unfolding shifted
opened-shifted r = ap (λ b. record (opened r).so_far { stopped = b }) (sym (or-false r.stopped))

-- a result is settled by filling its holes, starting from what the task itself has
pub settle_one-finished : (r : TaskResult) (rs : List TaskResult) → settle_one r rs ≡ finished (opened r) rs
unfolding shifted
settle_one-finished r rs =
    ap (λ n. settle_within n r rs) (add-one (length rs))
    ∙ ap (λ (o : Comes). and_then o (λ all. Some (complete r all.0, all.1)))
    (fill_same (settle_within (length rs)) settle_one (length rs) (settle_shrinks (length rs))
    (λ x xs le. settle_same (length rs) (length xs + 1) x xs le (omega arith)) r.owned r.children none_yet rs (omega arith))
    ∙ sym (and_then-assoc (fill_all settle_one r.owned r.children none_yet rs) (λ all. Some (shifted r all.0, all.1))
    (λ all. Some (closed (opened r) all.0, all.1)))
    ∙ ap (λ (o : Comes). and_then o (λ all. Some (closed (opened r) all.0, all.1)))
    (sym (fill_all-shifted settle_one r r.owned r.children none_yet rs))
    ∙ ap (λ y. and_then (fill_all settle_one r.owned r.children y rs) (λ all. Some (closed (opened r) all.0, all.1)))
    (sym (opened-shifted r))
