-- If the results of all tasks below a task are there, each once and in any order, its result
-- settles.
use Rattle.std.proofs.Common.{◌≡◌, ℕ, zero, suc, ◌+◌, ◌<◌, ◌≤◌, List, [], ◌∷◌, ◌++◌, length, Option, Some, None, refl}
use Rattle.std.proofs.Common.{sym, ap, ◌∙◌, subst, arith, append_assoc, le_refl}
use Rattle.std.proofs.lemmas.Bool.{eq-eqb, and_from, or_from, or_left, or_right}
use Rattle.std.proofs.lemmas.List.{append-nil}
use Rattle.std.specs.Prelude.{◌≢◌, Bool, true, false, ◌||◌, nat_eq, map, flat_map, if◌then◌else◌}
use Rattle.sections.specs.Covers.{has, is_in}
use Rattle.sections.specs.Place.{Place, Window}
use Rattle.types.specs.Code.{Codes, Program}
use Rattle.types.specs.Run.{Block}
use Rattle.effects.specs.Needs.{Needs}
use Rattle.task_run.specs.Places.{Places, has_one, meets}
use Rattle.task_run.specs.Results.{TaskResult, Settled, none_yet, fill, complete, and_then}
use Rattle.task_run.specs.OwnRun.{Start, Child, at_first, result_of, beginning}
use Rattle.task_run.specs.Given.{filled, in_truth, comes_to, own, below}
use Rattle.task_run.specs.Frames.{IsBegun, IsGivenChild}
use Rattle.std.specs.Cmp.Lexicographic.{pointwise}
use Rattle.sections.proofs.Covering.{is_in-from}
use Rattle.task_run.specs.Settling.{behind, take, fill_all, settle_within, none_left, settle, Parted, IsParted}
use Rattle.task_run.specs.Lists.{Each, Inserted, here, later, Shuffled, none, one}
use Rattle.task_run.proofs.Lists.{each_more}
use Rattle.task_run.specs.Settling.{NoTwice}
use Rattle.task_run.proofs.Begun.{run_tells, at_first_fine}
use Rattle.task_run.proofs.OnePath.{own_path, results}
use Rattle.task_run.proofs.SettledResults.{paths_same, IsGiven, begun_is_true}
use Rattle.task_run.proofs.OwnRunSettles.{own_settles}

-- ---- shuffles
record Picked {A : Type 0} (x : A) (xs zs : List A) : Type 0 where
  others : List A
  put : Inserted x others zs
  left : Shuffled xs others

pick : {A : Type 0} {x : A} {xs zs : List A} → Shuffled (x ∷ xs) zs → Picked x xs zs
pick (one {ys = ys} i s) = record { others = ys; put = i; left = s }

length_inserted : {A : Type 0} {x : A} {ys zs : List A} → Inserted x ys zs → length zs ≡ suc (length ys)
length_inserted here = refl
length_inserted (later i) = ap suc (length_inserted i)

pub inserted_each : {A : Type 0} (P : A → Type 0) {x : A} {ys zs : List A} → Inserted x ys zs → Each P zs → P x × Each P ys
inserted_each P here h = h
inserted_each P (later i) h = let k = inserted_each P i h.1 in (k.0, (h.0, k.1))

inserted_once : {x : TaskResult} {ys zs : List TaskResult} → Inserted x ys zs → NoTwice zs → NoTwice ys
inserted_once here h = h.1
inserted_once (later i) h = ((inserted_each _ i h.0).1, inserted_once i h.1)

pub none_in : {A : Type 0} {zs : List A} → Shuffled [] zs → zs ≡ []
none_in none = refl

-- ---- the one result of a path is taken
pub path_same : (p : List ℕ) → pointwise nat_eq p p ≡ true
path_same [] = refl
path_same (k ∷ p) = and_from (nat_eq k k) (pointwise nat_eq p p) (eq-eqb k k refl) (path_same p)

passed_over : (r : TaskResult) (path : List ℕ) (o : Option (TaskResult × List TaskResult)) (rs : List TaskResult)
    (found : TaskResult × List TaskResult)
    → path ≢ r.path → o ≡ Some found → (if pointwise nat_eq r.path path then Some (r, rs) else behind r o) ≡ Some (found.0, r ∷ found.1)
passed_over r path o rs found ne e = by_path (pointwise nat_eq r.path path) refl
  where
    by_path : (b : Bool) → pointwise nat_eq r.path path ≡ b → (if b then Some (r, rs) else behind r o) ≡ Some (found.0, r ∷ found.1)
    by_path true w = absurd (ne (sym (paths_same r.path path w)))
    by_path false w = ap (behind r) e

taken_one : (t : TaskResult) (ys rs : List TaskResult) → Inserted t ys rs → NoTwice rs → take t.path rs ≡ Some (t, ys)
taken_one t ys rs here h = ap (λ b. if b then Some (t, ys) else behind t (take t.path ys)) (path_same t.path)
taken_one t ys rs (later {y = y} {ys = us} {zs = vs} i) h =
    passed_over y t.path (take t.path vs) vs (t, us) (inserted_each _ i h.0).0 (taken_one t us vs i h.1)

-- ---- places that come back
not_one : (set : Places) (w : Window) → ((q : Place) → is_in w q ≡ true → set q ≡ false) → (at n : ℕ) → w.at ≤ at
    → at + n ≡ w.at + w.length → has_one set w.array at n ≡ false
not_one set w h at zero le e = refl
not_one set w h at (suc n) le e =
    or_from (set (record { array = w.array; index = at })) (has_one set w.array (at + 1) n)
    (h (record { array = w.array; index = at })
    (is_in-from w (record { array = w.array; index = at }) (record { array = refl; low = le; high = omega (arith, e) })))
    (not_one set w h (at + 1) n (omega (arith, le)) (omega (arith, e)))

pub not_met : (set : Places) (ws : List Window) → ((q : Place) → has ws q ≡ true → set q ≡ false) → meets set ws ≡ false
not_met set [] h = refl
not_met set (w ∷ ws) h =
    or_from (has_one set w.array w.at w.length) (meets set ws)
    (not_one set w (λ q c. h q (or_left (is_in w q) (has ws q) c)) w.at w.length (le_refl w.at) refl)
    (not_met set ws (λ q c. h q (or_right (is_in w q) (has ws q) c)))

-- ---- settling
module _ (p : Program) (needs : Codes → Needs) (fresh : ℕ) (root : Start) where
  -- it settles to this, and leaves the others unused
  pub record Done (o : Option (Settled × List TaskResult)) (x : Settled) (ts rs : List TaskResult) : Type 0 where
    pub rest : List TaskResult
    pub is : o ≡ Some (x, rest)
    pub left : Shuffled ts rest
    pub once : NoTwice rest
    pub parted : Each IsParted rest
    pub fewer : length rest ≤ length rs

  -- a listed task that is given its start, with this nesting level
  pub record Stands (n : ℕ) (c : Child) : Type 0 where
    pub is : IsGivenChild p needs fresh root c
    pub nest : c.start.nest ≡ n

  -- for each start a result, and others with which it settles to what the start comes to
  module _ (head : Start → TaskResult) (tail : Start → List TaskResult) where
    abbrev both : Child → List TaskResult
    both c = head c.start ∷ tail c.start

    abbrev pub Settles : ℕ → Start → Type 0
    Settles k s = (ts rs : List TaskResult) → Shuffled (tail s ++ ts) rs → NoTwice rs
        → IsParted (head s) → Each IsParted rs → length rs < k
        → Done (settle_within k (head s) rs) (comes_to p needs fresh s) ts rs

    pub fill_with : ((s : Start) → (head s).path ≡ s.path) → (k n : ℕ)
        → ((s : Start) → s.nest ≡ n → IsGiven p needs fresh root s → Settles k s)
        → (owned : Places) (cs : List Child) (so_far : Settled) (ts rs : List TaskResult)
        → Each (Stands n) cs
        → Shuffled (flat_map both cs ++ ts) rs → NoTwice rs → Parted owned (map (λ c. c.listed) cs) → Each IsParted rs → length rs ≤ k
        → Done (fill_all (settle_within k) owned (map (λ c. c.listed) cs) so_far rs) (filled p needs fresh cs so_far) ts rs
    fill_with at k n deep owned [] so_far ts rs h s o pt ps le =
        record { rest = rs; is = refl; left = s; once = o; parted = ps; fewer = le_refl (length rs) }
    fill_with at k n deep owned (c ∷ cs) so_far ts rs h s o pt ps le =
        let r = head c.start in
        let i = pick (subst (λ l. Shuffled (r ∷ l) rs) (append_assoc (tail c.start) (flat_map both cs) ts) s) in
        let long = length_inserted i.put in
        let mine = inserted_each IsParted i.put ps in
        let more : Places = λ q. owned q || has c.listed.windows q in
        let named : r.path ≡ c.listed.path = at c.start ∙ sym h.0.is.listed in
        let take_it = ap (λ q. take q rs) (sym named) ∙ taken_one r i.others rs i.put o in
        let child =
        deep c.start h.0.nest h.0.is.is (flat_map both cs ++ ts) i.others i.left (inserted_once i.put o) mine.0 mine.1
        (omega (arith, long, le)) in
        let fewer = child.fewer in
        let others =
        fill_with at k n deep more cs
        (fill c.listed (comes_to p needs fresh c.start) so_far) ts child.rest h.1 child.left child.once pt.1 child.parted
        (omega (arith, fewer, long, le)) in
        let less = others.fewer in
        record {
          rest = others.rest;
          is =
              ap (λ b. if b then None else and_then (take c.listed.path rs)
              (λ found. and_then (settle_within k found.0 found.1)
              (λ x. fill_all (settle_within k) more (map (λ c. c.listed) cs) (fill c.listed x.0 so_far) x.1)))
              (not_met owned c.listed.windows pt.0)
              ∙ ap (λ o. and_then o
              (λ found. and_then (settle_within k found.0 found.1)
              (λ x. fill_all (settle_within k) more (map (λ c. c.listed) cs) (fill c.listed x.0 so_far) x.1))) take_it
              ∙ ap (λ o. and_then o (λ x. fill_all (settle_within k) more (map (λ c. c.listed) cs) (fill c.listed x.0 so_far) x.1)) child.is
              ∙ others.is;
          left = others.left;
          once = others.once;
          parted = others.parted;
          fewer = omega (arith, less, fewer, long);
        }

  -- the result of a task's own run
  abbrev ended : Start → TaskResult
  ended s = result_of (own p needs fresh s)

  abbrev pub Deep : ℕ → ℕ → Type 0
  Deep k n = (s : Start) → s.nest ≡ n → IsGiven p needs fresh root s → Settles ended (below p needs fresh n) k s

  pub fill_complete : (k n : ℕ) → Deep k n → (owned : Places) (cs : List Child) (so_far : Settled) (ts rs : List TaskResult)
      → Each (Stands n) cs
      → Shuffled (flat_map (results p needs fresh n) cs ++ ts) rs → NoTwice rs → Parted owned (map (λ c. c.listed) cs) → Each IsParted rs → length rs ≤ k
      → Done (fill_all (settle_within k) owned (map (λ c. c.listed) cs) so_far rs) (filled p needs fresh cs so_far) ts rs
  fill_complete k n deep owned cs so_far ts rs h s o pt ps le =
      fill_with ended (below p needs fresh n) (own_path p needs fresh) k n deep owned cs so_far ts rs h s o pt ps le

  pub stands : (n : ℕ) (s : Start) → s.nest ≡ suc n → IsGiven p needs fresh root s → Each (Stands n) (own p needs fresh s).extra.pending
  stands n s e is =
      let end = own p needs fresh s in
      let t = run_tells s.nest needs (in_truth p needs fresh) p (Block s.body) (beginning (at_first s.owned) fresh s) in
      each_more (IsBegun s.nest end) (Stands n) end.extra.pending
      (λ c h. record {
        is = begun_is_true p needs fresh root s is end c t.path (λ k t e. e) h;
        nest = let d =
            h.deeper in omega (arith, d, e);
      })
      (t.fine (at_first_fine s.nest needs (in_truth p needs fresh) fresh s)).begun

  -- without a nesting level a task lists no child
  pub lists_none : (s : Start) → s.nest ≡ zero → (own p needs fresh s).extra.pending ≡ []
  lists_none s e =
      let t = run_tells s.nest needs (in_truth p needs fresh) p (Block s.body) (beginning (at_first s.owned) fresh s) in
      empty_of (own p needs fresh s).extra.pending (t.fine (at_first_fine s.nest needs (in_truth p needs fresh) fresh s)).begun
    where
      empty_of : (cs : List Child) → Each (IsBegun s.nest (own p needs fresh s)) cs → cs ≡ []
      empty_of [] h = refl
      empty_of (c ∷ cs) h = absurd (let d = h.0.deeper in omega (arith, d, e))

  pub settle_complete : (k n : ℕ) → Deep k n
  settle_complete zero n s e is ts rs sh o pt ps lt = absurd (omega (arith, lt))
  settle_complete (suc k) zero s e is ts rs sh o pt ps lt =
      let end = own p needs fresh s in
      record {
        rest = rs;
        is =
            ap (λ (cs : List Child). and_then (fill_all (settle_within k) end.extra.owned (map (λ c. c.listed) cs) none_yet rs)
            (λ all. Some (complete (result_of end) all.0, all.1))) (lists_none s e)
            ∙ ap (λ x. Some (x, rs))
            (ap (λ (cs : List Child). complete (result_of end) (filled p needs fresh cs none_yet)) (sym (lists_none s e))
            ∙ own_settles p needs fresh s);
        left = sh;
        once = o;
        parted = ps;
        fewer = le_refl (length rs);
      }
  settle_complete (suc k) (suc n) s e is ts rs sh o pt ps lt =
      let end = own p needs fresh s in
      let f = fill_complete k n (settle_complete k n) end.extra.owned end.extra.pending none_yet ts rs (stands n s e is) sh o pt ps
      (omega (arith, lt)) in
      record {
        rest = f.rest;
        is =
            ap (λ o. and_then o (λ all. Some (complete (result_of end) all.0, all.1))) f.is
            ∙ ap (λ x. Some (x, f.rest)) (own_settles p needs fresh s);
        left = f.left;
        once = f.once;
        parted = f.parted;
        fewer = f.fewer;
      }

  -- the result of a task's own run settles to the settled result of its start
  pub own_complete : (s : Start) → IsGiven p needs fresh root s → (rs : List TaskResult) → Shuffled (below p needs fresh s.nest s) rs
      → NoTwice rs
      → IsParted (result_of (own p needs fresh s)) → Each IsParted rs
      → settle (result_of (own p needs fresh s)) rs ≡ Some (comes_to p needs fresh s)
  own_complete s is rs sh o pt ps =
      let d = settle_complete (length rs + 1) s.nest s refl is [] rs
      (subst (λ l. Shuffled l rs) (sym (append-nil (below p needs fresh s.nest s))) sh) o pt ps (omega arith) in
      ap (λ o. and_then o none_left) d.is ∙ ap (λ rest. none_left (comes_to p needs fresh s, rest)) (none_in d.left)
