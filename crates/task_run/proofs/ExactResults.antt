-- A settled result used up the results of all tasks below, and no others.
use Rattle.std.proofs.lemmas.Option.{none-some, same_Some}
use Rattle.std.proofs.Common.{◌≡◌, ℕ, zero, suc, ◌+◌, List, [], ◌∷◌, ◌++◌, length, Option, Some, None, refl, sym, ap}
use Rattle.std.proofs.Common.{◌∙◌, subst, append_assoc}
use Rattle.std.proofs.lemmas.List.{append-nil}
use Rattle.std.specs.Prelude.{Bool, true, false, nat_eq, ◌||◌, map, flat_map, if◌then◌else◌}
use Rattle.sections.specs.Covers.{has}
use Rattle.types.specs.Code.{Codes, Program}
use Rattle.effects.specs.Needs.{Needs}
use Rattle.task_run.specs.Places.{Places, meets}
use Rattle.task_run.specs.Results.{TaskResult, Settled, none_yet, fill}
use Rattle.task_run.specs.OwnRun.{Start, Child, result_of}
use Rattle.task_run.specs.Given.{own, given, IsOwn, below}
use Rattle.task_run.specs.InPlace.{own_run}
use Rattle.std.specs.Cmp.Lexicographic.{pointwise}
use Rattle.task_run.specs.Settling.{behind, take, fill_all, settle_within, none_left, settle}
use Rattle.task_run.specs.Lists.{Each, Inserted, here, later, Shuffled, none, one}
use Rattle.task_run.proofs.OnePath.{results}
use Rattle.task_run.proofs.SettledResults.{unless_none, gives, taken, IsGiven, own_made, settle_sound}
use Rattle.task_run.proofs.CompleteResults.{Stands, stands, lists_none}

-- a result that was taken was in the list
took : (path : List ℕ) (rs : List TaskResult) (found : TaskResult × List TaskResult) → take path rs ≡ Some found
    → Inserted found.0 found.1 rs
took path [] found e = absurd (none-some _ e)
took path (r ∷ rs) found e = by_path (λ f. took path rs f) (pointwise nat_eq r.path path) e
  where
    later_one : ((f : TaskResult × List TaskResult) → take path rs ≡ Some f → Inserted f.0 f.1 rs)
        → (o : Option (TaskResult × List TaskResult)) → take path rs ≡ o → behind r o ≡ Some found → Inserted found.0 found.1 (r ∷ rs)
    later_one rec None w q = absurd (none-some _ q)
    later_one rec (Some f) w q =
        let i : (f.0, r ∷ f.1) ≡ found = same_Some _ _ q in
        subst (λ (f : TaskResult × List TaskResult). Inserted f.0 f.1 (r ∷ rs)) i (later (rec f w))

    by_path : ((f : TaskResult × List TaskResult) → take path rs ≡ Some f → Inserted f.0 f.1 rs)
        → (b : Bool) → (if b then Some (r, rs) else behind r (take path rs)) ≡ Some found → Inserted found.0 found.1 (r ∷ rs)
    by_path rec true q = let i : (r, rs) ≡ found =
        same_Some _ _ q in subst (λ (f : TaskResult × List TaskResult). Inserted f.0 f.1 (r ∷ rs)) i here
    by_path rec false q = later_one rec (take path rs) refl q

module _ (p : Program) (needs : Codes → Needs) (fresh : ℕ) (root : Start) where
  -- these results were used up, and any others are left
  abbrev Used : List TaskResult → (rs rest : List TaskResult) → Type 0
  Used us rs rest = (ts : List TaskResult) → Shuffled ts rest → Shuffled (us ++ ts) rs

  abbrev Deep : ℕ → ℕ → Type 0
  Deep k n = (s : Start) → s.nest ≡ n → IsGiven p needs fresh root s → (rs : List TaskResult) → Each (IsOwn p needs fresh root) rs
      → (x : Settled × List TaskResult) → settle_within k (result_of (own p needs fresh s)) rs ≡ Some x
      → Used (below p needs fresh n s) rs x.1

  fill_used : (k n : ℕ) → Deep k n → (owned : Places) (cs : List Child) (so_far : Settled) (rs : List TaskResult)
      → Each (Stands p needs fresh root n) cs
      → Each (IsOwn p needs fresh root) rs → (x : Settled × List TaskResult)
      → fill_all (settle_within k) owned (map (λ c. c.listed) cs) so_far rs ≡ Some x
      → Used (flat_map (results p needs fresh n) cs) rs x.1
  fill_used k n deep owned [] so_far rs h all x e ts sh =
      let i : (so_far, rs) ≡ x = same_Some _ _ e in subst (Shuffled ts) (sym (ap (λ (x : Settled × List TaskResult). x.1) i)) sh
  fill_used k n deep owned (c ∷ cs) so_far rs h all x e ts sh =
      let g = gives (take c.listed.path rs) _ x (unless_none (meets owned c.listed.windows) _ e) in
      let t = taken (IsOwn p needs fresh root) c.listed.path rs g.one all g.first in
      let f = gives (settle_within k g.one.0 g.one.1) _ x g.next in
      let r = result_of (own p needs fresh c.start) in
      let is_own : g.one.0 ≡ r = t.this c.start (ap (given p needs fresh root) (t.at ∙ h.0.is.listed) ∙ h.0.is.is) in
      let deeper = ap (λ r. settle_within k r g.one.1) (sym is_own) ∙ f.first in
      let child = deep c.start h.0.nest h.0.is.is g.one.1 t.others f.one deeper in
      let others =
      (settle_sound p needs fresh root (IsOwn p needs fresh root) (own_made p needs fresh root) k c.start h.0.is.is r
      (own_run refl) g.one.1 t.others f.one deeper).others in
      let tail =
      fill_used k n deep (λ q. owned q || has c.listed.windows q) cs
      (fill c.listed f.one.0 so_far) f.one.1 h.1 others x f.next ts sh in
      let whole =
      one (subst (λ r. Inserted r g.one.1 rs) is_own (took c.listed.path rs g.one g.first))
      (child (flat_map (results p needs fresh n) cs ++ ts) tail) in
      subst (λ l. Shuffled (r ∷ l) rs) (sym (append_assoc (below p needs fresh n c.start) (flat_map (results p needs fresh n) cs) ts)) whole

  settle_used : (k n : ℕ) → Deep k n
  settle_used zero n s e is rs all x q = absurd (none-some _ q)
  settle_used (suc k) zero s e is rs all x q =
      let end = own p needs fresh s in
      let g = gives (fill_all (settle_within k) end.extra.owned (map (λ c. c.listed) end.extra.pending) none_yet rs) _ x q in
      let nothing : Some (none_yet, rs) ≡ Some g.one =
      ap (λ (cs : List Child). fill_all (settle_within k) end.extra.owned (map (λ c. c.listed) cs) none_yet rs)
      (sym (lists_none p needs fresh root s e)) ∙ g.first in
      let same : rs ≡ x.1 =
      ap (λ (y : Settled × List TaskResult). y.1) (same_Some _ _ nothing)
      ∙ ap (λ (y : Settled × List TaskResult). y.1) (same_Some _ _ g.next) in
      λ ts sh. subst (Shuffled ts) (sym same) sh
  settle_used (suc k) (suc n) s e is rs all x q =
      let end = own p needs fresh s in
      let g = gives (fill_all (settle_within k) end.extra.owned (map (λ c. c.listed) end.extra.pending) none_yet rs) _ x q in
      let u = fill_used k n (settle_used k n) end.extra.owned end.extra.pending none_yet rs
      (stands p needs fresh root n s e is) all g.one g.first in
      λ ts sh. u ts (subst (Shuffled ts) (sym (ap (λ (y : Settled × List TaskResult). y.1) (same_Some _ _ g.next))) sh)

  all_used : (x : Settled × List TaskResult) (y : Settled) → none_left x ≡ Some y → x.1 ≡ []
  all_used (s, []) y e = refl
  all_used (s, r ∷ rs) y e = absurd (none-some _ e)

  -- if a result settles, the results were those of all tasks below it, in some order
  pub own_exact : (s : Start) → IsGiven p needs fresh root s → (rs : List TaskResult) → Each (IsOwn p needs fresh root) rs → (x : Settled)
      → settle (result_of (own p needs fresh s)) rs ≡ Some x → Shuffled (below p needs fresh s.nest s) rs
  own_exact s is rs all x e =
      let g = gives (settle_within (length rs + 1) (result_of (own p needs fresh s)) rs) none_left x e in
      let u = settle_used (length rs + 1) s.nest s refl is rs all g.one g.first in
      subst (λ l. Shuffled l rs) (append-nil (below p needs fresh s.nest s))
      (u [] (subst (Shuffled []) (sym (all_used g.one x g.next)) none))
