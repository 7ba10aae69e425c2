-- The settled result of a gathering stays the same when a hole is opened, and when one is filled.
use Rattle.std.proofs.Common.{◌≡◌, List, [], ◌∷◌, ◌++◌, Option, Some, None, sym, ap, ◌∙◌}
use Rattle.std.specs.Prelude.{Bool, true, false, ◌||◌, if◌then◌else◌}
use Rattle.sections.specs.Covers.{has}
use Rattle.task_run.specs.Places.{Places}
use Rattle.task_run.specs.Results.{TaskResult, Settled, fill, and_then}
use Rattle.task_run.specs.Settling.{take, fill_all, none_left, settle}
use Rattle.task_run.proofs.SettledResults.{and_then-some}
use Rattle.gather.specs.Parts.{Part, Waiting, Comes, opened, closed, filled, comes_back_twice, settle_one, finished}
use Rattle.gather.specs.Parts.{gone_on, come, comes_to, unopened}
use Rattle.gather.proofs.Depth.{and_then-assoc, and_then-none, settle_one-finished}

-- the last one that waits continues first
come-push : (ws : List Waiting) (w : Waiting) (x : Settled × List TaskResult) → come (ws ++ w ∷ []) x ≡ and_then (gone_on w x) (come ws)
come-push [] w x = sym (and_then-some (gone_on w x))
come-push (v ∷ ws) w x = ap (λ (o : Comes). and_then o (gone_on v)) (come-push ws w x) ∙ and_then-assoc (gone_on w x) (come ws) (gone_on v)

-- the result of some that wait and one more
abbrev comes_from : List Waiting → Comes → Option Settled
comes_from ws o = and_then (and_then o (come ws)) none_left

-- ---- at the start
pub settle-opened : (r : TaskResult) (rs : List TaskResult)
    → comes_to (record { left = rs; waiting = []; part = opened r }) ≡ settle r rs
settle-opened r rs =
    ap (λ (o : Comes). and_then o none_left) (and_then-some (finished (opened r) rs) ∙ sym (settle_one-finished r rs))

-- ---- a hole is opened
module _ (w : Waiting) (rs : List TaskResult) where
  abbrev more : Places
  more q = w.part.owned q || has w.hole.windows q

  abbrev others : Settled × List TaskResult → Comes
  others y = fill_all settle_one more w.part.holes (fill w.hole y.0 w.part.so_far) y.1

  abbrev close : Settled × List TaskResult → Comes
  close y = Some (closed w.part y.0, y.1)

  abbrev next_of : Option (TaskResult × List TaskResult) → Comes
  next_of found = and_then found (λ f. and_then (settle_one f.0 f.1) others)

  opened_by : (b : Bool) (x : TaskResult) (left : List TaskResult) → take w.hole.path rs ≡ Some (x, left)
      → and_then (finished (opened x) left) (λ y. if b then None else and_then (others y) close)
      ≡ and_then (if b then None else next_of (take w.hole.path rs)) close
  opened_by true x left e = and_then-none (finished (opened x) left)
  opened_by false x left e =
      ap (λ (o : Comes). and_then o (λ y. and_then (others y) close)) (sym (settle_one-finished x left))
      ∙ sym (and_then-assoc (settle_one x left) others close)
      ∙ ap (λ found. and_then (next_of found) close) (sym e)

  pub comes_to-opened : (ws : List Waiting) (x : TaskResult) (left : List TaskResult) → take w.hole.path rs ≡ Some (x, left)
      → comes_to (record { left = left; waiting = ws ++ w ∷ []; part = opened x })
      ≡ comes_to (record { left = rs; waiting = ws; part = unopened w })
  comes_to-opened ws x left e =
      ap (λ (f : Settled × List TaskResult → Comes). and_then (and_then (finished (opened x) left) f) none_left) (λ t y. come-push ws w y t)
      ∙ ap (λ (o : Comes). and_then o none_left) (sym (and_then-assoc (finished (opened x) left) (gone_on w) (come ws)))
      ∙ ap (comes_from ws) (opened_by (comes_back_twice w) x left e)

-- ---- a hole is filled
module _ (f : Part) (rs : List TaskResult) (full : f.holes ≡ []) where
  finished-full : finished f rs ≡ Some (closed f f.so_far, rs)
  finished-full = ap (λ hs. and_then (fill_all settle_one f.owned hs f.so_far rs) (λ all. Some (closed f all.0, all.1))) full

  comes_to-last : (ws : List Waiting) (w : Waiting)
      → comes_to (record { left = rs; waiting = ws ++ w ∷ []; part = f }) ≡ comes_from ws (gone_on w (closed f f.so_far, rs))
  comes_to-last ws w =
      ap (λ (o : Comes). and_then (and_then o (come (ws ++ w ∷ []))) none_left) finished-full
      ∙ ap (λ (o : Comes). and_then o none_left) (come-push ws w (closed f f.so_far, rs))

  pub comes_to-filled : (ws : List Waiting) (w : Waiting) → comes_back_twice w ≡ false
      → comes_to (record { left = rs; waiting = ws; part = filled w (closed f f.so_far) })
      ≡ comes_to (record { left = rs; waiting = ws ++ w ∷ []; part = f })
  comes_to-filled ws w e =
      ap (λ b. comes_from ws (if b then None else finished (filled w (closed f f.so_far)) rs)) (sym e)
      ∙ sym (comes_to-last ws w)

  pub comes_to-twice : (ws : List Waiting) (w : Waiting) → comes_back_twice w ≡ true
      → comes_to (record { left = rs; waiting = ws ++ w ∷ []; part = f }) ≡ None
  comes_to-twice ws w e =
      comes_to-last ws w ∙ ap (λ b. comes_from ws (if b then None else finished (filled w (closed f f.so_far)) rs)) e
