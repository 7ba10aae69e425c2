-- All that is listed is still given back.
use Rattle.std.proofs.Common.{◌≡◌, ℕ, List, [], ◌∷◌, ◌++◌, Some, refl, sym, ap, ◌∙◌}
use Rattle.std.proofs.Math.Bool.{or_assoc, or-false}
use Rattle.std.specs.Prelude.{◌||◌, nat_eq}
use Rattle.std.specs.Cmp.Lexicographic.{pointwise}
use Rattle.sections.specs.Covers.{has}
use Rattle.sections.specs.Place.{Place}
use Rattle.task_run.specs.Places.{Places}
use Rattle.task_run.specs.Results.{Listed, TaskResult, Settled, returned}
use Rattle.task_run.specs.Settling.{take}
use Rattle.task_run.specs.Lists.{Each}
use Rattle.task_run.proofs.Lists.{each_more, each_last}
use Rattle.task_run.proofs.SettledResults.{taken}
use Rattle.task_run.proofs.CompleteResults.{path_same}
use Rattle.gather.specs.GivesBack.{all_owned, GivesBack, AreGivenBack}
use Rattle.gather.specs.Parts.{Part, Waiting, opened, filled, unopened, owned_in_all, total, Fit, IsWhole}

pub each_end : {A : Type 0} (P : A → Type 0) (xs : List A) (x : A) → Each P (xs ++ x ∷ []) → Each P xs × P x
each_end P [] x h = (tt, h.0)
each_end P (y ∷ xs) x h = let k = each_end P xs x h.1 in ((h.0, k.0), k.1)

-- ---- all owned places
pub total-push : (ws : List Waiting) (w : Waiting) (f : Part) → total (ws ++ w ∷ []) f ≡ total ws (unopened w)
total-push [] w f = refl
total-push (v ∷ ws) w f = refl

total-same : (ws : List Waiting) (f g : Part) → ((q : Place) → owned_in_all f q ≡ owned_in_all g q) → (q : Place) → total ws f q ≡ total ws g q
total-same [] f g h q = h q
total-same (v ∷ ws) f g h q = refl

owned-filled : (w : Waiting) (child : Settled) (q : Place) → owned_in_all (filled w child) q ≡ owned_in_all (unopened w) q
owned-filled w child q = or_assoc (w.part.owned q) (has w.hole.windows q) (returned w.part.holes q)

pub total-filled : (ws : List Waiting) (w : Waiting) (f : Part) (child : Settled) (q : Place)
    → total ws (filled w child) q ≡ total (ws ++ w ∷ []) f q
total-filled ws w f child q =
    total-same ws (filled w child) (unopened w) (owned-filled w child) q ∙ ap (λ (set : Places). set q) (sym (total-push ws w f))

pub owned-full : (f : Part) → f.holes ≡ [] → (q : Place) → owned_in_all f q ≡ f.owned q
owned-full f e q = ap (λ hs. f.owned q || returned hs q) e ∙ or-false (f.owned q)

-- ---- what goes into a hole is what is listed there
Fit-push : (ws : List Waiting) (w : Waiting) (f : Part) → Fit ws (unopened w) → ((q : Place) → owned_in_all f q ≡ has w.hole.windows q)
    → Fit (ws ++ w ∷ []) f
Fit-push [] w f h k = (k, tt)
Fit-push (v ∷ ws) w f h k = (λ q. ap (λ (set : Places). set q) (total-push ws w f) ∙ h.0 q, Fit-push ws w f h.1 k)

pub Fit-last : (ws : List Waiting) (w : Waiting) (f : Part) → Fit (ws ++ w ∷ []) f → (q : Place) → owned_in_all f q ≡ has w.hole.windows q
Fit-last [] w f h = h.0
Fit-last (v ∷ ws) w f h = Fit-last ws w f h.1

Fit-filled : (ws : List Waiting) (w : Waiting) (f : Part) (child : Settled) → Fit (ws ++ w ∷ []) f → Fit ws (filled w child)
Fit-filled [] w f child h = tt
Fit-filled (v ∷ ws) w f child h = (λ q. total-filled ws w f child q ∙ h.0 q, Fit-filled ws w f child h.1)

-- ---- a result is taken out
module _ (path : List ℕ) (rs left : List TaskResult) (x : TaskResult) (e : take path rs ≡ Some (x, left)) where
  fewer_given : (cs : List Listed) → AreGivenBack rs cs → AreGivenBack left cs
  fewer_given cs h = each_more _ _ cs (λ c k. (taken (GivesBack c) path rs (x, left) k e).others) h

  given_by : (c : Listed) → c.path ≡ path → Each (GivesBack c) rs → (q : Place) → all_owned x q ≡ has c.windows q
  given_by c same h =
      let t = taken (GivesBack c) path rs (x, left) h e in
      t.this (ap (λ p. pointwise nat_eq p c.path) (t.at ∙ sym same) ∙ path_same c.path)

  pub whole-opened : (ws : List Waiting) (w : Waiting) → w.hole.path ≡ path
      → IsWhole (record { left = rs; waiting = ws; part = unopened w })
      → IsWhole (record { left = left; waiting = ws ++ w ∷ []; part = opened x })
  whole-opened ws w same h =
      let t = taken (λ y. AreGivenBack rs y.children) path rs (x, left) h.results e in
      record {
        fit = Fit-push ws w (opened x) h.fit (given_by w.hole same h.holes.0);
        holes = fewer_given x.children t.this;
        waiting = each_last _ ws w (each_more _ _ ws (λ v k. fewer_given v.part.holes k) h.waiting) (fewer_given w.part.holes h.holes.1);
        results = each_more _ _ left (λ y k. fewer_given y.children k) t.others;
      }

-- ---- a hole is filled
pub whole-filled : (rs : List TaskResult) (ws : List Waiting) (w : Waiting) (f : Part) (child : Settled)
    → IsWhole (record { left = rs; waiting = ws ++ w ∷ []; part = f })
    → IsWhole (record { left = rs; waiting = ws; part = filled w child })
whole-filled rs ws w f child h =
    let k = each_end (λ (w : Waiting). AreGivenBack rs w.part.holes) ws w h.waiting in
    record {
      fit = Fit-filled ws w f child h.fit;
      holes = k.1;
      waiting = k.0;
      results = h.results;
    }
