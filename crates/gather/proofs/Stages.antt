-- Iterations of a stage.
use Rattle.std.proofs.Common.{◌≡◌, ℕ, List, [], ◌∷◌, ◌++◌, Some, refl, sym, ap, ◌∙◌, subst}
use Rattle.std.specs.Prelude.{false}
use Rattle.sections.specs.Covers.{has}
use Rattle.sections.specs.Place.{Place}
use Rattle.task_run.specs.Places.{Places}
use Rattle.task_run.specs.Results.{TaskResult}
use Rattle.task_run.specs.Settling.{take, settle}
use Rattle.gather.specs.GivesBack.{GiveBack, all_owned}
use Rattle.gather.specs.Parts.{Part, Waiting, Gathering, opened, closed, filled, unopened, comes_back_twice, comes_to, IsWhole}
use Rattle.gather.specs.PartRefusal.{RefusesHole}
use Rattle.gather.specs.Refusal.{Refuses}
use Rattle.gather.specs.Stages.{Leads, owned_in_end}
use Rattle.gather.specs.declared.error.GatherError.{GatherError}
use Rattle.gather.specs.declared.error.GatherError.TheVariants.{Lost, Double, Stranger, OutOfMemory}
use Rattle.gather.proofs.Turns.{settle-opened, comes_to-opened, comes_to-filled, comes_to-twice}
use Rattle.gather.proofs.Wholes.{total-push, total-filled, owned-full, Fit-last, whole-opened, whole-filled}

-- one after the other
pub leads-both : (g h i : Gathering) → Leads g h → Leads h i → Leads g i
leads-both g h i first second = record {
  comes = second.comes ∙ first.comes;
  owned = λ q. second.owned q ∙ first.owned q;
  whole = λ w. second.whole (first.whole w);
}

-- a hole was opened
pub leads-opened : (rs left : List TaskResult) (ws vs : List Waiting) (w : Waiting) (x : TaskResult) (f : Part) (path : List ℕ)
    → w.hole.path ≡ path → take path rs ≡ Some (x, left) → vs ≡ ws ++ w ∷ [] → f ≡ opened x
    → Leads (record { left = rs; waiting = ws; part = unopened w }) (record { left = left; waiting = vs; part = f })
leads-opened rs left ws vs w x f path same e pushed is =
    let there : take w.hole.path rs ≡ Some (x, left) = ap (λ p. take p rs) same ∙ e in
    let from : Gathering = record { left = rs; waiting = ws; part = unopened w } in
    subst (λ (vs : List Waiting). Leads from (record { left = left; waiting = vs; part = f })) (sym pushed)
    (subst (λ (f : Part). Leads from (record { left = left; waiting = ws ++ w ∷ []; part = f })) (sym is)
    (record {
      comes = comes_to-opened w rs ws x left there;
      owned = λ q. ap (λ (set : Places). set q) (total-push ws w (opened x));
      whole = whole-opened path rs left x e ws w same;
    }))

-- a hole was filled
pub leads-filled : (rs : List TaskResult) (ws vs : List Waiting) (w : Waiting) (f g : Part) → f.holes ≡ []
    → vs ≡ ws ++ w ∷ [] → comes_back_twice w ≡ false → g ≡ filled w (closed f f.so_far)
    → Leads (record { left = rs; waiting = vs; part = f }) (record { left = rs; waiting = ws; part = g })
leads-filled rs ws vs w f g full popped once is =
    subst (λ (g : Part). Leads (record { left = rs; waiting = vs; part = f }) (record { left = rs; waiting = ws; part = g })) (sym is)
    (subst (λ (vs : List Waiting). Leads (record { left = rs; waiting = vs; part = f })
    (record { left = rs; waiting = ws; part = filled w (closed f f.so_far) })) (sym popped)
    (record {
      comes = comes_to-filled f rs full ws w once;
      owned = total-filled ws w f (closed f f.so_far);
      whole = whole-filled rs ws w f (closed f f.so_far);
    }))

pub twice-none : (rs : List TaskResult) (ws vs : List Waiting) (w : Waiting) (f : Part) (e : GatherError) → f.holes ≡ []
    → vs ≡ ws ++ w ∷ [] → RefusesHole w e → Refuses (comes_to (record { left = rs; waiting = vs; part = f })) e
twice-none rs ws vs w f OutOfMemory full popped h = tt
twice-none rs ws vs w f (Lost path) full popped h = absurd h
twice-none rs ws vs w f (Double path) full popped h =
    ap (λ (vs : List Waiting). comes_to (record { left = rs; waiting = vs; part = f })) popped ∙ comes_to-twice f rs full ws w h.1
twice-none rs ws vs w f (Stranger path) full popped h = absurd h

-- what goes into a hole is what is listed there
pub back-fits : (rs : List TaskResult) (ws vs : List Waiting) (w : Waiting) (f : Part) (o : Places) → f.holes ≡ []
    → vs ≡ ws ++ w ∷ [] → o ≡ f.owned → IsWhole (record { left = rs; waiting = vs; part = f })
    → (q : Place) → o q ≡ has w.hole.windows q
back-fits rs ws vs w f o full popped same h q =
    ap (λ (set : Places). set q) same
    ∙ sym (owned-full f full q)
    ∙ Fit-last ws w f (subst (λ (vs : List Waiting). IsWhole (record { left = rs; waiting = vs; part = f })) popped h).fit q

-- the first stage
pub record Starts (r : TaskResult) (rs : List TaskResult) (g : Gathering) : Type 0 where
  pub comes : comes_to g ≡ settle r rs
  pub owned : (q : Place) → owned_in_end g q ≡ all_owned r q
  pub whole : GiveBack r rs → IsWhole g

pub starts : (r : TaskResult) (rs left : List TaskResult) (ws : List Waiting) (f : Part) → left ≡ rs → ws ≡ [] → f ≡ opened r
    → Starts r rs (record { left = left; waiting = ws; part = f })
starts r rs left ws f all none is =
    subst (λ (left : List TaskResult). Starts r rs (record { left = left; waiting = ws; part = f })) (sym all)
    (subst (λ (ws : List Waiting). Starts r rs (record { left = rs; waiting = ws; part = f })) (sym none)
    (subst (λ (f : Part). Starts r rs (record { left = rs; waiting = []; part = f })) (sym is)
    (record {
      comes = settle-opened r rs;
      owned = λ q. refl;
      whole = λ h. record { fit = tt; holes = h.0; waiting = tt; results = h.1 };
    })))
