-- How iterations of a stage are reached, and the error of each failing one.
use Rattle.std.proofs.Common.{◌≡◌, ℕ, List, [], ◌∷◌, ◌++◌, map, Some, sym, ap, subst, inl, inr}
use Rattle.std.specs.List.{list_any}
use Rattle.types.specs.declared.path.Path.{Path}
use Rattle.task_run.specs.Results.{TaskResult, Settled}
use Rattle.task_run.specs.Settling.{take}
use Rattle.task_run.specs.Translation.{task_result}
use Rattle.task_run.specs.declared.result.TaskResult.{TaskResult as rTaskResult}
use Rattle.types.specs.Translation.{is_path}
use Rattle.gather.specs.PartRefusal.{TellsLeftOver, RefusesHole}
use Rattle.gather.specs.Parts.{Part, Waiting, opened, filled, unopened}
use Rattle.gather.specs.Reached.{IsReached, IsOwnCase}
use Rattle.gather.specs.Refusal.{IsCaseOf, ComesBackTwice}
use Rattle.gather.specs.Stages.{gathered, waiting}
use Rattle.gather.specs.declared.error.GatherError.{GatherError}
use Rattle.gather.specs.declared.error.GatherError.TheVariants.{Lost, Double, Stranger, OutOfMemory}
use Rattle.gather.specs.declared.filling.WaitingResult.{WaitingResult as rWaiting}
use Rattle.gather.proofs.Openings.{among_times, not_among, reached-first, reached-opened, reached-filled, back_twice, stranger, one_more}

-- the first stage
pub starts_reached : (r : TaskResult) (rs left : List TaskResult) (ws : List Waiting) (f : Part) (used : List (List ℕ))
    → left ≡ rs → ws ≡ [] → f ≡ opened r → used ≡ []
    → IsReached r rs used (record { left = left; waiting = ws; part = f })
starts_reached r rs left ws f used all none is unused =
    subst (λ (left : List TaskResult). IsReached r rs used (record { left = left; waiting = ws; part = f })) (sym all)
    (subst (λ (ws : List Waiting). IsReached r rs used (record { left = rs; waiting = ws; part = f })) (sym none)
    (subst (λ (f : Part). IsReached r rs used (record { left = rs; waiting = []; part = f })) (sym is)
    (subst (λ (used : List (List ℕ)). IsReached r rs used (record { left = rs; waiting = []; part = opened r })) (sym unused)
    (reached-first r rs))))

-- a hole was opened
pub opened_reached : (start : TaskResult) (rs : List TaskResult) (used more : List (List ℕ)) (left rest : List TaskResult)
    (ws vs : List Waiting) (w : Waiting) (x : TaskResult) (f : Part)
    → take w.hole.path left ≡ Some (x, rest) → vs ≡ ws ++ w ∷ [] → f ≡ opened x → more ≡ used ++ x.path ∷ []
    → IsReached start rs used (record { left = left; waiting = ws; part = unopened w })
    → IsReached start rs more (record { left = rest; waiting = vs; part = f })
opened_reached start rs used more left rest ws vs w x f e pushed is told h =
    subst (λ (vs : List Waiting). IsReached start rs more (record { left = rest; waiting = vs; part = f })) (sym pushed)
    (subst (λ (f : Part). IsReached start rs more (record { left = rest; waiting = ws ++ w ∷ []; part = f })) (sym is)
    (reached-opened start rs used left ws w h x rest e more told))

-- a hole was filled
pub filled_reached : (start : TaskResult) (rs : List TaskResult) (used : List (List ℕ)) (left : List TaskResult)
    (ws vs : List Waiting) (w : Waiting) (f g : Part) (child : Settled)
    → f.holes ≡ [] → vs ≡ ws ++ w ∷ [] → g ≡ filled w child
    → IsReached start rs used (record { left = left; waiting = vs; part = f })
    → IsReached start rs used (record { left = left; waiting = ws; part = g })
filled_reached start rs used left ws vs w f g child full popped is h =
    subst (λ (g : Part). IsReached start rs used (record { left = left; waiting = ws; part = g })) (sym is)
    (reached-filled start rs used left ws w f full
    (subst (λ (vs : List Waiting). IsReached start rs used (record { left = left; waiting = vs; part = f })) popped h) child)

-- a place came back that is already owned
pub hole_case : (used : List (List ℕ)) (left : List TaskResult) (ws vs : List Waiting) (w : Waiting) (f : Part) (e : GatherError)
    → f.holes ≡ [] → vs ≡ ws ++ w ∷ [] → RefusesHole w e
    → IsOwnCase used (record { left = left; waiting = vs; part = f }) e
hole_case used left ws vs w f OutOfMemory full popped h = λ start rs k. tt
hole_case used left ws vs w f (Lost path) full popped h = absurd h
hole_case used left ws vs w f (Double path) full popped h = λ start rs k.
    inr (subst (ComesBackTwice start rs) (sym h.0)
    (back_twice start rs used left ws w f full
    (subst (λ (vs : List Waiting). IsReached start rs used (record { left = left; waiting = vs; part = f })) popped k) h.1))
hole_case used left ws vs w f (Stranger path) full popped h = absurd h

-- no result waits any more, and a result is left
pub left_case : (e : GatherError) (used : List Path) (left rest : List rTaskResult) (task : rTaskResult) (vs : List rWaiting) (f : Part)
    → f.holes ≡ [] → vs ≡ [] → left ≡ task ∷ rest → TellsLeftOver (list_any (λ p. is_path p task.path) used) task.path e
    → IsOwnCase (map (λ p. p.turns.items) used) (gathered left vs f) e
left_case OutOfMemory used left rest task vs f full none some h = absurd h
left_case (Lost path) used left rest task vs f full none some h = absurd h
left_case (Double path) used left rest task vs f full none some h = λ start rs k.
    subst (λ (p : Path). IsCaseOf start rs (Double p)) (sym h.0)
    (inl (one_more start rs (map (λ p. p.turns.items) used) (map task_result left) (map waiting vs) f full (ap (map waiting) none) k
    (task_result task) (map task_result rest) (ap (map task_result) some) (among_times task.path used h.1)))
left_case (Stranger path) used left rest task vs f full none some h = λ start rs k.
    subst (λ (p : Path). IsCaseOf start rs (Stranger p)) (sym h.0)
    (stranger start rs (map (λ p. p.turns.items) used) (map task_result left) (map waiting vs) f full (ap (map waiting) none) k
    (task_result task) (map task_result rest) (ap (map task_result) some) (not_among task.path used h.1))
