use Rattle.std.proofs.Common.{◌≡◌, ◌∙◌, ℕ, List, [], ◌∷◌, ◌++◌, ap, refl, map, subst, sym}
use Rattle.statement_steps.proofs.Steps.{map-pushed}
use Rattle.sections.specs.Covers.{has}
use Rattle.sections.specs.Place.{Place}
use Rattle.types.specs.declared.path.Path.{Path}
use Rattle.task_run.specs.Translation.{listed, settled, task_result, owned_by}
use Rattle.gather.specs.Left.{left}
use Rattle.gather.specs.Parts.{comes_to, filled}
use Rattle.gather.specs.Reached.{IsOwnCase, IsReached, used_with}
use Rattle.gather.specs.Refusal.{Refuses}
use Rattle.gather.specs.Stages.{gathering_with, part, waiting}
use Rattle.gather.specs.declared.filling.WaitingResult.{WaitingResult as rWaiting}
use Rattle.gather.proofs.Pasting.{owned-clear, passed_on}
use Rattle.gather.proofs.ReachedTurns.{filled_reached, hole_case}
use Rattle.gather.proofs.Stages.{back-fits, leads-filled, twice-none}
use Rattle.gather.proofs.settle.Stage.fill_at_once.Goals as goal

-- one more result waits
one_more : (ws : List rWaiting) (w : rWaiting) → map waiting (ws ++ w ∷ []) ≡ map waiting ws ++ waiting w ∷ []
one_more ws w = map-pushed waiting ws (ws ++ w ∷ []) w refl

pub returns-in_err-fill-clause-refused : goal.returns-in_err-fill-clause-refused
returns-in_err-fill-clause-refused c =
    let s = c.args.self.now in let e = c.in_err-fill.field-0.0 in
    let next : rWaiting = record { filling = s.filling; hole = c.args.hole } in
    passed_on c.from_residual-in_err-fill.result e (Refuses (comes_to (gathering_with s c.args.hole c.args.opened)))
    c.from_residual-in_err-fill.ensures
    (twice-none (map task_result (left s.results.unused)) (map waiting s.waiting.items) (map waiting (s.waiting.items ++ next ∷ []))
    (waiting next) (part c.args.opened) e (ap (map listed) c.requires) (one_more s.waiting.items next) c.in_err-fill.ensures.refused)

pub returns-in_err-fill-clause-own_case : goal.returns-in_err-fill-clause-own_case
returns-in_err-fill-clause-own_case c =
    let s = c.args.self.now in let e = c.in_err-fill.field-0.0 in
    let next : rWaiting = record { filling = s.filling; hole = c.args.hole } in
    let used = used_with s.results c.args.path in
    passed_on c.from_residual-in_err-fill.result e (IsOwnCase used (gathering_with s c.args.hole c.args.opened))
    c.from_residual-in_err-fill.ensures
    (hole_case used (map task_result (left s.results.unused)) (map waiting s.waiting.items)
    (map waiting (s.waiting.items ++ next ∷ [])) (waiting next) (part c.args.opened) e (ap (map listed) c.requires)
    (one_more s.waiting.items next) c.in_err-fill.ensures.refused)

pub returns-clause-leads : goal.returns-clause-leads
returns-clause-leads c =
    let s = c.args.self.now in
    let next : rWaiting = record { filling = s.filling; hole = c.args.hole } in
    leads-filled (map task_result (left s.results.unused)) (map waiting s.waiting.items) (map waiting (s.waiting.items ++ next ∷ []))
    (waiting next) (part c.args.opened) (part c.fill.new.self) (ap (map listed) c.requires) (one_more s.waiting.items next)
    c.in_ok-fill.ensures.apart (c.in_ok-fill.ensures.filled ∙ ap (filled (waiting next)) c.in_ok-child.ensures.closed)

pub returns-clause-reached : goal.returns-clause-reached
returns-clause-reached c = λ start rs k.
    let s = c.args.self.now in let path = c.args.path in
    let next : rWaiting = record { filling = s.filling; hole = c.args.hole } in
    let rest = map task_result (left s.results.unused) in
    let now = part c.fill.new.self in
    subst (λ (used : List (List ℕ)). IsReached start rs used (record { left = rest; waiting = map waiting s.waiting.items; part = now }))
    (sym (map-pushed (λ (p : Path). p.turns.items) s.results.used.items c.push.new.self.items path c.in_ok-push.ensures.items))
    (filled_reached start rs (used_with s.results path) rest (map waiting s.waiting.items)
    (map waiting (s.waiting.items ++ next ∷ [])) (waiting next) (part c.args.opened) now (settled c.in_ok-child.child)
    (ap (map listed) c.requires) (one_more s.waiting.items next) c.in_ok-fill.ensures.filled k)

pub returns-clause-clear : goal.returns-clause-clear
returns-clause-clear c = λ whole clear opened_clear.
    let s = c.args.self.now in let f = c.args.opened in
    let next : rWaiting = record { filling = s.filling; hole = c.args.hole } in
    let child = c.in_ok-child.child in
    let owns : owned_by child.holdings ≡ (part f).owned =
    ap owned_by c.in_ok-child.ensures.holdings ∙ sym (owned-clear f opened_clear) in
    let back : (q : Place) → owned_by child.holdings q ≡ has (waiting next).hole.windows q =
    back-fits (map task_result (left s.results.unused)) (map waiting s.waiting.items) (map waiting (s.waiting.items ++ next ∷ []))
    (waiting next) (part f) (owned_by child.holdings) (ap (map listed) c.requires) (one_more s.waiting.items next) owns whole in
    (c.in_ok-fill.ensures.clear clear.0 back, clear.1)
