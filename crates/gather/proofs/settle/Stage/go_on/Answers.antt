use Rattle.std.proofs.Common.{◌≡◌, ◌∙◌, ap, false, map, subst, sym}
use Rattle.statement_steps.proofs.Steps.{map-pushed}
use Rattle.sections.specs.Covers.{has}
use Rattle.sections.specs.Place.{Place}
use Rattle.task_run.specs.Lists.{Each}
use Rattle.task_run.specs.Translation.{listed, settled, task_result, owned_by}
use Rattle.gather.specs.Left.{left}
use Rattle.gather.specs.PartRefusal.{RefusesHole}
use Rattle.gather.specs.Parts.{closed, comes_back_twice, comes_to, filled}
use Rattle.gather.specs.Reached.{IsOwnCase, used_by}
use Rattle.gather.specs.Refusal.{Refuses}
use Rattle.gather.specs.Stages.{IsClear, gathering, part, waiting, waiting_for}
use Rattle.gather.specs.declared.filling.Filling.{Filling}
use Rattle.gather.specs.declared.filling.WaitingResult.{WaitingResult as rWaiting}
use Rattle.gather.proofs.Pasting.{owned-clear, passed_on}
use Rattle.gather.proofs.ReachedTurns.{filled_reached, hole_case}
use Rattle.gather.proofs.Stages.{back-fits, leads-filled, twice-none}
use Rattle.gather.proofs.Wholes.{each_end}
use Rattle.gather.proofs.settle.Stage.go_on.Goals as goal

pub returns-in_err-fill-in-Some-clause-refused : goal.returns-in_err-fill-in-Some-clause-refused
returns-in_err-fill-in-Some-clause-refused c =
    let s = c.args.self.now in let e = c.in_err-fill-in-Some.field-0.0 in
    passed_on c.from_residual-in_err-fill-in-Some.result e (Refuses (comes_to (gathering s)))
    c.from_residual-in_err-fill-in-Some.ensures
    (twice-none (map task_result (left s.results.unused)) (map waiting c.pop.new.self.items) (map waiting s.waiting.items)
    (waiting c.in-Some.next) (part s.filling) e (ap (map listed) c.requires)
    (map-pushed waiting c.pop.new.self.items s.waiting.items c.in-Some.next c.in-Some.ensures.items)
    (subst (λ (f : Filling). RefusesHole (waiting_for f c.in-Some.next.hole) e) c.replace-part.ensures.after
    c.in_err-fill-in-Some.ensures.refused))

pub returns-in_err-fill-in-Some-clause-own_case : goal.returns-in_err-fill-in-Some-clause-own_case
returns-in_err-fill-in-Some-clause-own_case c =
    let s = c.args.self.now in let e = c.in_err-fill-in-Some.field-0.0 in
    passed_on c.from_residual-in_err-fill-in-Some.result e (IsOwnCase (used_by s.results) (gathering s))
    c.from_residual-in_err-fill-in-Some.ensures
    (hole_case (used_by s.results) (map task_result (left s.results.unused)) (map waiting c.pop.new.self.items)
    (map waiting s.waiting.items) (waiting c.in-Some.next) (part s.filling) e (ap (map listed) c.requires)
    (map-pushed waiting c.pop.new.self.items s.waiting.items c.in-Some.next c.in-Some.ensures.items)
    (subst (λ (f : Filling). RefusesHole (waiting_for f c.in-Some.next.hole) e) c.replace-part.ensures.after
    c.in_err-fill-in-Some.ensures.refused))

pub returns-in_ok-fill-in-Some-clause-leads : goal.returns-in_ok-fill-in-Some-clause-leads
returns-in_ok-fill-in-Some-clause-leads c =
    let s = c.args.self.now in let hole = c.in-Some.next.hole in
    let child = c.in_ok-child-in-Some.child in
    leads-filled (map task_result (left s.results.unused)) (map waiting c.pop.new.self.items) (map waiting s.waiting.items)
    (waiting c.in-Some.next) (part s.filling) (part c.fill.new.self) (ap (map listed) c.requires)
    (map-pushed waiting c.pop.new.self.items s.waiting.items c.in-Some.next c.in-Some.ensures.items)
    (subst (λ (f : Filling). comes_back_twice (waiting_for f hole) ≡ false) c.replace-part.ensures.after
    c.in_ok-fill-in-Some.ensures.apart)
    (c.in_ok-fill-in-Some.ensures.filled
    ∙ ap (λ (f : Filling). filled (waiting_for f hole) (settled child)) c.replace-part.ensures.after
    ∙ ap (filled (waiting c.in-Some.next))
    (c.in_ok-child-in-Some.ensures.closed
    ∙ ap (λ (f : Filling). closed (part f) (part f).so_far) c.replace-part.ensures.value))

pub returns-in_ok-fill-in-Some-clause-reached : goal.returns-in_ok-fill-in-Some-clause-reached
returns-in_ok-fill-in-Some-clause-reached c = λ start rs k.
    let s = c.args.self.now in let hole = c.in-Some.next.hole in
    let child = c.in_ok-child-in-Some.child in
    filled_reached start rs (used_by s.results) (map task_result (left s.results.unused))
    (map waiting c.pop.new.self.items) (map waiting s.waiting.items) (waiting c.in-Some.next) (part s.filling)
    (part c.fill.new.self) (settled child) (ap (map listed) c.requires)
    (map-pushed waiting c.pop.new.self.items s.waiting.items c.in-Some.next c.in-Some.ensures.items)
    (c.in_ok-fill-in-Some.ensures.filled
    ∙ ap (λ (f : Filling). filled (waiting_for f hole) (settled child)) c.replace-part.ensures.after) k

pub returns-in_ok-fill-in-Some-clause-clear : goal.returns-in_ok-fill-in-Some-clause-clear
returns-in_ok-fill-in-Some-clause-clear c = λ whole clear.
    let s = c.args.self.now in let next = c.in-Some.next in
    let child = c.in_ok-child-in-Some.child in
    let are = each_end (λ (w : rWaiting). IsClear w.filling) c.pop.new.self.items next
    (subst (Each (λ (w : rWaiting). IsClear w.filling)) c.in-Some.ensures.items clear.1) in
    let owns : owned_by child.holdings ≡ (part s.filling).owned =
    ap owned_by c.in_ok-child-in-Some.ensures.holdings
    ∙ ap (λ (f : Filling). owned_by f.so_far.holdings) c.replace-part.ensures.value
    ∙ sym (owned-clear s.filling clear.0) in
    let back : (q : Place) → owned_by child.holdings q ≡ has (waiting next).hole.windows q =
    back-fits (map task_result (left s.results.unused)) (map waiting c.pop.new.self.items) (map waiting s.waiting.items)
    (waiting next) (part s.filling) (owned_by child.holdings) (ap (map listed) c.requires)
    (map-pushed waiting c.pop.new.self.items s.waiting.items next c.in-Some.ensures.items) owns whole in
    (c.in_ok-fill-in-Some.ensures.clear (subst IsClear (sym c.replace-part.ensures.after) are.1) back, are.0)
