use Rattle.std.proofs.Common.{◌≡◌, ◌∙◌, List, [], ap, map, subst, sym}
use Rattle.task_run.specs.Lists.{Each}
use Rattle.task_run.specs.Translation.{task_result}
use Rattle.gather.specs.Left.{left}
use Rattle.gather.specs.Refusal.{IsCaseOf}
use Rattle.gather.specs.Stages.{IsClear, part, waiting}
use Rattle.gather.specs.declared.filling.WaitingResult.{WaitingResult as rWaiting}
use Rattle.gather.proofs.Pasting.{passed_on}
use Rattle.gather.proofs.ReachedTurns.{starts_reached}
use Rattle.gather.proofs.Stages.{starts}
use Rattle.gather.proofs.settle.settle.Goals as goal

-- if no result waits, there are no strays in those that wait
none_clear : (ws : List rWaiting) → ws ≡ [] → Each (λ w. IsClear w.filling) ws
none_clear ws none = subst (Each (λ w. IsClear w.filling)) (sym none) tt

pub turns-init : goal.turns-init
turns-init c =
    let h = starts (task_result c.args.start) (map task_result c.args.results.items) (map task_result (left c.in_ok-unused.unused))
    (map waiting c.new-2.result.items) (part c.of-filling.result.0) (ap (map task_result) c.in_ok-unused.ensures) (ap (map waiting) c.new-2.ensures.items)
    c.of-filling.ensures.opened in
    record {
      comes = h.comes;
      owned = h.owned;
      whole = h.whole;
      clear = λ gives. (c.of-filling.ensures.clear, none_clear c.new-2.result.items c.new-2.ensures.items);
      reached =
          starts_reached (task_result c.args.start) (map task_result c.args.results.items) (map task_result (left c.in_ok-unused.unused))
          (map waiting c.new-2.result.items) (part c.of-filling.result.0) (map (λ p. p.turns.items) c.new.result.items)
          (ap (map task_result) c.in_ok-unused.ensures) (ap (map waiting) c.new-2.ensures.items) c.of-filling.ensures.opened
          (ap (map (λ p. p.turns.items)) c.new.ensures.items);
    }

pub returns-in_err-turn-clause-own_case : goal.returns-in_err-turn-clause-own_case
returns-in_err-turn-clause-own_case c =
    let start = task_result c.args.start in
    let rs = map task_result c.args.results.items in
    passed_on c.from_residual-in_err-turn.result c.in_err-turn.field-0.0 (IsCaseOf start rs) c.from_residual-in_err-turn.ensures
    (c.in_err-turn.ensures.own_case start rs c.turns.invariant.reached)

pub turns-preserved : goal.turns-preserved
turns-preserved c =
    let t = c.in_ok-turn.ensures in
    let i = c.turns.invariant in
    record {
      comes = t.leads.comes ∙ i.comes;
      owned = λ q. t.leads.owned q ∙ i.owned q;
      whole = λ gives. t.leads.whole (i.whole gives);
      clear = λ gives. t.clear (i.whole gives) (i.clear gives);
      reached = t.reached _ _ i.reached;
    }
