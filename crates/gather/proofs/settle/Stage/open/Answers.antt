use Rattle.std.proofs.Common.{◌≡◌, ◌∙◌, ◌++◌, ◌∷◌, [], Option, Some, ap, arith, refl, map, subst, sym}
use Rattle.std.proofs.lemmas.Result.{IfErr-weaker, on_ok_weaker}
use Rattle.task_run.specs.Lists.{Each}
use Rattle.task_run.specs.Results.{Settled}
use Rattle.task_run.specs.Settling.{take}
use Rattle.task_run.proofs.Lists.{each_last}
use Rattle.statement_steps.proofs.Steps.{map-pushed}
use Rattle.types.specs.declared.path.Path.{Path}
use Rattle.task_run.specs.Translation.{task_result}
use Rattle.task_run.specs.declared.result.Listed.{Listed as rListed}
use Rattle.task_run.specs.declared.result.TaskResult.{TaskResult as rTaskResult}
use Rattle.gather.specs.Left.{left}
use Rattle.gather.specs.Parts.{Gathering, comes_to, opened}
use Rattle.gather.specs.Reached.{GoesOn, IsOwnCase, used_by, used_with}
use Rattle.gather.specs.Refusal.{Refuses}
use Rattle.gather.specs.Stages.{IsClear, Leads, gathered, gathering_before, part, waiting, waiting_for}
use Rattle.gather.specs.declared.filling.Filling.{Filling}
use Rattle.gather.specs.declared.filling.WaitingResult.{WaitingResult as rWaiting}
use Rattle.gather.specs.declared.settle.Stage.{Stage}
use Rattle.gather.specs.declared.unused.Unused.{Unused}
use Rattle.gather.proofs.Openings.{lost}
use Rattle.gather.proofs.ReachedTurns.{opened_reached}
use Rattle.gather.proofs.Stages.{leads-both, leads-opened}
use Rattle.gather.proofs.settle.Stage.open.Goals as goal

pub returns-in-None-clause-own_case : goal.returns-in-None-clause-own_case
returns-in-None-clause-own_case c = λ start rs k.
    let s = c.args.self.now in
    lost start rs (used_by s.results) (map task_result (left s.results.unused)) (map waiting s.waiting.items)
    (waiting_for s.filling c.args.hole) k c.in-None.ensures.none

-- ---- a result without holes
-- the result was opened
module _ (s : Stage) (rest : Unused) (hole : rListed) (task : rTaskResult) (f : Filling)
    (found : take hole.path.turns.items (map task_result (left s.results.unused)) ≡ Some (task_result task, map task_result (left rest)))
    (is : part f ≡ opened (task_result task)) where
  abbrev next : rWaiting
  next = record { filling = s.filling; hole = hole }

  one_more : map waiting (s.waiting.items ++ next ∷ []) ≡ map waiting s.waiting.items ++ waiting next ∷ []
  one_more = map-pushed waiting s.waiting.items (s.waiting.items ++ next ∷ []) next refl

  abbrev after : Gathering
  after = gathered (left rest) (s.waiting.items ++ next ∷ []) (part f)

  leads_there : Leads (gathering_before s hole) after
  leads_there =
      leads-opened (map task_result (left s.results.unused)) (map task_result (left rest)) (map waiting s.waiting.items)
      (map waiting (s.waiting.items ++ next ∷ [])) (waiting next) (task_result task) (part f) hole.path.turns.items refl found one_more is

  reached_there : (path : Path) → path ≡ task.path
      → GoesOn (used_by s.results) (gathering_before s hole) (used_with s.results path) after
  reached_there path same = λ start rs k.
      opened_reached start rs (used_by s.results) (used_with s.results path) (map task_result (left s.results.unused))
      (map task_result (left rest)) (map waiting s.waiting.items) (map waiting (s.waiting.items ++ next ∷ [])) (waiting next)
      (task_result task) (part f) found one_more is (ap (λ (p : Path). used_by s.results ++ p.turns.items ∷ []) same) k

pub returns-then-is_empty-clause-leads : goal.returns-then-is_empty-clause-leads
returns-then-is_empty-clause-leads c =
    let s = c.args.self.now in
    on_ok_weaker c.fill_at_once.result
    (leads-both _ _ _ (leads_there s c.take.new.self c.args.hole c.in-Some.task c.of-opened.result.0 c.in-Some.ensures.found c.of-opened.ensures.opened))
    c.fill_at_once.ensures.leads

pub returns-then-is_empty-clause-clear : goal.returns-then-is_empty-clause-clear
returns-then-is_empty-clause-clear c =
    let s = c.args.self.now in
    let leads = leads_there s c.take.new.self c.args.hole c.in-Some.task c.of-opened.result.0 c.in-Some.ensures.found c.of-opened.ensures.opened in
    on_ok_weaker c.fill_at_once.result (λ clears whole clear. clears (leads.whole whole) clear c.of-opened.ensures.clear)
    c.fill_at_once.ensures.clear

pub returns-then-is_empty-clause-reached : goal.returns-then-is_empty-clause-reached
returns-then-is_empty-clause-reached c =
    let s = c.args.self.now in
    on_ok_weaker c.fill_at_once.result
    (λ goes start rs k. goes start rs
    (reached_there s c.take.new.self c.args.hole c.in-Some.task c.of-opened.result.0 c.in-Some.ensures.found c.of-opened.ensures.opened
    c.of-opened.result.1 c.of-opened.ensures.path start rs k))
    c.fill_at_once.ensures.reached

pub returns-then-is_empty-clause-fewer : goal.returns-then-is_empty-clause-fewer
returns-then-is_empty-clause-fewer c =
    let fewer = c.in-Some.ensures.fewer in
    on_ok_weaker c.fill_at_once.result (λ same. omega (arith, same, fewer)) c.fill_at_once.ensures.as_many

pub returns-then-is_empty-clause-refused : goal.returns-then-is_empty-clause-refused
returns-then-is_empty-clause-refused c =
    let s = c.args.self.now in
    let leads = leads_there s c.take.new.self c.args.hole c.in-Some.task c.of-opened.result.0 c.in-Some.ensures.found c.of-opened.ensures.opened in
    IfErr-weaker c.fill_at_once.result _ (Refuses (comes_to (gathering_before s c.args.hole)))
    (λ e refuses. subst (λ (o : Option Settled). Refuses o e) leads.comes refuses) c.fill_at_once.ensures.refused

pub returns-then-is_empty-clause-own_case : goal.returns-then-is_empty-clause-own_case
returns-then-is_empty-clause-own_case c =
    let s = c.args.self.now in
    IfErr-weaker c.fill_at_once.result _ (IsOwnCase (used_by s.results) (gathering_before s c.args.hole))
    (λ e case start rs k. case start rs
    (reached_there s c.take.new.self c.args.hole c.in-Some.task c.of-opened.result.0 c.in-Some.ensures.found c.of-opened.ensures.opened
    c.of-opened.result.1 c.of-opened.ensures.path start rs k))
    c.fill_at_once.ensures.own_case

-- ---- a result with holes
pub returns-in_ok-push-in-Some-2-clause-leads : goal.returns-in_ok-push-in-Some-2-clause-leads
returns-in_ok-push-in-Some-2-clause-leads c =
    let s = c.args.self.now in let hole = c.args.hole in
    leads-opened (map task_result (left s.results.unused)) (map task_result (left c.take.new.self)) (map waiting s.waiting.items)
    (map waiting c.push.new.self.items) (waiting_for s.filling hole) (task_result c.in-Some.task)
    (part c.replace-filling.new.dest) hole.path.turns.items refl c.in-Some.ensures.found
    (map-pushed waiting s.waiting.items c.push.new.self.items (record { filling = c.replace-filling.result; hole = hole })
    c.in_ok-push-in-Some.ensures.items
    ∙ ap (λ (f : Filling). map waiting s.waiting.items ++ waiting_for f hole ∷ []) c.replace-filling.ensures.value)
    (ap part c.replace-filling.ensures.after ∙ c.of-opened.ensures.opened)

pub returns-in_ok-push-in-Some-2-clause-reached : goal.returns-in_ok-push-in-Some-2-clause-reached
returns-in_ok-push-in-Some-2-clause-reached c = λ start rs k.
    let s = c.args.self.now in let hole = c.args.hole in
    opened_reached start rs (used_by s.results) (map (λ p. p.turns.items) c.push-in-Some.new.self.items)
    (map task_result (left s.results.unused)) (map task_result (left c.take.new.self))
    (map waiting s.waiting.items) (map waiting c.push.new.self.items) (waiting_for s.filling hole) (task_result c.in-Some.task)
    (part c.replace-filling.new.dest) c.in-Some.ensures.found
    (map-pushed waiting s.waiting.items c.push.new.self.items (record { filling = c.replace-filling.result; hole = hole })
    c.in_ok-push-in-Some.ensures.items
    ∙ ap (λ (f : Filling). map waiting s.waiting.items ++ waiting_for f hole ∷ []) c.replace-filling.ensures.value)
    (ap part c.replace-filling.ensures.after ∙ c.of-opened.ensures.opened)
    (map-pushed (λ (p : Path). p.turns.items) s.results.used.items c.push-in-Some.new.self.items c.of-opened.result.1
    c.in_ok-push-in-Some-2.ensures.items
    ∙ ap (λ (p : Path). used_by s.results ++ p.turns.items ∷ []) c.of-opened.ensures.path) k

pub returns-in_ok-push-in-Some-2-clause-clear : goal.returns-in_ok-push-in-Some-2-clause-clear
returns-in_ok-push-in-Some-2-clause-clear c = λ whole clear.
    let s = c.args.self.now in
    let next : rWaiting = record { filling = c.replace-filling.result; hole = c.args.hole } in (
      subst IsClear (sym c.replace-filling.ensures.after) c.of-opened.ensures.clear,
      subst (Each (λ w. IsClear w.filling)) (sym c.in_ok-push-in-Some.ensures.items)
          (each_last (λ w. IsClear w.filling) s.waiting.items next clear.1 (subst IsClear (sym c.replace-filling.ensures.value) clear.0)),
    )
