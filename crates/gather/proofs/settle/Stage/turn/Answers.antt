use Rattle.std.proofs.Common.{List, map, subst, sym}
use Rattle.std.specs.Prelude.{IfErr, OnOk}
use Rattle.task_run.specs.Translation.{listed}
use Rattle.task_run.specs.declared.result.Listed.{Listed as rListed}
use Rattle.gather.specs.Left.{left}
use Rattle.gather.specs.Parts.{Gathering, IsWhole}
use Rattle.gather.specs.Reached.{GoesOn, IsOwnCase, used_by}
use Rattle.gather.specs.Stages.{AreClear, Leads, gathered, gathering, part}
use Rattle.gather.specs.declared.settle.Stage.{Stage}
use Rattle.gather.proofs.settle.Stage.turn.Goals as goal

-- a stage with these holes
abbrev with_holes : Stage → List rListed → Gathering
with_holes s hs = gathered (left s.results.unused) s.waiting.items (record (part s.filling) { holes = map listed hs })

pub returns-in-None-clause-reached : goal.returns-in-None-clause-reached
returns-in-None-clause-reached c =
    let s = c.args.self.now in let new = c.go_on.new.self in
    subst (λ (hs : List rListed). OnOk c.go_on.result (GoesOn (used_by s.results) (with_holes s hs) (used_by new.results) (gathering new)))
    (sym c.in-None.ensures.items) c.go_on.ensures.reached

pub returns-in-None-clause-clear : goal.returns-in-None-clause-clear
returns-in-None-clause-clear c =
    let s = c.args.self.now in let new = c.go_on.new.self in
    subst (λ (hs : List rListed). OnOk c.go_on.result (IsWhole (with_holes s hs) → AreClear s → AreClear new))
    (sym c.in-None.ensures.items) c.go_on.ensures.clear

pub returns-in_ok-open-in-Some-clause-leads : goal.returns-in_ok-open-in-Some-clause-leads
returns-in_ok-open-in-Some-clause-leads c =
    let s = c.args.self.now in let new = c.open.new.self in
    subst (λ (hs : List rListed). Leads (with_holes s hs) (gathering new)) (sym c.in-Some.ensures.items)
    c.in_ok-open-in-Some.ensures.leads

pub returns-in_ok-open-in-Some-clause-clear : goal.returns-in_ok-open-in-Some-clause-clear
returns-in_ok-open-in-Some-clause-clear c =
    let s = c.args.self.now in let new = c.open.new.self in
    subst (λ (hs : List rListed). IsWhole (with_holes s hs) → AreClear s → AreClear new) (sym c.in-Some.ensures.items)
    c.in_ok-open-in-Some.ensures.clear

pub returns-in_ok-open-in-Some-clause-reached : goal.returns-in_ok-open-in-Some-clause-reached
returns-in_ok-open-in-Some-clause-reached c =
    let s = c.args.self.now in let new = c.open.new.self in
    subst (λ (hs : List rListed). GoesOn (used_by s.results) (with_holes s hs) (used_by new.results) (gathering new))
    (sym c.in-Some.ensures.items) c.in_ok-open-in-Some.ensures.reached

pub returns-in-None-clause-own_case : goal.returns-in-None-clause-own_case
returns-in-None-clause-own_case c =
    let s = c.args.self.now in
    subst (λ (hs : List rListed). IfErr c.go_on.result (IsOwnCase (used_by s.results) (with_holes s hs)))
    (sym c.in-None.ensures.items) c.go_on.ensures.own_case
