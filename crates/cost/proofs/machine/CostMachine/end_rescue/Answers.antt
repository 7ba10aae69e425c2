use Rattle.std.proofs.Common.{arith, ap, ◌∙◌, sym}
use Rattle.std.proofs.lemmas.Result.{on_ok_weaker}
use Rattle.std.specs.Prelude.{List, map}
use Rattle.types.specs.declared.fault.Fault.{Fault}
use Rattle.types.specs.Meaning.{after_finish}
use Rattle.types.specs.Translation.{fault}
use Rattle.statement_steps.specs.Standing.{flow}
use Rattle.cost.proofs.Rescues.{does_rescue, on_goes, stopped_goes}
use Rattle.cost.proofs.machine.CostMachine.end_rescue.Goals as goal

pub handle-requires-clause-faulted : goal.handle-requires-clause-faulted
handle-requires-clause-faulted g c =
    let m = c.args.self.now in
    let gone = c.behind_finish.ensures ∙ ap (λ (xs : List Fault). after_finish (flow m.thread.flow) (map fault xs)) c.deref.ensures.value in
    sym gone ∙ ap flow c.in-Faulted.is

pub returns-in-On-clause-does : goal.returns-in-On-clause-does
returns-in-On-clause-does g c =
    let m = c.args.self.now in
    let gone = c.behind_finish.ensures ∙ ap (λ (xs : List Fault). after_finish (flow m.thread.flow) (map fault xs)) c.deref.ensures.value in
    on_ok_weaker c.end_finish.result (does_rescue m c.end_finish.new.self c.args.outer c.args.handler
    (on_goes (sym gone ∙ ap flow c.in-On.is))) c.end_finish.ensures.does

pub returns-in-On-clause-ends : goal.returns-in-On-clause-ends
returns-in-On-clause-ends g c = on_ok_weaker c.end_finish.result (λ less. omega (arith, less)) c.end_finish.ensures.ends

pub returns-in-Stopped-clause-does : goal.returns-in-Stopped-clause-does
returns-in-Stopped-clause-does g c =
    let m = c.args.self.now in
    let gone = c.behind_finish.ensures ∙ ap (λ (xs : List Fault). after_finish (flow m.thread.flow) (map fault xs)) c.deref.ensures.value in
    on_ok_weaker c.end_finish-in-Stopped.result (does_rescue m c.end_finish-in-Stopped.new.self c.args.outer c.args.handler
    (stopped_goes (sym gone ∙ ap flow c.in-Stopped.is))) c.end_finish-in-Stopped.ensures.does

pub returns-in-Stopped-clause-ends : goal.returns-in-Stopped-clause-ends
returns-in-Stopped-clause-ends g c =
    on_ok_weaker c.end_finish-in-Stopped.result (λ less. omega (arith, less)) c.end_finish-in-Stopped.ensures.ends
