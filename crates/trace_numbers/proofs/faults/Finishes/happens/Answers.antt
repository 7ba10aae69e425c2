use Rattle.std.proofs.Common.{subst, sym}
use Rattle.std.specs.Prelude.{OnOk}
use Rattle.events.specs.declared.event.Event.{Event}
use Rattle.trace_numbers.specs.Faults.{Finishes as AnyFinishes, told}
use Rattle.trace_numbers.specs.Tables.{ShowsFinishes}
use Rattle.trace_numbers.proofs.faults.Finishes.happens.Goals as goal

pub returns-in-Pass : goal.returns-in-Pass
returns-in-Pass c =
    subst (λ (e : Event). OnOk c.pass.result ((f : AnyFinishes) → ShowsFinishes c.args.self.now f → ShowsFinishes c.pass.new.self (told e f)))
    (sym c.in-Pass.is) c.pass.ensures
