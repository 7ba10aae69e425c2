use Rattle.std.proofs.Common.{ap}
use Rattle.std.proofs.lemmas.Result.{on_ok_weaker}
use Rattle.sections.specs.Translation.{window}
use Rattle.types.specs.Translation.{environment}
use Rattle.types.specs.Value.{Environment}
use Rattle.types.proofs.Slots.{by_number-map-bound}
use Rattle.types.proofs.value.Environment.name_window.Goals as goal

pub returns : goal.returns
returns c =
    on_ok_weaker c.put.result
    (λ bound.
    let in_place : (_ → _) → Environment = λ windows. record { scalars = (environment c.args.self.now).scalars; windows = windows } in
    ap in_place (by_number-map-bound window _ c.args.self.now.windows.items c.put.new.items.items c.args.section.number c.args.window bound))
    c.put.ensures
