use Rattle.std.proofs.Common.{◌∙◌, map}
use Rattle.std.specs.Prelude.{pos}
use Rattle.sections.specs.Place.{nowhere}
use Rattle.sections.specs.Translation.{window}
use Rattle.types.proofs.Slots.{by_number-filled}
use Rattle.statement_steps.proofs.Steps.{map-pushed}
use Rattle.statement_steps.proofs.thread.filled.Goals as goal

pub loop-preserved : goal.loop-preserved
loop-preserved c = by_number-filled (pos 0) c.loop.scalars.items c.push.new.self.items c.in_ok-push.ensures.items ∙ c.loop.invariant

pub loop-2-preserved : goal.loop-2-preserved
loop-2-preserved c =
    by_number-filled nowhere (map window c.loop-2.windows.items) (map window c.push-in-loop-2.new.self.items)
    (map-pushed window c.loop-2.windows.items c.push-in-loop-2.new.self.items _ c.in_ok-push-2.ensures.items)
    ∙ c.loop-2.invariant
