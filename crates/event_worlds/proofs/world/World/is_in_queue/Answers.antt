use Rattle.std.proofs.Common.{◌∙◌, sym}
use Rattle.std.proofs.lemmas.Bool.{OnTrue_from}
use Rattle.event_worlds.proofs.world.World.is_in_queue.Goals as goal

pub returns-in-Some-clause-there : goal.returns-in-Some-clause-there
returns-in-Some-clause-there c =
    OnTrue_from c.is_in_queue.result _
    (λ e. (c.in-Some.task.now, sym c.in-Some.ensures.value, sym c.is_in_queue.ensures ∙ e))
