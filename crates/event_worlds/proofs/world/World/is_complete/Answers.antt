use Rattle.std.proofs.Common.{◌∙◌, sym}
use Rattle.std.proofs.lemmas.Bool.{OnTrue_from}
use Rattle.event_worlds.proofs.world.World.is_complete.Goals as goal

pub returns-in-Some-clause-there : goal.returns-in-Some-clause-there
returns-in-Some-clause-there c =
    OnTrue_from c.is_complete.result _
    (λ e. (c.in-Some.book.now, sym c.in-Some.ensures.value, sym c.is_complete.ensures ∙ e))
