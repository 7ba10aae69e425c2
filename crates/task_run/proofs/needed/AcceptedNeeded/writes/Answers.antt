use Rattle.std.proofs.Common.{ap, map, ◌∙◌}
use Rattle.sections.specs.Translation.{section}
use Rattle.effects.specs.Needs.{Needs}
use Rattle.task_run.proofs.needed.AcceptedNeeded.writes.Goals as goal

pub returns : goal.returns
returns c = ap (map section) c.deref.ensures.value ∙ ap (λ (n : Needs). n.writes) c.needs_at.ensures
