use Rattle.std.proofs.Common.{◌∙◌, subst, sym}
use Rattle.std.proofs.lemmas.Option.{same_Some}
use Rattle.effects.specs.Rounds.{needs_of}
use Rattle.task_run.proofs.GoingOn.{goes_nowhere}
use Rattle.task_run.specs.Jobs.{program_of}
use Rattle.weighted_task.specs.Tasks.{GoesBy}
use Rattle.weighted_task.proofs.InPlace.{in_place}
use Rattle.weighted_task.proofs.Staying.{can_go}
use Rattle.weighted_task.proofs.task.Body.advance.Goals as goal

pub step-requires : goal.step-requires
step-requires c =
    let b = c.args.self.now in
    let run = c.in-Some.run' in
    let goes =
    subst (GoesBy b.job b.outer.items b.opened) (same_Some _ _ (sym c.requires.has ∙ c.in-Some.is)) c.requires.goes in
    can_go b.job b.outer.items b.opened run run goes (goes_nowhere (needs_of (program_of b.job)) run)

pub returns-in-Ok-clause-turn : goal.returns-in-Ok-clause-turn
returns-in-Ok-clause-turn c = in_place c.args.self.now c.in-Some.run' c.step.new.self c.in-Some.is c.in-Ok.ensures.step
