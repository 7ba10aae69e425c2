use Rattle.std.proofs.Common.{List, [], ◌∷◌, ◌++◌, refl, ap, ◌∙◌}
use Rattle.sections.specs.Translation.{window}
use Rattle.statement_steps.specs.declared.turns.TurnsToCome.{TurnsToCome}
use Rattle.task_run.specs.declared.frame.TaskFrame.{TaskFrame as rFrame}
use Rattle.task_run.specs.declared.frame.TaskFrame.TheVariants.{Rest as rRest, Turns as rTurns}
use Rattle.task_run.proofs.TakenTurns.{acts_turn}
use Rattle.task_run.proofs.run.Run.enter_turn.Goals as goal

pub returns : goal.returns
returns c =
    let m = c.args.self.now in let t = c.args.turns in
    acts_turn m _ t (window c.args.piece) c.requires.piece refl refl c.in_ok-begin_turn.ensures.rest c.in_ok-begin_turn.ensures.state
    (c.in_ok-push-2.ensures.items
    ∙ ap (λ (gs : List rFrame). gs ++ rRest t.body ∷ []) c.in_ok-push.ensures.items
    ∙ ap (λ (u : TurnsToCome). (m.frames.items ++ rTurns u ∷ []) ++ rRest t.body ∷ []) c.after_next.ensures)
