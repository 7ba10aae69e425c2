use Rattle.std.proofs.Common.{◌≡◌, Some, sym, subst}
use Rattle.std.specs.Bool.{OnFalse, OnTrue}
use Rattle.sections.specs.Place.{piece_of}
use Rattle.sections.specs.Translation.{window}
use Rattle.types.specs.Run.{window_at}
use Rattle.types.specs.Translation.{codes, environment}
use Rattle.statement_steps.specs.Standing.{MissesStep, TakesStep}
use Rattle.statement_steps.specs.Turns.{begun}
use Rattle.statement_steps.specs.declared.thread.Thread.{Thread}
use Rattle.task_run.specs.RunTurns.{Acts}
use Rattle.task_run.specs.Standings.{state_of}
use Rattle.task_run.specs.Translation.{contents_of}
use Rattle.task_run.specs.declared.memory.TaskMemory.{TaskMemory}
use Rattle.task_run.specs.declared.turn.Done.TheVariants.{Gone}
use Rattle.task_run.proofs.RunSteps.{did_Begun, stepped}
use Rattle.task_run.proofs.TakenTurns.{did_turn, missed, some_piece}
use Rattle.task_run.proofs.run.Run.take_turn.Goals as goal

pub enter_turn-requires-clause-piece : goal.enter_turn-requires-clause-piece
enter_turn-requires-clause-piece c =
    let m = c.args.self.now in let t = c.args.turns in let u = c.takes_step.new.self in
    let step : TakesStep m.thread u
    = subst (λ b. OnTrue b (TakesStep m.thread u)) c.if-takes_step.true c.takes_step.ensures.taken in
    subst (λ (v : Thread TaskMemory). piece_of ((environment v.environment).windows t.section.number) t.size t.next ≡ Some (window c.args.piece))
    (sym step.same) c.requires.piece

pub returns-in_ok-enter_turn-clause-did : goal.returns-in_ok-enter_turn-clause-did
returns-in_ok-enter_turn-clause-did c =
    let m = c.args.self.now in let t = c.args.turns in let u = c.takes_step.new.self in
    let step : TakesStep m.thread u
    = subst (λ b. OnTrue b (TakesStep m.thread u)) c.if-takes_step.true c.takes_step.ensures.taken in
    let left = some_piece (window_at (state_of m.thread) t.section.number) (window c.args.piece) t.size t.next c.requires.piece in
    let acts = subst (λ (v : Thread TaskMemory). Acts t.label (begun t) (record m { thread = v }) c.enter_turn.new.self)
    step.same c.in_ok-enter_turn.ensures in
    λ needs.
    did_turn needs t m Gone c.enter_turn.new.self left
    (stepped needs m u.steps step.on step.less t.label (begun t) Gone c.enter_turn.new.self (λ fs. fs)
    (did_Begun needs t.label (record m { thread = record m.thread { steps = u.steps } }) c.enter_turn.new.self
    t.section.number t.size t.next t.piece.number t.turn.number (codes t.body.now) acts))

pub returns-else-takes_step-clause-did : goal.returns-else-takes_step-clause-did
returns-else-takes_step-clause-did c =
    let m = c.args.self.now in let t = c.args.turns in let u = c.takes_step.new.self in
    let miss : MissesStep (λ (s : TaskMemory). contents_of s.holdings) m.thread u
    = subst (λ b. OnFalse b (MissesStep (λ (s : TaskMemory). contents_of s.holdings) m.thread u)) c.if-takes_step.false
    c.takes_step.ensures.not_taken in
    λ needs.
    missed needs t m (some_piece (window_at (state_of m.thread) t.section.number) (window c.args.piece) t.size t.next c.requires.piece)
    c.requires.on u miss
