use Rattle.types.specs.Run.{window_at}
use Rattle.task_run.specs.Standings.{state_of}
use Rattle.task_run.proofs.TakenTurns.{is_off, no_piece, none_left}
use Rattle.task_run.proofs.run.Run.next_turn.Goals as goal

pub returns-in-Faulted-clause-did : goal.returns-in-Faulted-clause-did
returns-in-Faulted-clause-did c = λ needs. is_off needs c.args.turns c.args.self.now c.in-Faulted.is

pub returns-in-None-clause-did : goal.returns-in-None-clause-did
returns-in-None-clause-did c =
    let m = c.args.self.now in let t = c.args.turns in
    λ needs. none_left needs t m (no_piece (window_at (state_of m.thread) t.section.number) t.size t.next c.in-None.ensures.piece)
