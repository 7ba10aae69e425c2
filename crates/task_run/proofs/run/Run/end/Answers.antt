use Rattle.std.proofs.Common.{◌≡◌, ◌∙◌, sym, subst, List, [], ◌∷◌}
use Rattle.std.proofs.lemmas.List.{append-nil, nil_from_length}
use Rattle.task_run.specs.Frames.{Frame}
use Rattle.task_run.specs.OwnRun.{Own}
use Rattle.task_run.specs.RunTurns.{TurnOf}
use Rattle.task_run.specs.Standings.{Stacked, state_of, with_own}
use Rattle.task_run.specs.declared.frame.TaskFrame.{TaskFrame as rFrame}
use Rattle.task_run.specs.declared.frame.TaskFrame.TheVariants.{EndFinish as rEndFinish}
use Rattle.task_run.specs.declared.turn.Turn.TheVariants.{EndsFinish, Ended}
use Rattle.task_run.proofs.RunTops.{none_stacked, on_frame}
use Rattle.task_run.proofs.run.Run.end.Goals as goal

pub returns-in-None-clause-turn : goal.returns-in-None-clause-turn
returns-in-None-clause-turn c = λ needs close fs x shows.
    let m = c.args.self.now in let popped = c.pop.new.self in
    let none : m.frames.items ≡ [] = nil_from_length m.frames.items (sym m.frames.ok.0 ∙ c.in-None.ensures.cases.0) in
    subst (λ (fs : List (Frame Own)). TurnOf needs close m fs (with_own x (state_of m.thread)) (Ended c.result-made.result))
    (sym (none_stacked m.frames.items fs none shows.frames))
    (c.result-made.ensures fs x (record {
      frames = subst (λ (gs : List rFrame). Stacked gs fs) (c.in-None.ensures.items ∙ append-nil popped.items) shows.frames;
      owned = shows.owned;
      pending = shows.pending;
      few = shows.few;
    }))

pub returns-in_ok-paused-in-EndFinish-clause-turn : goal.returns-in_ok-paused-in-EndFinish-clause-turn
returns-in_ok-paused-in-EndFinish-clause-turn c = λ needs close fs x shows.
    let m = c.args.self.now in let popped = c.pop.new.self in
    let st = with_own x (state_of m.thread) in
    let waiting = EndsFinish c.in_ok-paused-in-EndFinish.paused c.in_ok-paused-in-EndFinish.result in
    on_frame m.frames.items popped.items c.in-Some.frame (rEndFinish c.in-EndFinish.outer) fs
    c.in-Some.ensures.items c.in-EndFinish.is
    shows.frames (λ (fs : List (Frame Own)). TurnOf needs close m fs st waiting)
    (λ f below at stacked.
    subst (λ (f : Frame Own). TurnOf needs close m (f ∷ below) st waiting) (sym at.1)
    (c.in_ok-paused-in-EndFinish.ensures at.0 below x at.2
    (record { frames = stacked; owned = shows.owned; pending = shows.pending; few = shows.few })))
