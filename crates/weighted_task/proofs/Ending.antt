-- What follows at the ends of finishes, and of `main`.
use Rattle.std.proofs.Common.{◌≡◌, ℕ, List, [], ◌∷◌, ◌++◌, length, refl, sym, ap, ◌∙◌, subst, arith}
use Rattle.std.proofs.lemmas.List.{length_push}
use Rattle.std.proofs.lemmas.Option.{same_Some}
use Rattle.types.specs.Run.{State}
use Rattle.effects.specs.Rounds.{needs_of}
use Rattle.statement_steps.specs.declared.thread.Plan.{Plan}
use Rattle.task_run.specs.Frames.{Frame, IsTask, handed}
use Rattle.task_run.specs.Given.{given, told_of}
use Rattle.task_run.specs.MayRun.{IsEndOf}
use Rattle.task_run.specs.OwnRun.{Own, Start}
use Rattle.task_run.specs.Results.{TaskResult}
use Rattle.task_run.specs.Reached.{has_ended}
use Rattle.task_run.specs.Runs.{root, MayStand}
use Rattle.task_run.specs.RunTurns.{ComesBack, IsTurn, Waits}
use Rattle.task_run.specs.Settling.{settle}
use Rattle.task_run.specs.Standings.{IsAt}
use Rattle.task_run.specs.Translation.{settled}
use Rattle.task_run.specs.declared.result.Settled.{Settled}
use Rattle.task_run.specs.declared.result.TaskResult.{TaskResult as Made}
use Rattle.task_run.specs.declared.run.Run.{Run}
use Rattle.task_run.specs.declared.turn.Paused.{Paused}
use Rattle.task_run.specs.declared.turn.Turn.TheVariants.{Ended}
use Rattle.task_run.proofs.AcceptedPrograms.{told, provides_needs}
use Rattle.task_run.proofs.HoldingTurns.{root_begins as may_root}
use Rattle.task_run.proofs.ReachedTasks.{goes}
use Rattle.task_run.proofs.RunsGoOn.{goes_behind, stays}
use Rattle.race_checker.proofs.Calming.{is_calm}
use Rattle.race_checker.proofs.Scoping.{is_scoped}
use Rattle.gather.specs.GivesBack.{all_owned}
use Rattle.task_run.specs.Jobs.{program_of, lists_of, budget_of, outcome_of, IsJob}
use Rattle.task_run.specs.declared.job.Job.{Job}
use Rattle.gather.proofs.TasksGiveBack.{comes_back}
use Rattle.weighted_task.specs.Ends.{Comes, EndsFinish, EndsMain, EndsSo}
use Rattle.weighted_task.specs.Tasks.{GoesBy, IsResultOf}
use Rattle.weighted_task.specs.declared.finish.Owner.{Owner}
use Rattle.weighted_task.specs.declared.finish.Owner.TheVariants.{Main, Finish}
use Rattle.weighted_task.specs.declared.finish.Waiting.{Waiting}
use Rattle.weighted_task.specs.declared.stake.Stake.{Stake}
use Rattle.weighted_task.proofs.Counting.{open_behind}
use Rattle.weighted_task.proofs.Staying.{fits}

module _ (j : Job) (outer : List Stake) (n : ℕ) (old : Run) (g : GoesBy j outer n old) (made : Made)
    (is : IsTurn (needs_of (program_of j)) old (Ended made)) where
  abbrev ended : IsEndOf (program_of j) (lists_of j) (budget_of j) g.may.start made
  ended = stays (program_of j) (lists_of j) (budget_of j) old (Ended made) g.may is

  -- a task that has finished has made its result
  pub is_result : IsResultOf j made
  is_result = has_ended (record { start = g.may.start; state = ended.0; ended = ended.1; is = ended.2 })

  -- the one that finishes with the empty path is the root
  pub root_ends : made.path.turns.items ≡ [] → EndsMain j made
  root_ends e = record {
    state = ended.0;
    stands =
        subst (λ (s : Start). MayStand (program_of j) (lists_of j) (budget_of j) s (record { frames = []; state = ended.0 })) same
        ended.1;
    is = ended.2;
  }
    where
      ok : IsJob j
      ok = g.job

      task : IsTask (program_of j) (needs_of (program_of j)) (budget_of j).steps (root (program_of j) (lists_of j) (budget_of j)) g.may.start
          (record { frames = []; state = ended.0 })
      task =
          (goes (program_of j) (needs_of (program_of j)) (is_scoped (program_of j) ok.sound) (is_calm (program_of j) ok.sound ok.accepted)
          (provides_needs (program_of j) ok.sound) (budget_of j).steps (root (program_of j) (lists_of j) (budget_of j)) refl
          (may_root (program_of j) (needs_of (program_of j)) (is_scoped (program_of j) ok.sound)
          (is_calm (program_of j) ok.sound ok.accepted) (provides_needs (program_of j) ok.sound) (lists_of j) (budget_of j).nest
          (fits j ok)) ended.1).task

      path : g.may.start.path ≡ []
      path = sym task.path ∙ ap (λ (r : TaskResult). r.path) (sym ended.2) ∙ e

      same : g.may.start ≡ root (program_of j) (lists_of j) (budget_of j)
      same =
          same_Some _ _ (sym task.comes
          ∙ ap (given (program_of j) (needs_of (program_of j)) (budget_of j).steps (root (program_of j) (lists_of j) (budget_of j))) path)

-- the settled result of the root is reported as the one-thread outcome
pub main_told : (w : Waiting) (s : Settled) → w.owner ≡ Main → Comes w s → told_of (program_of w.job) (settled s) ≡ outcome_of w.job
main_told w s at c =
    told (program_of w.job) ok.sound ok.accepted (lists_of w.job) (budget_of w.job) (fits w.job ok) ends.state ends.stands c.results
    (settled s) c.tasks
    (ap (λ (r : TaskResult). settle r c.results) (sym ends.is) ∙ sym c.settles)
  where
    ok : IsJob w.job
    ok = c.waits.0

    ends : EndsMain w.job c.made
    ends = subst (λ (o : Owner). EndsSo w.job o c.made w.outer.items w.opened) at c.waits.1

module _ (w : Waiting) (s : Settled) (q : Paused) (at : w.owner ≡ Finish q) (c : Comes w s) where
  ok : IsJob w.job
  ok = c.waits.0

  pub ends : EndsFinish w.job q c.made w.outer.items w.opened
  ends = subst (λ (o : Owner). EndsSo w.job o c.made w.outer.items w.opened) at c.waits.1

  back : ComesBack s ends.may.state
  back =
      comes_back ends.may.state s
      (λ p. c.owned p ∙ ap (λ (r : TaskResult). all_owned r p) ends.may.made)

  -- the run that continues is of the task that waited
  pub goes_on : (r : Run) → r.plan ≡ q.plan → r.thread.nest ≡ q.nest
      → ((fs : List (Frame Own)) (before st : State Own) → Waits q fs before st → ComesBack s st
      → IsAt r (record { frames = fs; state = handed before (settled s) st }))
      → (outer : List Stake) (stake : Stake) → w.outer.items ≡ outer ++ stake ∷ [] → GoesBy w.job outer w.opened r
  goes_on r plan nest stands outer stake was =
      let at_r = stands ends.may.frames ends.may.before ends.may.state ends.may.waits back in
      let same = open_behind r.frames.items q.frames.items ends.may.frames at_r.shows.frames ends.may.waits.frames in
      let steps = ap (λ (x : State Own). x.steps) at_r.is in
      let kept = ends.may.waits.steps in
      let scopes = ends.scopes in
      let long = ap length was ∙ length_push outer stake in
      let opened = ends.opened in
      record {
        job = ok;
        may =
            (goes_behind (program_of w.job) ok.sound ok.accepted (lists_of w.job) (budget_of w.job) (fits w.job ok) q c.made ends.may
            c.results c.tasks (settled s) (sym c.settles) r plan nest at_r).0;
        budget = ap (λ (x : Plan). x.budget) plan ∙ ends.budget;
        scopes = omega (arith, same, scopes, long);
        opened = omega (arith, steps, kept, opened);
      }
