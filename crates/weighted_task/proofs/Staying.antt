-- All results of a turn are of the job's tasks.
use Rattle.std.proofs.Common.{◌≡◌, ℕ, ◌+◌, ◌≤◌, List, [], length, sym, ap, ◌∙◌, subst, arith}
use Rattle.types.specs.Contents.{FitsArrays}
use Rattle.types.specs.Run.{State}
use Rattle.types.specs.Translation.{program}
use Rattle.effects.specs.Rounds.{needs_of}
use Rattle.statement_steps.specs.declared.thread.Plan.{Plan}
use Rattle.task_run.specs.MayRun.{MayRun, MayStart}
use Rattle.task_run.specs.OwnRun.{Own, Start as Given}
use Rattle.task_run.specs.Reached.{begun}
use Rattle.task_run.specs.RunTurns.{CanTurn, GoesOn, IsTurn, NextIsOf}
use Rattle.task_run.specs.Standings.{IsAt}
use Rattle.task_run.specs.Translation.{start}
use Rattle.task_run.specs.declared.result.TaskResult.{TaskResult as Made}
use Rattle.task_run.specs.declared.run.Run.{Run}
use Rattle.task_run.specs.declared.start.Start.{Start}
use Rattle.task_run.specs.declared.turn.Paused.{Paused}
use Rattle.task_run.specs.declared.turn.Turn.{Turn}
use Rattle.task_run.specs.declared.turn.Turn.TheVariants.{Going, Spawns, EntersFinish, EndsFinish, Ended, Over}
use Rattle.task_run.proofs.BelongingTasks.{can_turn, IsAsync, next_is_of}
use Rattle.task_run.proofs.RunsGoOn.{begins, stays, stays_on}
use Rattle.task_run.specs.Jobs.{program_of, lists_of, budget_of, IsJob}
use Rattle.task_run.specs.declared.job.Job.{Job}
use Rattle.weighted_task.specs.Ends.{EndsFinish as EndsAFinish}
use Rattle.weighted_task.specs.Tasks.{GoesBy, IsFirst}
use Rattle.weighted_task.specs.declared.stake.ScopeMark.{ScopeMark}
use Rattle.weighted_task.specs.declared.stake.Stake.{Stake}
use Rattle.weighted_task.specs.declared.task.Body.{Body}
use Rattle.weighted_task.proofs.Counting.{Opened, Changes, changes, goes_on_opened, none_open}

pub fits : (j : Job) → IsJob j → FitsArrays (program_of j).arrays (lists_of j)
fits j ok = ok.fits

module _ (j : Job) where
  -- a run that represents the same task, with so many finishes started
  goes_by : (outer more : List Stake) (n k : ℕ) (old r : Run) → GoesBy j outer n old → Opened old k r
      → MayRun (program_of j) (lists_of j) (budget_of j) r → length more ≡ length outer + k → GoesBy j more (n + k) r
  goes_by outer more n k old r g o may e =
      let s = g.scopes in
      let f = o.finishes in
      let a = g.opened in
      let b = o.steps in
      record {
        job = g.job;
        may = may;
        budget = ap (λ (q : Plan). q.budget) o.plan ∙ g.budget;
        scopes = omega (arith, s, f, e);
        opened = omega (arith, a, b);
      }

  module _ (outer : List Stake) (n : ℕ) (old : Run) (g : GoesBy j outer n old) where
    abbrev Taken : Turn → Type 0
    Taken t = IsTurn (needs_of (program_of j)) old t

    abbrev changed : (t : Turn) → Taken t → Changes old t
    changed t is = changes old (needs_of (program_of j)) t g.may.frames g.may.own g.may.shows is

    same_goes : (r : Run) → Opened old 0 r → MayRun (program_of j) (lists_of j) (budget_of j) r → GoesBy j outer n r
    same_goes r o may =
        let same : n + 0 ≡ n = omega arith in
        subst (λ (k : ℕ). GoesBy j outer k r) same (goes_by outer outer n 0 old r g o may (omega arith))

    pub going : (r : Run) → Taken (Going r) → GoesBy j outer n r
    going r is =
        same_goes r (changed (Going r) is) (stays (program_of j) (lists_of j) (budget_of j) old (Going r) g.may is).0

    pub over : (r : Run) → Taken (Over r) → GoesBy j outer n r
    over r is =
        same_goes r (changed (Over r) is) (stays (program_of j) (lists_of j) (budget_of j) old (Over r) g.may is).0

    pub spawning : (r : Run) (s : Start) → Taken (Spawns r s) → GoesBy j outer n r
    spawning r s is =
        same_goes r (changed (Spawns r s) is) (stays (program_of j) (lists_of j) (budget_of j) old (Spawns r s) g.may is).0.0

    pub child_starts : (r : Run) (s : Start) → Taken (Spawns r s)
        → MayStart (program_of j) (lists_of j) (budget_of j) (start s)
    child_starts r s is = (stays (program_of j) (lists_of j) (budget_of j) old (Spawns r s) g.may is).1

    pub entering : (r : Run) → Taken (EntersFinish r) → (more : List Stake) → length more ≡ length outer + 1 → GoesBy j more (n + 1) r
    entering r is more e =
        goes_by outer more n 1 old r g (changed (EntersFinish r) is)
        (stays (program_of j) (lists_of j) (budget_of j) old (EntersFinish r) g.may is).0 e

    -- therefore there is room to count the finish
    pub few_opened : (r : Run) → Taken (EntersFinish r) → n + 1 ≤ j.budget.steps
    few_opened r is =
        let a = g.opened in
        let b = (changed (EntersFinish r) is).steps in
        omega (arith, a, b)

    pub waiting : (q : Paused) (made : Made) → Taken (EndsFinish q made) → EndsAFinish j q made outer n
    waiting q made is =
        let left = changed (EndsFinish q made) is in
        let s = g.scopes in
        let f = left.finishes in
        let a = g.opened in
        let b = left.steps in
        record {
          may = (stays (program_of j) (lists_of j) (budget_of j) old (EndsFinish q made) g.may is).0;
          budget = ap (λ (x : Plan). x.budget) left.plan ∙ g.budget;
          scopes = omega (arith, s, f);
          opened = omega (arith, a, b);
        }

    -- a task that has finished is in no finish
    pub none_held : (made : Made) → Taken (Ended made) → length outer ≡ 0
    none_held made is = g.scopes ∙ changed (Ended made) is

  -- ---- turns that continue
  pub goes_far : (outer : List Stake) (n : ℕ) (old new : Run) → GoesBy j outer n old
      → GoesOn (needs_of (program_of j)) old new → GoesBy j outer n new
  goes_far outer n old new g far =
      same_goes outer n old g new (goes_on_opened old (needs_of (program_of j)) new g.may.frames g.may.own g.may.shows far)
      (stays_on (program_of j) (lists_of j) (budget_of j) old new g.may far).0

  pub can_go : (outer : List Stake) (n : ℕ) (old new : Run) → GoesBy j outer n old
      → GoesOn (needs_of (program_of j)) old new → CanTurn (needs_of (program_of j)) (IsAsync (program_of j)) new
  can_go outer n old new g far =
      can_turn (program_of j) g.job.sound g.job.accepted (lists_of j) (budget_of j) (fits j g.job) new
      (goes_far outer n old new g far).may

  -- and its next statement is the program's
  pub next_of : (outer : List Stake) (n : ℕ) (old new : Run) → GoesBy j outer n old
      → GoesOn (needs_of (program_of j)) old new → NextIsOf (program_of j) new
  next_of outer n old new g far =
      next_is_of (program_of j) g.job.sound g.job.accepted (lists_of j) (budget_of j) (fits j g.job) new
      (goes_far outer n old new g far).may

  -- ---- a task at its start
  pub first_goes : (ok : IsJob j) (s : Given) (r : Run) (b : Body) (scope : ScopeMark)
      → MayStart (program_of j) (lists_of j) (budget_of j) s → r.plan.budget ≡ j.budget → program r.plan.program.now ≡ program_of j
      → r.thread.nest ≡ s.nest → IsAt r (begun j.budget.steps s) → IsFirst j r scope b → GoesBy b.job b.outer.items b.opened r
  first_goes ok s r b scope starts budget is nest at first =
      subst (λ (k : Job). GoesBy k b.outer.items b.opened r) (sym first.job)
      (subst (λ (o : List Stake). GoesBy j o b.opened r) (sym first.outer)
      (subst (λ (n : ℕ). GoesBy j [] n r) (sym first.opened) begins_by))
    where
      steps : r.thread.steps ≡ j.budget.steps
      steps = ap (λ (x : State Own). x.steps) at.is

      begins_by : GoesBy j [] 0 r
      begins_by = record {
        job = ok;
        may = (begins (program_of j) (lists_of j) (budget_of j) r s starts is nest at).0;
        budget = budget;
        scopes = sym (none_open r s.body at.shows.frames);
        opened = omega (arith, steps);
      }
