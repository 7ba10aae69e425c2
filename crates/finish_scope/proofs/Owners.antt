-- An owner that passes, and its results, are of the run.
use Rattle.std.proofs.Common.{◌≡◌, List, [], ◌∷◌, Option, Some, subst, sym}
use Rattle.task_run.specs.Lists.{Each}
use Rattle.task_run.specs.declared.result.TaskResult.{TaskResult as Made}
use Rattle.task_run.specs.declared.job.Job.{Job}
use Rattle.weighted_task.specs.Tasks.{IsResultOf}
use Rattle.finish_scope.specs.Own.{IsOwnOwner, IsOwnPassing, IsOwnResting, IsResultOfRun}
use Rattle.finish_scope.specs.declared.resting.Passing.{Passing}
use Rattle.finish_scope.specs.declared.resting.Resting.{Resting}

module _ (o : Option Job) where
  -- results of a run are those of its job
  pub results_are_of_the_job : (j : Job) → o ≡ Some j → (rs : List Made) → Each (IsResultOfRun o) rs → Each (IsResultOf j) rs
  results_are_of_the_job j is [] all = tt
  results_are_of_the_job j is (r ∷ rs) all = (all.0 j is, results_are_of_the_job j is rs all.1)

  -- a parked owner is of the run
  pub owner_is_of_the_run : (x : Option Resting) (r : Resting) → x ≡ Some r → IsOwnOwner o x → IsOwnResting o r
  owner_is_of_the_run x r is own = subst (IsOwnOwner o) is own

  -- a scope that passes with that owner is of the run
  pub passing_is_of_the_run : (x : Option Resting) (r : Resting) → x ≡ Some r → IsOwnOwner o x
      → (rs : List Made) → Each (IsResultOfRun o) rs → (p : Passing) → p.owner ≡ r → p.results.items ≡ rs
      → IsOwnPassing o p
  passing_is_of_the_run x r is own rs all p owner results =
      let rests = subst (IsOwnResting o) (sym owner) (owner_is_of_the_run x r is own) in record {
        job = rests.job;
        can = record {
          ends = rests.ends;
          results = results_are_of_the_job p.owner.parked.value.job rests.job p.results.items
              (subst (Each (IsResultOfRun o)) (sym results) all);
        };
      }
