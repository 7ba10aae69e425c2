-- The job of a run, as the definitions have it.
use Rattle.std.specs.Prelude.{List, ℤ}
use Rattle.types.specs.Code.{Program}
use Rattle.types.specs.Contents.{FitsArrays}
use Rattle.types.specs.Outcome.{Budget, Outcome, outcome}
use Rattle.types.specs.Translation.{budget, input}
use Rattle.types.specs.Typed.{code_of}
use Rattle.effects.specs.Sound.{IsSound}
use Rattle.race_checker.specs.Clash.{IsAccepted}
use Rattle.task_run.specs.declared.job.Job.{Job}

module _ (j : Job) where
  -- the program
  abbrev pub program_of : Program
  program_of = code_of j.accepted.now.typed

  -- the contents of the arrays at the start
  abbrev pub lists_of : List (List ℤ)
  lists_of = input j.input.now

  abbrev pub budget_of : Budget
  budget_of = budget j.budget

  -- its outcome on one thread
  abbrev pub outcome_of : Outcome
  outcome_of = outcome program_of lists_of budget_of

  -- the program is right and has no race, and the input fits its arrays
  pub record IsJob : Type 0 where
    pub sound : IsSound program_of
    pub accepted : IsAccepted program_of
    pub fits : FitsArrays program_of.arrays lists_of
