-- A run with a book at its end.
use Rattle.std.specs.Prelude.{List, ℤ}
use Rattle.types.specs.Code.{Program}
use Rattle.types.specs.Contents.{held_by}
use Rattle.types.specs.Meaning.{one}
use Rattle.types.specs.Outcome.{Budget, Outcome, outcome_by, start}
use Rattle.types.specs.Run.{Block}
use Rattle.statement_steps.specs.declared.store.Store.{Store}
use Rattle.statement_steps.specs.declared.thread.Thread.{Thread}
use Rattle.statement_steps.specs.Lists.{lists_of}
use Rattle.statement_steps.specs.Standing.{state_of}

-- the outcome of a run whose thread is this at its end
abbrev pub outcome_at : Thread Store → Outcome
outcome_at t = outcome_by (state_of t).flow (record {
  arrays = lists_of t.store;
  lines = (state_of t).lines;
  faults = (state_of t).faults;
})

-- what a program prints on one thread, until its end or until a task exceeds its budget
abbrev pub printed : Program → (input : List (List ℤ)) → Budget → List (List ℤ)
printed p input b =
    (one p b.steps b.nest (Block p.main.body) (start tt p b.steps (held_by input))).lines
