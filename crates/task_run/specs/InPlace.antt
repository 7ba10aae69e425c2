-- Tasks that run whole: all tasks below them run in place, and leave one result without children.
use Rattle.std.specs.Prelude.{ℕ, zero, suc, ◌≡◌, ◌⊎◌, List, [], ◌∷◌, flat_map, Some, Bool, false}
use Rattle.std.specs.Prelude.{if◌then◌else◌}
use Rattle.types.specs.Code.{Codes, Program}
use Rattle.types.specs.Meaning.{one}
use Rattle.types.specs.Run.{State, Block}
use Rattle.effects.specs.Needs.{Needs}
use Rattle.plain_code.specs.Plain.{IsPlainWork}
use Rattle.task_run.specs.Apart.{is_stopped}
use Rattle.task_run.specs.Results.{TaskResult}
use Rattle.task_run.specs.OwnRun.{Start, beginning, result_of}
use Rattle.task_run.specs.Given.{comes_to, own, given}

module _ (p : Program) (fresh : ℕ) where
  -- one thread at the end of a task, with all tasks below it
  abbrev pub in_place : Start → State (Unit {0})
  in_place s = one p fresh s.nest (Block s.body) (beginning tt fresh s)

  -- what it has made
  abbrev pub result_in_place : Start → TaskResult
  result_in_place s =
      let out = in_place s in
      record {
        path = s.path;
        stopped = is_stopped out.flow;
        contents = out.store;
        owned = s.owned;
        lines = out.lines;
        faults = out.faults;
        children = [];
      }

  -- it counts unless it was stopped: tasks apart may do more then, except below a plain body
  abbrev pub IsKeptWhole : Start → Type 0
  IsKeptWhole s = (is_stopped (in_place s).flow ≡ false) ⊎ IsPlainWork p (Block s.body)

module _ (p : Program) (needs : Codes → Needs) (fresh : ℕ) where
  -- the whole of a task: all that its start comes to, as one result
  abbrev pub whole : Start → TaskResult
  whole s =
      let all = comes_to p needs fresh s in
      record {
        path = s.path;
        stopped = all.stopped;
        contents = all.contents;
        owned = s.owned;
        lines = all.lines;
        faults = all.faults;
        children = [];
      }

  -- a result is made from a start: by the task's own run, or as the whole of the task
  pub data IsMadeFrom (s : Start) (r : TaskResult) : Type 0 where
    own_run : r ≡ result_of (own p needs fresh s) → IsMadeFrom s r
    whole_run : r ≡ whole s → IsMadeFrom s r

  -- if its path is given a start, a result is made from this start
  abbrev pub IsMade : Start → TaskResult → Type 0
  IsMade root r = (s : Start) → given p needs fresh root r.path ≡ Some s → IsMadeFrom s r

  -- any choice of the tasks that run whole
  module _ (runs_whole : Start → Bool) where
    -- the result of a task
    abbrev pub made_of : Start → TaskResult
    made_of s = if runs_whole s then whole s else result_of (own p needs fresh s)

    -- the results of all tasks below it: none if it runs whole
    abbrev pub made_below : (nest : ℕ) → Start → List TaskResult
    made_below zero s = []
    made_below (suc n) s =
        if runs_whole s then []
        else flat_map (λ c. made_of c.start ∷ made_below n c.start) (own p needs fresh s).extra.pending
