-- What a whole run of a task in Rust comes to.
use Rattle.std.specs.Prelude.{ℕ, ◌≡◌, ◌<◌, ◌≤◌, [], length, Some}
use Rattle.types.specs.Code.{Codes, Program}
use Rattle.types.specs.Meaning.{one}
use Rattle.types.specs.Run.{Block, State}
use Rattle.statement_steps.specs.declared.thread.Thread.{Thread}
use Rattle.serial_run.specs.Machines.{IsCodeOf}
use Rattle.serial_run.specs.declared.code.Flat.{Flat}
use Rattle.plain_code.specs.Pieces.{body_of}
use Rattle.plain_code.specs.declared.pieces.BodyCode.{BodyCode}
use Rattle.plain_code.specs.declared.pieces.ProgramCode.{ProgramCode}
use Rattle.task_run.specs.Apart.{is_stopped}
use Rattle.task_run.specs.InPlace.{IsKeptWhole, result_in_place}
use Rattle.task_run.specs.OwnRun.{beginning}
use Rattle.task_run.specs.Passed.{code_at}
use Rattle.task_run.specs.Places.{Places}
use Rattle.task_run.specs.Results.{TaskResult}
use Rattle.task_run.specs.Standings.{state_of}
use Rattle.task_run.specs.Translation.{owned_by, start, task_result}
use Rattle.task_run.specs.declared.memory.TaskMemory.{TaskMemory}
use Rattle.task_run.specs.declared.start.Start.{Start as rStart}
use Rattle.task_run.specs.declared.whole.WholeRun.{WholeRun}
use Rattle.task_run.specs.declared.whole.WholeRun.TheVariants.{Made, Cut, Again}

-- the code of a start's body, with room for its environment
pub record FitsBody (c : ProgramCode) (s : rStart) (b : BodyCode) : Type 0 where
  pub body : Some b ≡ body_of c s.label
  pub there : b.number < length c.codes.items
  pub flat : Flat
  pub read : code_at c b.number flat
  pub scalars : (f : Flat) → code_at c b.number f → length s.environment.scalars.items ≤ f.limits.scalars
  pub sections : (f : Flat) → code_at c b.number f → length s.environment.windows.items ≤ f.limits.sections

-- the thread of a task at the end of its body, which ran by this code
pub record EndsBody (p : Program) (fresh : ℕ) (c : ProgramCode) (b : BodyCode) (s : rStart)
    (t : Thread TaskMemory) : Type 0 where
  pub owned : owned_by t.store.holdings ≡ owned_by s.holdings
  pub state : (is : Codes) (f : Flat) → code_at c b.number f → IsCodeOf p is f
      → state_of t ≡ one p fresh s.nest (Block is) (beginning tt fresh (start s))

-- what a task has made that ended in this state and owns these places, without children
abbrev pub result_by : State (Unit {0}) → Places → TaskResult
result_by st owned = record {
  path = st.path;
  stopped = is_stopped st.flow;
  contents = st.store;
  owned = owned;
  lines = st.lines;
  faults = st.faults;
  children = [];
}

module _ (p : Program) (fresh : ℕ) (s : rStart) where
  -- an equal start, of the same async
  pub record IsSame (t : rStart) : Type 0 where
    pub start : start t ≡ start s
    pub label : t.label ≡ s.label

  -- the result of a task that ran whole is what one thread has made at its end, if that counts; a task
  -- that is to run in another way is at its start
  abbrev pub RunsWhole : WholeRun → Type 0
  RunsWhole (Made r begun) = (task_result r ≡ result_in_place p fresh (start s)) × IsKeptWhole p fresh (start s)
  RunsWhole (Cut begun) = Unit {0}
  RunsWhole (Again t) = IsSame t
