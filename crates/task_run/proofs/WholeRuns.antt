-- A run of a body on one thread, and the result of a task that ran whole.
use Rattle.std.proofs.Common.{◌≡◌, ℕ, zero, suc, List, [], Ok, Err, refl, ap, ◌∙◌}
use Rattle.std.specs.Prelude.{IfOk, Result, true}
use Rattle.types.specs.Code.{Async, Codes, Program}
use Rattle.types.specs.Laws.{IsKept}
use Rattle.types.specs.Meaning.{begin_one, one, one_rules}
use Rattle.types.specs.Run.{Block, State}
use Rattle.types.specs.Translation.{codes}
use Rattle.types.proofs.Keeps.{run_keeps}
use Rattle.effects.specs.Statements.{HasStatement}
use Rattle.statement_steps.specs.declared.thread.Thread.{Thread}
use Rattle.serial_run.specs.Limits.{IfDone}
use Rattle.serial_run.specs.declared.passing.Limited.{Limited}
use Rattle.serial_run.specs.declared.passing.Limited.TheVariants.{Done, Cut}
use Rattle.plain_code.specs.Pieces.{IsBodyOf, IsCodeOfProgram}
use Rattle.plain_code.specs.Plain.{ArePlain}
use Rattle.plain_code.specs.declared.pieces.BodyCode.{BodyCode}
use Rattle.plain_code.specs.declared.pieces.ProgramCode.{ProgramCode}
use Rattle.task_run.specs.Apart.{is_stopped}
use Rattle.task_run.specs.InPlace.{in_place, result_in_place}
use Rattle.task_run.specs.OwnRun.{beginning}
use Rattle.task_run.specs.Results.{TaskResult}
use Rattle.task_run.specs.Standings.{state_of}
use Rattle.task_run.specs.Translation.{owned_by, start}
use Rattle.task_run.specs.WholeRuns.{EndsBody, FitsBody, result_by}
use Rattle.task_run.specs.declared.memory.TaskMemory.{TaskMemory}
use Rattle.task_run.specs.declared.start.Start.{Start as rStart}

-- a task on one thread keeps its path
begin_path : (p : Program) (fresh nest : ℕ) (b : Codes) (st : State (Unit {0})) → (begin_one p fresh nest b st).path ≡ st.path
begin_path p fresh zero b st = refl
begin_path p fresh (suc n) b st = refl

path_kept : (p : Program) (fresh nest : ℕ) → IsKept (one_rules p fresh nest) (λ st to. to.path ≡ st.path)
path_kept p fresh nest = record {
  idle = λ st to path spawned extra there. path;
  further = λ a b c h k. k ∙ h;
  stepped = λ l st. refl;
  begin = λ l b st. begin_path p fresh nest b st;
  finish = λ l st out h. h;
}

pub one_path : (p : Program) (fresh nest : ℕ) (b : Codes) (st : State (Unit {0})) → (one p fresh nest (Block b) st).path ≡ st.path
one_path p fresh nest b st =
    run_keeps p (one_rules p fresh nest) (λ st to. to.path ≡ st.path) (path_kept p fresh nest) (Block b) st

-- two facts about the thread at the end of a run within a limit
pub both_done : {M E : Type 0} (P Q R : Thread M → Type 0) → ((t : Thread M) → P t → Q t → R t) → (r : Result (Limited M) E)
    → IfOk r (IfDone P) → IfOk r (IfDone Q) → IfOk r (IfDone R)
both_done P Q R both (Ok (Done t n)) h k = both t h k
both_done P Q R both (Ok (Cut n)) h k = tt
both_done P Q R both (Err e) h k = tt

module _ (p : Program) (fresh : ℕ) (c : ProgramCode) (s : rStart) (b : BodyCode) where
  -- the code of its body is that of the async that it is of
  body_code : IsCodeOfProgram p c → HasStatement p s.label (Async (codes s.body.now)) → FitsBody c s b
      → IsBodyOf p c.codes.items b (codes s.body.now)
  body_code code async fits = (code.bodies s.label b fits.body).of (codes s.body.now) async

  pub plain_body : IsCodeOfProgram p c → HasStatement p s.label (Async (codes s.body.now)) → FitsBody c s b → b.is_plain ≡ true
      → ArePlain p (codes s.body.now)
  plain_body code async fits = (body_code code async fits).plain

  -- at its end the thread is where one thread is at the end of the task
  pub ends_in_place : IsCodeOfProgram p c → HasStatement p s.label (Async (codes s.body.now)) → FitsBody c s b
      → (t : Thread TaskMemory) → EndsBody p fresh c b s t → state_of t ≡ in_place p fresh (start s)
  ends_in_place code async fits t ends =
      ends.state (codes s.body.now) fits.flat fits.read ((body_code code async fits).code fits.flat fits.read)

  -- and what it has made is what one thread has made
  pub made_so : (t : Thread TaskMemory) (r : TaskResult) → state_of t ≡ in_place p fresh (start s)
      → owned_by t.store.holdings ≡ owned_by s.holdings → r ≡ result_by (state_of t) (owned_by t.store.holdings)
      → r ≡ result_in_place p fresh (start s)
  made_so t r state owned made =
      let out = in_place p fresh (start s) in
      let by : List ℕ → TaskResult = λ path. record {
        path = path;
        stopped = is_stopped out.flow;
        contents = out.store;
        owned = owned_by s.holdings;
        lines = out.lines;
        faults = out.faults;
        children = [];
      } in
      made ∙ (λ i. result_by (state i) (owned i))
      ∙ ap by (one_path p fresh s.nest (codes s.body.now) (beginning tt fresh (start s)))
