-- A run whose next statement has code, and its state after this code has run.
use Rattle.std.specs.Prelude.{ℕ, ◌+◌, ◌<◌, ◌≤◌, ◌≡◌, List, [], ◌∷◌, ◌++◌, length, Some, slice_index_or}
use Rattle.std.specs.Borrow.{Bor}
use Rattle.types.specs.declared.code.Stmt.{Stmt}
use Rattle.types.specs.Code.{Codes}
use Rattle.types.specs.Meaning.{one}
use Rattle.types.specs.Run.{Block}
use Rattle.types.specs.Translation.{program}
use Rattle.statement_steps.specs.declared.flow.Flow.TheVariants.{On as rOn}
use Rattle.serial_run.specs.Machines.{IsCodeOf}
use Rattle.serial_run.specs.declared.code.Flat.{Flat}
use Rattle.plain_code.specs.Pieces.{piece_of}
use Rattle.plain_code.specs.declared.pieces.ProgramCode.{ProgramCode}
use Rattle.task_run.specs.Standings.{state_of}
use Rattle.task_run.specs.Translation.{owned_by}
use Rattle.task_run.specs.declared.frame.TaskFrame.{TaskFrame as rFrame}
use Rattle.task_run.specs.declared.frame.TaskFrame.TheVariants.{Rest as rRest}
use Rattle.task_run.specs.declared.run.Run.{Run}

-- the code with a number
abbrev pub code_at : ProgramCode → (number : ℕ) → Flat → Type 0
code_at c number f = slice_index_or c.codes.items number f ≡ f

-- The flow is on, and the top frame is a block. Its first statement has code with this number, for
-- which the environment has room. `rest` is the rest of the block.
pub record HasPiece (c : ProgramCode) (r : Run) (number : ℕ) (rest : Bor (List Stmt)) : Type 0 where
  pub on : r.thread.flow ≡ rOn
  pub below : List rFrame
  pub block : Bor (List Stmt)
  pub first : Stmt
  pub top : r.frames.items ≡ below ++ rRest block ∷ []
  pub parts : block.now ≡ first ∷ rest.now
  pub piece : Some number ≡ piece_of c first.label
  pub there : number < length c.codes.items
  pub flat : Flat
  pub read : code_at c number flat
  pub scalars : (f : Flat) → code_at c number f → length r.thread.environment.scalars.items ≤ f.limits.scalars
  pub sections : (f : Flat) → code_at c number f
      → length r.thread.environment.windows.items ≤ f.limits.sections

-- The code with this number has done the first statement of the top frame, and `rest` is the rest
-- of the block. For each block that this is the code of, the task is in the state in which the
-- block leaves it on one thread.
pub record IsPassed (c : ProgramCode) (number : ℕ) (rest : Bor (List Stmt)) (old new : Run) : Type 0 where
  pub plan : new.plan ≡ old.plan
  pub nest : new.thread.nest ≡ old.thread.nest
  pub pending : new.pending ≡ old.pending
  pub owned : owned_by new.thread.store.holdings ≡ owned_by old.thread.store.holdings
  pub few : new.thread.spawned + new.thread.steps ≤ old.plan.budget.steps
  pub frames : (below : List rFrame) (b : Bor (List Stmt)) → old.frames.items ≡ below ++ rRest b ∷ []
      → new.frames.items ≡ below ++ rRest rest ∷ []
  pub state : (b : Codes) (f : Flat) → code_at c number f → IsCodeOf (program old.plan.program.now) b f
      → state_of new.thread
      ≡ one (program old.plan.program.now) old.plan.budget.steps old.thread.nest (Block b)
      (state_of old.thread)
