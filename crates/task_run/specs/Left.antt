-- An upper bound for the number of turns that a run still needs, with those of all tasks that it
-- may spawn.
use Rattle.std.specs.Prelude.{ℕ, zero, suc, ◌+◌, ◌*◌, List, [], ◌∷◌}
use Rattle.types.specs.declared.code.Stmt.{Stmt}
use Rattle.statement_steps.specs.declared.flow.Flow.{Flow}
use Rattle.statement_steps.specs.declared.flow.Flow.TheVariants.{On, Faulted, Stopped}
use Rattle.task_run.specs.declared.frame.TaskFrame.{TaskFrame}
use Rattle.task_run.specs.declared.frame.TaskFrame.TheVariants.{Rest, Again, Turns, EndFinish, OnFault}
use Rattle.task_run.specs.declared.frame.TaskFrame.TheVariants.{EndCall}
use Rattle.task_run.specs.declared.run.Run.{Run}
use Rattle.task_run.specs.declared.turn.Paused.{Paused}
use Rattle.task_run.specs.declared.turn.Turn.{Turn}
use Rattle.task_run.specs.declared.turn.Turn.TheVariants.{Going, Spawns, EntersFinish, EndsFinish}
use Rattle.task_run.specs.declared.turn.Turn.TheVariants.{Ended, Over}

-- an upper bound for the number of turns per step, if asyncs may be nested `nest` levels deep: a
-- child has `fresh` steps of its own, and one nesting level less
abbrev pub rate : (fresh nest : ℕ) → ℕ
rate fresh zero = 18
rate fresh (suc nest) = fresh * rate fresh nest + 18

-- a block needs a turn in addition to those of its steps, and one more if the rest is skipped
abbrev pub block_cost : List Stmt → ℕ
block_cost [] = 1
block_cost (s ∷ rest) = 2

-- the number of turns that a frame itself may need
abbrev pub cost : TaskFrame → ℕ
cost (Rest b) = block_cost b.now
cost (Again l t b) = 1
cost (Turns t) = 1
cost (EndFinish outer) = 8
cost (OnFault before faults handler) = 4
cost (EndCall env) = 1

-- a sum over a list
abbrev pub total : {A : Type 0} → (A → ℕ) → List A → ℕ
total f [] = 0
total f (x ∷ xs) = f x + total f xs

-- the sum over frames
abbrev pub costs : List TaskFrame → ℕ
costs = total cost

-- a task that continues may need one more turn, in which it is stopped
abbrev pub stop_cost : Flow → ℕ
stop_cost On = 1
stop_cost Faulted = 0
stop_cost Stopped = 0

-- the bound of a run
abbrev pub left_of : Run → ℕ
left_of r =
    r.thread.steps * rate r.plan.budget.steps r.thread.nest
    + costs r.frames.items + stop_cost r.thread.flow + 1

-- the bound of a run that waits at the end of a finish
abbrev pub left_of_paused : Paused → ℕ
left_of_paused q = q.steps * rate q.plan.budget.steps q.nest + costs q.frames.items + 5

-- the bound of a task before its first turn
abbrev pub left_of_start : (fresh nest : ℕ) → ℕ
left_of_start fresh nest = fresh * rate fresh nest + 5

-- the bound of what a turn returns
abbrev pub left_after : (fresh : ℕ) → Turn → ℕ
left_after fresh (Going r) = left_of r
left_after fresh (Spawns r s) = left_of r + left_of_start fresh s.nest
left_after fresh (EntersFinish r) = left_of r
left_after fresh (EndsFinish q x) = left_of_paused q
left_after fresh (Ended x) = 0
left_after fresh (Over r) = left_of r
