-- A run on one thread that keeps a book in addition to its states: the one recursion over
-- statements, with rules that record what each step, each async and each finish does.
use Rattle.std.specs.Prelude.{ℕ, zero, suc, ◌+◌, length}
use Rattle.types.specs.Code.{Codes, Program}
use Rattle.types.specs.Meaning.{hushed, joined, child, after_body, after_finish}
use Rattle.types.specs.Run.{State, Rules, Work, Block, stopped, run}
use Rattle.cost.specs.Copied.{copied_at}

-- what a book records
pub record Book (X : Type 0) : Type 0 where
  -- a statement takes its step
  pub steps : (label : ℕ) → X → X
  -- an async takes its step, and then its task starts, inside this number of asyncs, and copies
  -- this number of places
  pub begins : (label depth copied : ℕ) → X → X
  -- the task has ended, and `before` was recorded before it
  pub ends : (before out : X) → X
  -- a finish takes its step
  pub enters : (label : ℕ) → X → X
  -- the finish has ended, and `before` was recorded before it
  pub leaves : (before out : X) → X

module _ {X : Type 0} (book : Book X) where
  -- a parent continues as it was, but with the writes, the output and the book of its child
  abbrev pub after_booked : (before out : State X) → State X
  after_booked before out = record (after_body before out) { extra = book.ends before.extra out.extra }

  -- the rules of one thread, if `begin` runs an async's body
  abbrev pub booked_by : ((label : ℕ) → Codes → State X → State X) → Rules X
  booked_by begin = record {
    stepped = book.steps;
    begin = begin;
    enter = λ l st. hushed (record st { extra = book.enters l st.extra });
    leave = λ before out. joined before (record out {
      flow = after_finish out.flow out.faults;
      extra = book.leaves before.extra out.extra;
    });
  }

  module _ (p : Program) where
    -- a task that starts its next child, after the step of the async was taken
    abbrev pub beginning_booked : (label : ℕ) → State X → State X
    beginning_booked l st = record st {
      extra = book.begins l (length st.path + 1) (copied_at p l st.environment) st.extra;
    }

    -- an async, if this number of asyncs may be nested; a child starts with `fresh` steps
    abbrev pub begin_booked : (fresh nest : ℕ) → (label : ℕ) → Codes → State X → State X
    begin_booked fresh zero l b st = stopped st
    begin_booked fresh (suc n) l b st =
        after_booked (beginning_booked l st)
        (run p (booked_by (begin_booked fresh n)) (Block b) (child fresh (beginning_booked l st)))

    -- the rules of one thread
    abbrev pub booked_rules : (fresh nest : ℕ) → Rules X
    booked_rules fresh nest = booked_by (begin_booked fresh nest)

    -- the one-thread meaning
    abbrev pub booked : (fresh nest : ℕ) → Work → State X → State X
    booked fresh nest = run p (booked_rules fresh nest)
