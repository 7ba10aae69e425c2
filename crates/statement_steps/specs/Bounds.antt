-- Windows that lie in their arrays.
use Rattle.std.specs.Prelude.{ℕ, ◌+◌, ◌<◌, length, slice_index_or, []}
use Rattle.types.specs.Code.{Program}
use Rattle.types.specs.Contents.{FitsArrays}
use Rattle.sections.specs.Place.{Place, Window}
use Rattle.types.specs.Run.{array_of}
use Rattle.types.specs.Translation.{environment}
use Rattle.types.specs.Value.{Environment}
use Rattle.statement_steps.specs.declared.store.Store.{Store}
use Rattle.statement_steps.specs.declared.thread.Thread.{Thread}
use Rattle.statement_steps.specs.Lists.{lists_of}

-- each place of the window is one of its array
abbrev pub LiesInArray : Program → Window → Type 0
LiesInArray p w = (k : ℕ) → k < w.length → w.at + k < (array_of p w.array).length

-- each section's window lies in its array
abbrev pub LiesInArrays : Program → Environment → Type 0
LiesInArrays p env = (section : ℕ) → LiesInArray p (env.windows section)

-- the store has this place
abbrev pub HasPlace : Store → Place → Type 0
HasPlace s q = q.index < length (slice_index_or (lists_of s) q.array [])

-- there is a number for each element of each array, and the task's windows lie in the arrays
pub record IsInBounds (p : Program) (t : Thread Store) : Type 0 where
  pub store : FitsArrays p.arrays (lists_of t.store)
  pub windows : LiesInArrays p (environment t.environment)
