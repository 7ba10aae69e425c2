-- The number of places that are copied when an async starts a task, and when the task has ended.
-- What the body may write moves out and comes back. Blocks of 256 places that are wholly inside it
-- move as they are, and the places of other blocks move one by one.
use Rattle.std.specs.Prelude.{ℕ, ◌*◌, List, [], map, Option, None, Some}
use Rattle.sections.specs.Place.{Window}
use Rattle.types.specs.Code.{Codes, Program}
use Rattle.types.specs.Run.{array_of}
use Rattle.types.specs.Value.{Environment}
use Rattle.effects.specs.Rounds.{needs_of}
use Rattle.holdings.specs.Copied.{split_in}
use Rattle.cost.specs.Asyncs.{body_of_async}
use Rattle.cost.specs.Cover.{cover_of}

module _ (p : Program) where
  -- the number of places of each array
  abbrev pub length_of : (array : ℕ) → ℕ
  length_of a = (array_of p a).length

  -- the sections that a body may write, if there is one
  abbrev pub written_in : Option Codes → List ℕ
  written_in None = []
  written_in (Some b) = (needs_of p b).writes

  -- the sections that the body of the async with a label may write
  abbrev pub written_at : (label : ℕ) → List ℕ
  written_at l = written_in (body_of_async p l)

  -- the places of these sections, as a cover
  abbrev pub taken_at : (label : ℕ) → Environment → List Window
  taken_at l env = cover_of (map env.windows (written_at l))

  -- the number of places copied at an async, in this environment: when its task starts, and as many
  -- again when the task has ended
  abbrev pub copied_at : (label : ℕ) → Environment → ℕ
  copied_at l env = 2 * split_in length_of (taken_at l env)
