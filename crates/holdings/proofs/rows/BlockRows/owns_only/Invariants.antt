use Rattle.std.proofs.Common.{◌<◌, ℕ, map}
use Rattle.sections.specs.Covers.{has}
use Rattle.sections.specs.Translation.{window as window_of}
use Rattle.holdings.proofs.JustLemmas.{RowStandsIn}
use Rattle.holdings.proofs.rows.BlockRows.owns_only.Given as goal

-- what the rows so far own are places of the windows
abbrev pub invariant-loop-array : goal.invariant-loop-array
invariant-loop-array l = (i : ℕ) → i < l.array → RowStandsIn l.self.list.items (has (map window_of l.windows)) i
