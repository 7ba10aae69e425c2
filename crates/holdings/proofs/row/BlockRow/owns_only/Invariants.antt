use Rattle.std.proofs.Common.{◌+◌, ◌<◌, ℕ, map}
use Rattle.sections.specs.Covers.{has}
use Rattle.sections.specs.Translation.{window as window_of}
use Rattle.holdings.specs.Rows.{StandsIn, block_in}
use Rattle.holdings.proofs.JustLemmas.{owned_of}
use Rattle.holdings.proofs.row.BlockRow.owns_only.Given as goal

-- what the blocks so far own are places of the windows
abbrev pub invariant-loop-at : goal.invariant-loop-at
invariant-loop-at l =
    (j : ℕ) → j < l.self.first + l.at → StandsIn (has (map window_of l.windows)) l.array j (owned_of (block_in l.self j))
