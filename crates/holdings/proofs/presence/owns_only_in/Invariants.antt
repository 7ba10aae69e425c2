use Rattle.std.proofs.Common.{◌≡◌, ◌<◌, ℕ, None, map, true}
use Rattle.sections.specs.Covers.{has}
use Rattle.sections.specs.Translation.{window as window_of}
use Rattle.blocks.specs.Blocks.{owned_at}
use Rattle.holdings.specs.Rows.{place_at}
use Rattle.holdings.proofs.presence.owns_only_in.Given as goal

-- so far all that is owned are places of the windows
abbrev pub invariant-loop-offset : goal.invariant-loop-offset
invariant-loop-offset l =
    (k : ℕ) → k < l.offset → (owned_at l.block k ≡ None → ⊥) → has (map window_of l.windows) (place_at l.array l.number k) ≡ true
