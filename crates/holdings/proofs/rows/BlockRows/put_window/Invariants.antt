use Rattle.std.proofs.Common.{◌≡◌, ◌+◌, ◌≤◌}
use Rattle.blocks.specs.Held.{numbers, only, put_all}
use Rattle.holdings.specs.Rows.{held_in}
use Rattle.holdings.proofs.PuttingLemmas.{up_to}
use Rattle.holdings.proofs.rows.BlockRows.put_window.Given as goal

-- the numbers at the places so far are written
abbrev pub invariant-loop-index : goal.invariant-loop-index
invariant-loop-index l =
    (held_in l.self ≡ put_all (only (up_to l.window.array.number l.window.at l.index) (numbers (held_in l.others))) (held_in l.initial.self))
    × (l.index ≤ l.window.at + l.window.len)
