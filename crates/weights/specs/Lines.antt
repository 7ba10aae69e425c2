-- Entries whose paths are stored one after the other.
use Rattle.std.specs.Prelude.{ℕ, ◌+◌, ◌≤◌, List, [], ◌∷◌, length, map, slice_range}
use Rattle.weights.specs.Ledger.{Returned}
use Rattle.weights.specs.declared.entries.ReturnedWeight.{ReturnedWeight}

-- the entry that a line represents: its path is this part of the turns
abbrev pub said_by : (turns : List ℕ) → ReturnedWeight → Returned
said_by turns l = record { path = slice_range turns l.at (l.at + l.length); weight = l.weight }

-- the entries that lines represent
abbrev pub said_in : (turns : List ℕ) → List ReturnedWeight → List Returned
said_in turns lines = map (said_by turns) lines

-- the paths of lines are parts of the turns
abbrev pub StandAmong : (turns : List ℕ) → List ReturnedWeight → Type 0
StandAmong turns [] = Unit {0}
StandAmong turns (l ∷ lines) = (l.at + l.length ≤ length turns) × StandAmong turns lines
