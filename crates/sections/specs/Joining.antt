-- Windows in the order of their first places, and how neighbours are joined.
use Rattle.std.specs.Prelude.{ℕ, ◌+◌, ◌-◌, max, List, [], ◌∷◌, Bool, true, ◌&&◌, ◌||◌, nat_eq, nat_lt, nat_le}
use Rattle.sections.specs.Covers.{has_places}
use Rattle.sections.specs.Place.{Window}

-- the place after the last one of a window
abbrev pub end_of : Window → ℕ
end_of w = w.at + w.length

-- whether v starts before w or at the same place
abbrev pub begins_no_later : Window → Window → Bool
begins_no_later v w = nat_lt v.array w.array || (nat_eq v.array w.array && nat_le v.at w.at)

-- whether v starts no later than the first of the windows
abbrev pub begins_first : Window → List Window → Bool
begins_first v [] = true
begins_first v (w ∷ ws) = begins_no_later v w

-- windows in the order of their first places, none empty
abbrev pub is_ascending : List Window → Bool
is_ascending [] = true
is_ascending (w ∷ ws) = has_places w && (begins_first w ws && is_ascending ws)

-- whether w, which starts no earlier than v, starts within v or right after it
abbrev pub meets : Window → Window → Bool
meets v w = nat_eq v.array w.array && nat_le w.at (end_of v)

-- from the start of v to the later one of the two ends
abbrev pub joined : Window → Window → Window
joined v w = record v { length = max (end_of v) (end_of w) - v.at }
