-- What remains of windows when others are removed.
use Rattle.std.specs.Prelude.{◌-◌, min, max, List, [], ◌∷◌, Bool, ◌&&◌, ◌||◌, nat_eq, nat_lt}
use Rattle.std.specs.Prelude.{nat_le, if◌then◌else◌}
use Rattle.sections.specs.Covers.{has_places}
use Rattle.sections.specs.Joining.{end_of}
use Rattle.sections.specs.Place.{Window}

-- the list of this one window, or the empty list if the window is empty
abbrev pub unless_empty : Window → List Window
unless_empty w = if has_places w then w ∷ [] else []

-- whether v ends before w or at the same place
abbrev pub ends_no_later : Window → Window → Bool
ends_no_later v w =
    nat_lt v.array w.array || (nat_eq v.array w.array && nat_le (end_of v) (end_of w))

-- the places of w before v starts
abbrev pub before : Window → Window → Window
before w v =
    if nat_eq w.array v.array then record w { length = min w.length (v.at - w.at) }
    else (if nat_lt w.array v.array then w else record w { length = 0 })

-- the places of w after the end of v, which ends no later
abbrev pub behind : Window → Window → Window
behind w v =
    if nat_eq w.array v.array
    then record w { at = max w.at (end_of v); length = end_of w - max w.at (end_of v) } else w
