-- The places of lists of windows, and covers: the one form in which windows represent a set of
-- places.
use Rattle.std.specs.Prelude.{◌+◌, List, [], ◌∷◌, Bool, true, ◌&&◌, ◌||◌, nat_eq, nat_lt, nat_le}
use Rattle.std.specs.List.{list_any, list_all}
use Rattle.sections.specs.Place.{Place, Window}

-- whether a place is one of a window
abbrev pub is_in : Window → Place → Bool
is_in w q = nat_eq q.array w.array && (nat_le w.at q.index && nat_lt q.index (w.at + w.length))

-- whether a place is one of some of the windows
abbrev pub has : List Window → Place → Bool
has ws q = list_any (λ w. is_in w q) ws

-- whether a window has a place
abbrev pub has_places : Window → Bool
has_places w = nat_lt 0 w.length

-- whether v ends before w starts, with a place between them if they are in one array
abbrev pub ends_before : Window → Window → Bool
ends_before v w =
    nat_lt v.array w.array || (nat_eq v.array w.array && nat_lt (v.at + v.length) w.at)

-- windows in ascending order, none empty and none touching another
abbrev pub is_cover : List Window → Bool
is_cover [] = true
is_cover (w ∷ ws) = has_places w && (list_all (ends_before w) ws && is_cover ws)
