-- The cover of windows: the one list in ascending order with the same places, in which no window is
-- empty and no two windows touch.
use Rattle.std.specs.Prelude.{List, [], ◌∷◌, if◌then◌else◌}
use Rattle.sections.specs.Covers.{has_places}
use Rattle.sections.specs.Joining.{begins_no_later, joined, meets}
use Rattle.sections.specs.Place.{Window}

-- a window inserted into a list that is ordered by first places
abbrev pub in_order : Window → List Window → List Window
in_order w [] = w ∷ []
in_order w (v ∷ vs) = if begins_no_later w v then w ∷ v ∷ vs else v ∷ in_order w vs

-- the windows that have a place, in that order
abbrev pub ordered : List Window → List Window
ordered [] = []
ordered (w ∷ ws) = if has_places w then in_order w (ordered ws) else ordered ws

-- a window and the windows after it; each window that meets the one before it is joined with it
abbrev pub joined_from : Window → List Window → List Window
joined_from v [] = v ∷ []
joined_from v (w ∷ ws) =
    if meets v w then joined_from (joined v w) ws else v ∷ joined_from w ws

abbrev pub joined_all : List Window → List Window
joined_all [] = []
joined_all (w ∷ ws) = joined_from w ws

-- the cover of some windows
abbrev pub cover_of : List Window → List Window
cover_of ws = joined_all (ordered ws)
