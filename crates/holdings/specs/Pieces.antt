-- Windows cut at the ends of blocks, and maps that take places from other maps.
use Rattle.std.specs.Prelude.{ℕ, ◌-◌, ◌%◌, min, Bool, if◌then◌else◌}
use Rattle.sections.specs.Place.{Place, Window, first_places, places_behind}
use Rattle.blocks.specs.Held.{Map}

-- the number of places of a window that lie in the block of its first place
abbrev pub piece_length : Window → ℕ
piece_length w = min w.length (256 - w.at % 256)

-- the window of these places, and the window of the places after them
abbrev pub piece : Window → Window
piece w = first_places (piece_length w) w

abbrev pub behind_piece : Window → Window
behind_piece w = places_behind (piece_length w) w

-- one map at the places of a set, and another elsewhere
abbrev pub taking : {A : Type 0} → (Place → Bool) → (from into : Map A) → Map A
taking set from into q = if set q then from q else into q
