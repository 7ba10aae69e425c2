-- Places of arrays, and windows, which are contiguous places of one array.
use Rattle.std.specs.Prelude.{ℕ, ◌+◌, ◌-◌, ◌*◌, ◌<◌, ◌≤◌, ◌≡◌, min, ℤ, pos, negsuc, Bool, ◌&&◌, nat_eq}
use Rattle.std.specs.Prelude.{nat_lt, nat_le, Option, Some, None, if◌then◌else◌}

-- the element at an index of an array
pub record Place : Type 0 where
  pub array : ℕ
  pub index : ℕ

-- `length` places of an array, starting at its place `at`
pub record Window : Type 0 where
  pub array : ℕ
  pub at : ℕ
  pub length : ℕ

-- a place of a window
pub record In (w : Window) (q : Place) : Type 0 where
  pub array : q.array ≡ w.array
  pub low : w.at ≤ q.index
  pub high : q.index < w.at + w.length

-- whether two places are the same
abbrev pub same_place : Place → Place → Bool
same_place p q = nat_eq p.array q.array && nat_eq p.index q.index

-- the window without places
abbrev pub nowhere : Window
nowhere = record { array = 0; at = 0; length = 0 }

-- the place of the element i of a window, if the window has one
abbrev pub place_in : Window → ℤ → Option Place
place_in w (negsuc n) = None
place_in w (pos i) =
    if nat_lt i w.length then Some (record { array = w.array; index = w.at + i }) else None

-- the first n places of a window
abbrev pub first_places : ℕ → Window → Window
first_places n w = record w { length = n }

-- the places after the first n
abbrev pub places_behind : ℕ → Window → Window
places_behind n w = record w { at = w.at + n; length = w.length - n }

-- the first n places of a window and the others, if it has that many
abbrev pub sides_of : Window → ℤ → Option (Window × Window)
sides_of w (negsuc n) = None
sides_of w (pos n) =
    if nat_le n w.length then Some (first_places n w, places_behind n w) else None

-- whether a window, cut into pieces of `size` places, has a piece with this number, from 0
abbrev pub has_piece : Window → (size turn : ℕ) → Bool
has_piece w size turn = nat_lt 0 size && nat_lt (size * turn) w.length

-- the piece: the places after those of the pieces before it, at most `size`
abbrev pub piece_at : (size turn : ℕ) → Window → Window
piece_at size turn w =
    let rest = places_behind (size * turn) w in first_places (min size rest.length) rest

-- the piece with this number, if there is one
abbrev pub piece_of : Window → (size turn : ℕ) → Option Window
piece_of w size turn = if has_piece w size turn then Some (piece_at size turn w) else None
