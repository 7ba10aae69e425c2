-- Horizontal coordinates of events, in tenths of a pixel.
use Rattle.std.specs.Prelude.{ℕ, ◌+◌, ◌*◌, ◌/◌, min, if◌then◌else◌, nat_le}

-- the start of an event's column: columns are 14 pixels wide for up to 107 events, and all take 1,500
-- pixels for more; a number after the last event has the end of the last column
abbrev pub x_of : (events event : ℕ) → ℕ
x_of events event =
    let n = min event events in
    960 + (if nat_le events 107 then n * 140 else n * 15000 / events)
