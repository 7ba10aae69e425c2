-- Where a task has the elements of windows.
use Rattle.std.specs.Prelude.{ℕ, ◌≡◌, ◌⊎◌, List, Some, length, slice_get}
use Rattle.sections.specs.Place.{Window}
use Rattle.sections.specs.declared.window.Window.{Window as rWindow}
use Rattle.holdings.specs.Reach.{LiesFrom, LiesNowhere}
use Rattle.holdings.specs.declared.holdings.Holdings.{Holdings}
use Rattle.serial_run.specs.Runs.{windowed}
use Rattle.serial_run.specs.declared.spot.Span.{Span}

-- the elements of a window are side by side in a row of blocks
pub record IsFound (h : Holdings) (w : Window) (s : Span) : Type 0 where
  pub row : s.row ≡ w.array
  pub all : s.len ≡ w.length
  pub lies : LiesFrom h.rows.list.items w s.at

-- a span says where the elements of a window are; it is empty if they are nowhere side by side
abbrev pub IsWhere : Holdings → Window → Span → Type 0
IsWhere h w s = ((s.len ≡ 0) × LiesNowhere h.rows.list.items w) ⊎ IsFound h w s

-- spans say where the elements of windows are
pub record AreWhere (h : Holdings) (ws : List rWindow) (ss : List Span) : Type 0 where
  pub as_many : length ss ≡ length ws
  pub each : (section : ℕ) (s : Span) → slice_get ss section ≡ Some s → IsWhere h (windowed ws section) s
