-- The Rust types as plain values: ids as numbers, origins and windows over numbers.
use Rattle.std.specs.Prelude.{ℕ}
use Rattle.sections.specs.Origins.{Origin, Root, Left, Right, Piece}
use Rattle.sections.specs.Place.{Place, Window}
use Rattle.sections.specs.declared.id.ArrayId.{ArrayId}
use Rattle.sections.specs.declared.id.SectionId.{SectionId}
use Rattle.sections.specs.declared.origin.Origin.{Origin as rOrigin}
use Rattle.sections.specs.declared.origin.Origin.TheVariants.{Root as rRoot, Left as rLeft, Right as rRight}
use Rattle.sections.specs.declared.origin.Origin.TheVariants.{Piece as rPiece}
use Rattle.sections.specs.declared.window.Place.{Place as rPlace}
use Rattle.sections.specs.declared.window.Window.{Window as rWindow}

-- the number of a section
abbrev pub section : SectionId → ℕ
section s = s.number

-- the number of an array
abbrev pub array : ArrayId → ℕ
array a = a.number

-- the origin of a section
abbrev pub origin : rOrigin → Origin
origin rRoot = Root
origin (rLeft s) = Left (section s)
origin (rRight s) = Right (section s)
origin (rPiece s) = Piece (section s)

-- a place
abbrev pub place : rPlace → Place
place q = record { array = array q.array; index = q.index }

-- a window
abbrev pub window : rWindow → Window
window w = record { array = array w.array; at = w.at; length = w.len }
