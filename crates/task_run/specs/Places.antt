-- Sets of places, and contents restricted to them.
use Rattle.std.specs.Prelude.{ℕ, zero, suc, ◌+◌, List, [], ◌∷◌, ◌++◌, map, None, Bool, false, ◌||◌}
use Rattle.sections.specs.Covers.{has}
use Rattle.sections.specs.Place.{Place, Window}
-- contents at the places of a set, everywhere else, and one over another, as `blocks` defines them
pub use Rattle.blocks.specs.Held.{first_of, only, over, without}
use Rattle.types.specs.Contents.{Contents}
use Rattle.types.specs.Value.{Environment}
use Rattle.effects.specs.Needs.{Needs}

-- a set of places, by a test
abbrev pub Places : Type 0
Places = Place → Bool

-- the places of sections in an environment
abbrev pub named : Environment → List ℕ → Places
named env ss = has (map env.windows ss)

-- the places that a body with these needs may write
abbrev pub written : Environment → Needs → Places
written env n = named env n.writes

-- the places that such a body may touch
abbrev pub touched : Environment → Needs → Places
touched env n = named env (n.writes ++ n.reads)

-- contents without any number
abbrev pub empty : Contents
empty q = None

-- whether a set has one of n places of an array, starting at the place `at`
abbrev pub has_one : Places → (array at n : ℕ) → Bool
has_one set a at zero = false
has_one set a at (suc n) = set (record { array = a; index = at }) || has_one set a (at + 1) n

-- whether a set has a place of the windows
abbrev pub meets : Places → List Window → Bool
meets set [] = false
meets set (w ∷ ws) = has_one set w.array w.at w.length || meets set ws
