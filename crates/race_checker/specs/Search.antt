-- The search for the least race among pairs of accesses.
use Rattle.std.specs.Prelude.{ℕ, List, map, flat_map, Bool, true, ◌&&◌, if◌then◌else◌, Option, None, Some}
use Rattle.sections.specs.Origins.{Origin}
use Rattle.effects.specs.Accesses.{Access}
use Rattle.race_checker.specs.Acceptance.{is_clash}
use Rattle.race_checker.specs.Races.{Race, is_less, access_key, comes_before}

-- the race of two accesses, given in either order
abbrev pub race_of : (f : ℕ) → Access × Access → Race
race_of f p =
    if is_less (access_key p.1) (access_key p.0)
    then record { procedure = f; first = p.1; second = p.0 }
    else record { procedure = f; first = p.0; second = p.1 }

-- it is reported before the race that was found
abbrev pub is_news : Option Race → Race → Bool
is_news None r = true
is_news (Some s) r = comes_before r s

-- the lesser of a race that was found and a pair, if that pair clashes
abbrev pub tell : List Origin → (f : ℕ) → Option Race → Access × Access → Option Race
tell origins f found p =
    if is_news found (race_of f p) && is_clash origins p then Some (race_of f p) else found

-- each of the first accesses paired with each of the second
abbrev pub each_with : List Access → List Access → List (Access × Access)
each_with xs ys = flat_map (λ x. map (λ y. (x, y)) ys) xs

-- the lesser of two races
abbrev pub lesser_of : Option Race → Option Race → Option Race
lesser_of None found = found
lesser_of (Some r) None = Some r
lesser_of (Some r) (Some s) = if comes_before s r then Some s else Some r
