-- The root of each section of a procedure.
use Rattle.std.specs.Prelude.{ℕ, map}
use Rattle.sections.specs.Translation.{section}
use Rattle.effects.specs.ListedRoots.{listed_root}
use Rattle.effects.specs.declared.roots.Roots.{Roots}

-- the root of a section
abbrev pub root_in : Roots → ℕ → ℕ
root_in x = listed_root (map section x.roots.items)
