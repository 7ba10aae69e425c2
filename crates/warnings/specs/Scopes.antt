-- The array or the parameter of each section of a procedure, as the code looks it up.
use Rattle.std.specs.Prelude.{ℕ, ◌≡◌}
use Rattle.sections.specs.Overlap.{root_of}
use Rattle.sections.specs.Tree.{origins_of}
use Rattle.effects.specs.Roots.{root_in}
use Rattle.effects.specs.declared.roots.Roots.{Roots}
use Rattle.types.specs.declared.code.Procedure.{Procedure}

-- these are the roots of its sections
abbrev pub HasRoots : Procedure → Roots → Type 0
HasRoots f roots = (s : ℕ) → root_in roots s ≡ root_of (origins_of f.sections) s
