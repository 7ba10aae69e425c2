use Rattle.std.proofs.Common.{◌≡◌, drop, map}
use Rattle.sections.specs.Translation.{section}
use Rattle.warnings.specs.Uses.{sections_use}
use Rattle.warnings.proofs.uses.are_among.Given as goal

-- if one of the remaining ones is a use, one of all is
abbrev pub invariant-loop-section : goal.invariant-loop-section
invariant-loop-section l =
    sections_use l.thing (map section (drop l.section-index l.sections)) ≡ sections_use l.thing (map section l.sections)
