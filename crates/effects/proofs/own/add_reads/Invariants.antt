use Rattle.std.proofs.Common.{◌≡◌, ◌++◌, map, drop}
use Rattle.sections.specs.Translation.{section}
use Rattle.effects.specs.Accesses.{reads}
use Rattle.effects.specs.Translation.{access}
use Rattle.effects.proofs.own.add_reads.Given as goal

-- with the reads of the remaining sections, all are found
abbrev pub invariant-loop-section : goal.invariant-loop-section
invariant-loop-section l =
    map access l.found.items ++ reads l.fn.label (map section (drop l.section-index l.sections))
    ≡ map access l.fn.found.items ++ reads l.fn.label (map section l.sections)
