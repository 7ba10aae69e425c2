use Rattle.std.proofs.Common.{◌≡◌, ◌++◌, map, drop}
use Rattle.sections.specs.Translation.{section}
use Rattle.types.specs.Indexed.{indexed_links}
use Rattle.types.specs.Rows.{links}
use Rattle.effects.proofs.own.+indexed.Given as goal

-- with those of the remaining operands, all are found
abbrev pub invariant-add_indexed_behind-loop-link : goal.invariant-add_indexed_behind-loop-link
invariant-add_indexed_behind-loop-link l =
    map section l.found.items ++ indexed_links (links (drop l.link-index l.rest))
    ≡ map section l.fn.found.items ++ indexed_links (links l.rest)
