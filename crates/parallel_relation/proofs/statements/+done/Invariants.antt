use Rattle.std.proofs.Common.{◌≡◌, ◌++◌, map, drop}
use Rattle.types.specs.Translation.{codes}
use Rattle.effects.specs.Effects.{accesses}
use Rattle.effects.specs.Tables.{all_in}
use Rattle.effects.specs.Translation.{access}
use Rattle.parallel_relation.specs.Listing.{alls_of}
use Rattle.parallel_relation.proofs.statements.+done.Given as goal

-- with those of the remaining statements, all are there
abbrev pub invariant-add_block-loop-statement : goal.invariant-add_block-loop-statement
invariant-add_block-loop-statement l =
    map access l.into.items ++ all_in accesses (alls_of l.lists) (codes (drop l.statement-index l.block))
    ≡ map access l.initial.into.items ++ all_in accesses (alls_of l.lists) (codes l.block)
