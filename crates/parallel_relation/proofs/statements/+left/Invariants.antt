use Rattle.std.proofs.Common.{◌≡◌, ◌++◌, map, drop}
use Rattle.types.specs.Translation.{codes}
use Rattle.effects.specs.Effects.{accesses}
use Rattle.effects.specs.Tables.{left_in}
use Rattle.effects.specs.Translation.{access}
use Rattle.parallel_relation.specs.Listing.{alls_of, pendings_of}
use Rattle.parallel_relation.proofs.statements.+left.Given as goal

-- with those of the remaining statements, all are there
abbrev pub invariant-add_left-loop-statement : goal.invariant-add_left-loop-statement
invariant-add_left-loop-statement l =
    map access l.into.items ++ left_in accesses (alls_of l.lists) (pendings_of l.lists) (codes (drop l.statement-index l.block))
    ≡ map access l.initial.into.items ++ left_in accesses (alls_of l.lists) (pendings_of l.lists) (codes l.block)
