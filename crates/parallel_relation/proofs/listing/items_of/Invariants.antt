use Rattle.std.proofs.Common.{◌<◌}
use Rattle.effects.specs.Accesses.{Access}
use Rattle.effects.specs.AccessSets.{HasAccess}
use Rattle.parallel_relation.specs.Around.{Gains}
use Rattle.parallel_relation.specs.Listing.{InList}
use Rattle.parallel_relation.proofs.listing.items_of.Given as goal

-- those of the sections so far are listed
abbrev pub invariant-loop-number : goal.invariant-loop-number
invariant-loop-number l =
    Gains (λ (x : Access). ⊥) (λ x. (x.section < l.number) × HasAccess l.accesses x) (InList l.found.items)
