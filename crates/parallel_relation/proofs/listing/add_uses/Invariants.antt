use Rattle.std.proofs.Common.{◌<◌}
use Rattle.parallel_relation.specs.Around.{Gains}
use Rattle.parallel_relation.specs.Listing.{InList, IsUse}
use Rattle.parallel_relation.proofs.listing.add_uses.Given as goal

-- those with smaller labels are listed
abbrev pub invariant-loop-label : goal.invariant-loop-label
invariant-loop-label l =
    Gains (InList l.initial.found.items) (λ x. (x.label < l.label) × IsUse l.labels l.fn.section.number l.fn.write x)
    (InList l.found.items)
