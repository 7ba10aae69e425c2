use Rattle.std.proofs.Common.{map, take}
use Rattle.types.specs.Translation.{program}
use Rattle.effects.specs.AsyncNeeds.{Keeps, needs_at}
use Rattle.effects.specs.Visits.{visit}
use Rattle.effects.proofs.AsyncLemmas.{IsSeen}
use Rattle.effects.proofs.asyncs.keep_block.Given as goal

-- what the asyncs so far need is kept
abbrev pub invariant-loop-visit : goal.invariant-loop-visit
invariant-loop-visit l =
    Keeps (program l.code) (IsSeen (map visit (take l.visit-index l.visit-items))) (needs_at l.initial.kept) (needs_at l.kept)
