use Rattle.std.proofs.Common.{map}
use Rattle.sections.specs.Translation.{section}
use Rattle.effects.specs.AccessSets.{HasAccess}
use Rattle.effects.specs.Firsts.{AreFirsts, kept_in}
use Rattle.effects.proofs.FirstLabels.{IsPassedBelow}
use Rattle.effects.proofs.firsts.Firsts.past_call.Given as goal

-- what is kept are the firsts of the accesses to the parameters so far
abbrev pub invariant-loop-number : goal.invariant-loop-number
invariant-loop-number l =
    AreFirsts (IsPassedBelow (HasAccess l.accesses) (map section l.sections) l.number) (kept_in l.outside)
