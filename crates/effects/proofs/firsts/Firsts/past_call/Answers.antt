use Rattle.std.proofs.Common.{map, arith}
use Rattle.std.proofs.lemmas.List.{length-map}
use Rattle.sections.specs.Translation.{section}
use Rattle.effects.specs.AccessSets.{HasAccess}
use Rattle.effects.proofs.FirstLabels.{none_passed_below, more_passed, all_passed, number_at}
use Rattle.effects.proofs.firsts.Firsts.past_call.Goals as goal

pub loop-number-init : goal.loop-number-init
loop-number-init c = none_passed_below (HasAccess c.args.accesses.now) (map section c.args.sections.now) _ c.new-outside.ensures

pub loop-number-preserved : goal.loop-number-preserved
loop-number-preserved c =
    more_passed (HasAccess c.args.accesses.now) (map section c.args.sections.now) c.loop-number.number _ _ _ _
    (number_at c.args.sections.now c.loop-number.number _ (omega arith)) c.loop-number.invariant c.in_ok-add_passed.ensures
    c.in_ok-add_passed-2.ensures

pub returns : goal.returns
returns c =
    all_passed (HasAccess c.args.accesses.now) (map section c.args.sections.now) c.loop-number.number _
    (rw (length-map c.args.sections.now section) (omega arith)) (rw (length-map c.args.sections.now section) (omega arith))
    c.loop-number.invariant
