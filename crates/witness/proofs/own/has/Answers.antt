use Rattle.std.proofs.Common.{◌<◌, ◌≤◌, ◌∙◌, length, sym, rules}
use Rattle.effects.specs.Translation.{access}
use Rattle.witness.proofs.OwnMakes.{still_left, found_there, none_left}
use Rattle.witness.proofs.own.has.Goals as goal

pub loop-other-preserved : goal.loop-other-preserved
loop-other-preserved c =
    let within : c.loop-other.other-index < length c.args.accesses.now = search rules in
    still_left (access c.args.access) c.args.accesses.now c.loop-other.other-index _ within
    (sym c.is_same.ensures ∙ c.if-is_same.false) c.loop-other.invariant

pub returns-then-is_same : goal.returns-then-is_same
returns-then-is_same c =
    let within : c.loop-other.other-index < length c.args.accesses.now = search rules in
    found_there (access c.args.access) c.args.accesses.now c.loop-other.other-index _ within
    (sym c.is_same.ensures ∙ c.if-is_same.true) c.loop-other.invariant

pub returns : goal.returns
returns c =
    let past : length c.args.accesses.now ≤ c.loop-other.other-index = search rules in
    none_left (access c.args.access) c.args.accesses.now c.loop-other.other-index past c.loop-other.invariant
