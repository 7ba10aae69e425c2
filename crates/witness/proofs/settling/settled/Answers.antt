use Rattle.std.proofs.Common.{◌<◌, subst}
use Rattle.std.specs.Prelude.{List}
use Rattle.types.specs.Translation.{program}
use Rattle.effects.specs.Translation.{access}
use Rattle.witness.specs.Settled.{total}
use Rattle.witness.specs.declared.known.Entry.{Entry}
use Rattle.witness.proofs.Rounds.{ways_none, settled_end}
use Rattle.witness.proofs.settling.settled.Goals as goal

pub loop-known-init : goal.loop-known-init
loop-known-init c = ways_none (program c.args.code.now) (access c.args.access) c.nothing-known.result c.nothing-known.ensures

pub loop-known-preserved : goal.loop-known-preserved
loop-known-preserved c = c.in_ok-round.ensures.ways

pub loop-known-smaller : goal.loop-known-smaller
loop-known-smaller c =
    subst (λ (es : List Entry). total es c.round.new.known < total es c.loop-known.known) c.deref.ensures.value
    (c.in_ok-round.ensures.less c.if-not-branch.false)

pub returns-then-not-branch-clause-ways : goal.returns-then-not-branch-clause-ways
returns-then-not-branch-clause-ways c = c.in_ok-round.ensures.ways

pub returns-then-not-branch-clause-shortest : goal.returns-then-not-branch-clause-shortest
returns-then-not-branch-clause-shortest c =
    settled_end (program c.args.code.now) (access c.args.access) c.in_ok-entries.entries.items _ _ c.loop-known.known c.round.new.known
    c.deref.ensures.value c.if-not-branch.true c.in_ok-entries.ensures c.in_ok-round.ensures
