use Rattle.std.proofs.lemmas.Option.{slice_get-get_or}
use Rattle.types.specs.Translation.{program}
use Rattle.effects.specs.Translation.{access}
use Rattle.witness.proofs.Rounds.{rounded_none, rounded_more, rounded_all}
use Rattle.witness.proofs.settling.round.Goals as goal

pub loop-entry-init : goal.loop-entry-init
loop-entry-init c = rounded_none (program c.args.code.now) (access c.args.access) c.args.entries.now c.args.known.now c.requires.ways

pub improve-requires : goal.improve-requires
improve-requires c = record { ways = c.loop-entry.invariant.ways }

pub loop-entry-preserved : goal.loop-entry-preserved
loop-entry-preserved c =
    rounded_more (program c.args.code.now) (access c.args.access) c.args.entries.now c.loop-entry.entry-index _ c.loop-entry.better
    c.in_ok-better.field-0 c.args.known.now c.loop-entry.known c.improve.new.known
    (slice_get-get_or c.args.entries.now c.loop-entry.entry-index _ c.loop-entry-test.true) c.loop-entry.invariant c.in_ok-better.ensures

pub returns : goal.returns
returns c =
    rounded_all (program c.args.code.now) (access c.args.access) c.args.entries.now c.loop-entry.entry-index c.loop-entry.better
    c.args.known.now c.loop-entry.known c.loop-entry-test.false c.loop-entry.invariant
