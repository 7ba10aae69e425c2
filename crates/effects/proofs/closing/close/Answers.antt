use Rattle.std.proofs.Common.{refl, ◌∙◌}
use Rattle.effects.specs.Closing.{start}
use Rattle.effects.proofs.ClosingLemmas.{closed_has, reached_through}
use Rattle.effects.proofs.StillMissing.{less_missing}
use Rattle.effects.proofs.closing.close.Goals as goal

pub loop-init : goal.loop-init
loop-init c = record { number = refl; more = λ f r k h. h; reached = λ f r k h. start h }

pub loop-preserved : goal.loop-preserved
loop-preserved c =
    let inv = c.loop.invariant in
    let round = c.in_ok-round.ensures in
    record {
      number = round.number ∙ inv.number;
      more = λ f r k h. round.more f r k (inv.more f r k h);
      reached = λ f r k h.
          reached_through c.args.flows.now c.args.table.now.items c.loop.table.items inv.number inv.reached (round.reached f r k h);
    }

pub returns-then-not-branch-clause-exact : goal.returns-then-not-branch-clause-exact
returns-then-not-branch-clause-exact c = λ f r l.
    let inv = c.loop.invariant in
    let round = c.in_ok-round.ensures in
    let still = c.if-not-branch.true in (
      λ h. inv.reached f r l (round.same still f r l h),
      λ h. round.more f r l
          (closed_has c.args.flows.now c.args.table.now.items c.loop.table.items inv.number inv.more (round.closed still) h),
    )

pub loop-smaller : goal.loop-smaller
loop-smaller c =
    less_missing c.loop.table.items c.round.new.table.items c.in_ok-round.ensures.more c.args.flows.now
    (c.in_ok-round.ensures.new c.if-not-branch.false)
