use Rattle.std.proofs.Common.{◌≡◌, ◌∙◌, map, drop, ap, sym, subst, arith}
use Rattle.std.specs.Prelude.{true}
use Rattle.sections.specs.Translation.{section}
use Rattle.effects.specs.Needs.{others_by}
use Rattle.effects.specs.Translation.{access}
use Rattle.effects.proofs.NeedsListed.{others_step, nothing_left}
use Rattle.effects.proofs.needs.only_read.Goals as goal

pub loop-place-init : goal.loop-place-init
loop-place-init c =
    ap (map section) c.new-found.ensures.items ∙ ap (others_by (map section c.args.writes.now)) (sym (nothing_left c.args.accesses.now))

pub loop-place-preserved : goal.loop-place-preserved
loop-place-preserved c =
    c.loop-place.invariant
    ∙ sym (others_step (map section c.args.writes.now) c.args.accesses.now c.loop-place.place _ true c.loop-place-test.true
    c.loop-place.auto.place (sym c.among.ensures ∙ c.if-not-among.false))

pub returns : goal.returns
returns c =
    let e : c.loop-place.place ≡ 0 = omega arith in
    subst (λ n. map section c.loop-place.found.items ≡ others_by (map section c.args.writes.now) (map access (drop n c.args.accesses.now)))
    e c.loop-place.invariant
