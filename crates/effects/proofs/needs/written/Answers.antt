use Rattle.std.proofs.Common.{◌≡◌, ◌∙◌, map, drop, ap, sym, subst, arith}
use Rattle.std.specs.Prelude.{false}
use Rattle.sections.specs.Translation.{section}
use Rattle.effects.specs.Needs.{written_by}
use Rattle.effects.specs.Translation.{access}
use Rattle.effects.proofs.NeedsListed.{written_step, nothing_left}
use Rattle.effects.proofs.needs.written.Goals as goal

pub loop-place-init : goal.loop-place-init
loop-place-init c = ap (map section) c.new-found.ensures.items ∙ ap written_by (sym (nothing_left c.args.accesses.now))

pub loop-place-preserved : goal.loop-place-preserved
loop-place-preserved c =
    c.loop-place.invariant
    ∙ sym (written_step c.args.accesses.now c.loop-place.place _ false c.loop-place-test.true c.loop-place.auto.place c.if-access.false)

pub returns : goal.returns
returns c =
    let e : c.loop-place.place ≡ 0 = omega arith in
    subst (λ n. map section c.loop-place.found.items ≡ written_by (map access (drop n c.args.accesses.now))) e c.loop-place.invariant
