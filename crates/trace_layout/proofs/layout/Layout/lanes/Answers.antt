use Rattle.std.proofs.Common.{◌<◌, ◌≤◌, length, get_or, ap, subst, ◌∙◌, arith}
use Rattle.std.specs.Prelude.{All}
use Rattle.std.proofs.lemmas.List.{take_all}
use Rattle.std.proofs.lemmas.List.Elements.{All-weaker}
use Rattle.trace_layout.specs.declared.moves.Steal.{Steal}
use Rattle.trace_layout.specs.declared.spells.Spell.{Spell}
use Rattle.trace_layout.proofs.Within.{more_within}
use Rattle.trace_layout.proofs.layout.Layout.lanes.Goals as goal

pub loop-steal-preserved : goal.loop-steal-preserved
loop-steal-preserved c =
    let old = c.loop-steal.most in
    let new = c.max-most-in-loop-steal.result in
    let s = c.steal-item.result in
    let le : old ≤ new = omega arith in
    let worker : s.worker < new = omega arith in
    let from : s.from < new = omega arith in
    let was = c.loop-steal.invariant in
    record {
      few = omega arith;
      run = λ h. omega (arith, was.run h);
      spells = All-weaker (λ (x : Spell). x.worker < old) (λ x. x.worker < new) (λ x h. omega arith) c.args.self.now.spells.all.items was.spells;
      steals = more_within (λ (x : Steal). (x.worker < old) × (x.from < old)) (λ x. (x.worker < new) × (x.from < new))
          c.args.self.now.moves.steals.items c.loop-steal.steal-index s s (λ x h. (omega (arith, h.0), omega (arith, h.1)))
          (omega (arith, ap length c.deref-steal-items.ensures.value)) (c.steal-item.is ∙ ap (λ l. get_or l c.loop-steal.steal-index s) c.deref-steal-items.ensures.value) was.steals (worker, from);
    }

pub returns-clause-steals : goal.returns-clause-steals
returns-clause-steals c =
    subst (All (λ (x : Steal). (x.worker < c.loop-steal.most) × (x.from < c.loop-steal.most)))
    (take_all c.loop-steal.steal-index c.args.self.now.moves.steals.items (omega (arith, ap length c.deref-steal-items.ensures.value)))
    c.loop-steal.invariant.steals
