use Rattle.std.proofs.Common.{List, sym, subst, arith}
use Rattle.std.specs.Prelude.{slice_get}
use Rattle.effects.specs.UseSets.{HasIn, HasUse}
use Rattle.effects.specs.declared.label_set.LabelSet.{LabelSet}
use Rattle.effects.proofs.UseLemmas.{has_pushed}
use Rattle.effects.proofs.uses.Uses.reserve.Goals as goal

pub loop-preserved : goal.loop-preserved
unfolding HasUse
loop-preserved c = record {
  same = λ s k.
      let pushed = has_pushed c.loop.self.sets.items c.new.result c.new.ensures s k in
      let inv = c.loop.invariant.same s k in
      let items = c.in_ok-push.ensures.items in (
        λ h. inv.0 (pushed.0 (subst (λ (xs : List LabelSet). HasIn (slice_get xs s) k) items h)),
        λ h. subst (λ (xs : List LabelSet). HasIn (slice_get xs s) k) (sym items) (pushed.1 (inv.1 h)),
      );
  length = omega (arith, c.in_ok-push.ensures.len, c.loop.invariant.length);
}
