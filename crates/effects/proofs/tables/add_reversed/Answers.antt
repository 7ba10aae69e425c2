use Rattle.std.proofs.Common.{List, ◌≡◌, ◌<◌, ◌-◌, [], ◌∷◌, ◌++◌, length, sym, subst, arith}
use Rattle.sections.specs.Member.{Member}
use Rattle.effects.specs.declared.flows.CallFlow.{CallFlow}
use Rattle.effects.proofs.ComingLemmas.{pushed_again}
use Rattle.effects.proofs.tables.add_reversed.Goals as goal

pub loop-place-preserved : goal.loop-place-preserved
loop-place-preserved c =
    let xs = c.loop-place.flows.items in
    let v = c.index-flow.result.now in
    let below : c.loop-place.place - 1 < length xs = omega arith in
    let items : c.push.new.self.items ≡ xs ++ v ∷ [] = c.in_ok-push.ensures.items in
    record {
      same = λ x.
          let pushed = pushed_again xs (c.loop-place.place - 1) v below c.index-flow.ensures x in
          let inv = c.loop-place.invariant.same x in (
            λ h. inv.0 (pushed.0 (subst (λ (ys : List CallFlow). Member x ys) items h)),
            λ h. subst (λ (ys : List CallFlow). Member x ys) (sym items) (pushed.1 (inv.1 h)),
          );
      longer = omega (arith, c.in_ok-push.ensures.len, c.loop-place.invariant.longer);
    }
