use Rattle.std.proofs.Common.{ap, ◌∙◌, map, ◌++◌, ◌∷◌, [], List, Vec, Global}
use Rattle.std.specs.Prelude.{ℤ}
use Rattle.statement_steps.proofs.Steps.{map-pushed, map-taken}
use Rattle.statement_steps.proofs.store.Store.of_input.Goals as goal

pub loop-contents-preserved : goal.loop-contents-preserved
loop-contents-preserved c =
    let numbers : Vec ℤ Global → List ℤ = λ v. v.items in
    let so_far = map numbers c.loop-contents.arrays.items in
    map-pushed numbers c.loop-contents.arrays.items c.push.new.self.items c.in_ok-from_slice.field-0 c.in_ok-push.ensures.items
    ∙ ap (λ l. so_far ++ l ∷ []) (c.in_ok-from_slice.ensures.items ∙ c.deref.ensures.value)
    ∙ map-taken numbers c.deref-contents-items.result.now so_far c.loop-contents.contents-index c.contents-item.result
    c.loop-contents-test.true c.contents-item.is c.loop-contents.invariant
