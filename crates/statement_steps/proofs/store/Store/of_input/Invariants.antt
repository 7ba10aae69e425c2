use Rattle.std.proofs.Common.{◌≡◌, take}
use Rattle.std.specs.Prelude.{map}
use Rattle.statement_steps.proofs.store.Store.of_input.Given as goal

-- the lists so far are the first of the input
abbrev pub invariant-loop-contents : goal.invariant-loop-contents
invariant-loop-contents l = map (λ v. v.items) l.arrays.items ≡ map (λ v. v.items) (take l.contents-index l.contents-items)
