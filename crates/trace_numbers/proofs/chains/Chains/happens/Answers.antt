use Rattle.std.proofs.Common.{◌≡◌, subst, sym, ⊎_elim}
use Rattle.std.specs.Prelude.{OnOk, Result}
use Rattle.events.specs.declared.event.Event.{Event}
use Rattle.trace_numbers.specs.Chains.{Chains as AnyChains, chained}
use Rattle.trace_numbers.specs.Tables.{Shows}
use Rattle.trace_numbers.specs.declared.chains.Chains.{Chains}
use Rattle.trace_numbers.proofs.chains.Chains.happens.Goals as goal

-- what follows from an event follows from an equal one
module _ {T E : Type 0} (r : Result T E) (old new : Chains) where
  as_it : {e other : Event} → e ≡ other → OnOk r ((x : AnyChains) → Shows old x → Shows new (chained other x))
      → OnOk r ((x : AnyChains) → Shows old x → Shows new (chained e x))
  as_it is h = subst (λ e. OnOk r ((x : AnyChains) → Shows old x → Shows new (chained e x))) (sym is) h

pub returns-in-Step : goal.returns-in-Step
returns-in-Step c = as_it c.one_more.result c.args.self.now c.one_more.new.self c.in-Step.is c.one_more.ensures

pub returns-in-Spawn : goal.returns-in-Spawn
returns-in-Spawn c = as_it c.begin_child.result c.args.self.now c.begin_child.new.self c.in-Spawn.is c.begin_child.ensures

pub returns-in-Open : goal.returns-in-Open
returns-in-Open c = as_it c.begin_finish.result c.args.self.now c.begin_finish.new.self c.in-Open.is c.begin_finish.ensures

pub returns-in-Resume : goal.returns-in-Resume
returns-in-Resume c = as_it c.leave.result c.args.self.now c.leave.new.self c.in-Resume.is c.leave.ensures

pub returns-in-Park : goal.returns-in-Park
returns-in-Park c =
    let Is = λ (e : Event). (x : AnyChains) → Shows c.args.self.now x → Shows c.come_back.new.self (chained e x) in
    ⊎_elim (λ is. subst Is (sym is) c.come_back.ensures) (λ is. subst Is (sym is) c.come_back.ensures) c.in-Park.is
