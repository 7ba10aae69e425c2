use Rattle.std.proofs.Common.{◌∙◌, rules, subst}
use Rattle.std.proofs.lemmas.Option.{same_Some}
use Rattle.event_worlds.specs.Ending.{IsSetDown}
use Rattle.event_worlds.proofs.world.World.set_down.Goals as goal

pub returns-in-Some-clause-parked : goal.returns-in-Some-clause-parked
returns-in-Some-clause-parked c = λ k at.
    let to = c.set_down.new.self in
    record {
      to = to;
      fits = subst (λ t. IsSetDown t to) (same_Some _ _ (c.in-Some.ensures.value ∙ at)) c.set_down.ensures;
      each = ((c.get_mut.follows.holds to).3 (search rules)).0;
    }
