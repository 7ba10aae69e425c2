use Rattle.std.proofs.Common.{◌∙◌, rules, subst}
use Rattle.std.proofs.lemmas.Option.{same_Some}
use Rattle.event_worlds.specs.Ending.{IsOutside}
use Rattle.event_worlds.proofs.world.World.go_behind.Goals as goal

pub returns-in-Some-clause-behind : goal.returns-in-Some-clause-behind
returns-in-Some-clause-behind c = λ k at.
    let to = c.go_behind.new.self in
    record {
      to = to;
      fits = subst (λ t. IsOutside c.args.worker c.args.run t to) (same_Some _ _ (c.in-Some.ensures.value ∙ at)) c.go_behind.ensures;
      each = ((c.get_mut.follows.holds to).3 (search rules)).0;
    }
