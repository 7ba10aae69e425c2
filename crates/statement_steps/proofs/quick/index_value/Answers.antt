use Rattle.std.proofs.Common.{rules}
use Rattle.types.specs.Translation.{environment}
use Rattle.statement_steps.proofs.Pairs.{pair_value}
use Rattle.statement_steps.proofs.quick.index_value.Goals as goal

pub returns : goal.returns
returns g c =
    pair_value (environment c.args.environment.now) (g.P.Places.numbers c.args.places.now) c.in-Chain.first
    c.in-Chain.rest _ _ _ _ _ _ c.applied.result c.in-Chain.is c.as_slice.ensures.value c.in_ok-link.ensures
    c.deref.ensures c.in_ok-left.ensures c.in_ok-right.ensures c.applied.ensures (search rules) (search rules)
