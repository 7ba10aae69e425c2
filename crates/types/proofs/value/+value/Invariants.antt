use Rattle.std.proofs.Common.{◌≡◌, drop}
use Rattle.types.specs.Rows.{links as links_of}
use Rattle.types.specs.Translation.{environment}
use Rattle.types.specs.Value.{links}
use Rattle.types.proofs.value.+value.Given as goal

-- applying the rest of the chain to the number so far gives the same as applying the whole chain to
-- the first number
abbrev pub invariant-chain_value-loop-link : goal.invariant-chain_value-loop-link
invariant-chain_value-loop-link g l =
    let env = environment l.environment in let read = g.P.Places.numbers l.places in
    links env read (links_of (drop l.link-index l.rest)) l.value ≡ links env read (links_of l.rest) l.fn.first
