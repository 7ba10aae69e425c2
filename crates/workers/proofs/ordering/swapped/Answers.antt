use Rattle.std.proofs.Common.{◌<◌, arith, length}
use Rattle.std.proofs.lemmas.List.Sorted.{IsPermutation-refl, IsPermutation-swap}
use Rattle.workers.proofs.ordering.swapped.Goals as goal

pub returns-in-None : goal.returns-in-None
returns-in-None c = IsPermutation-refl c.args.results.now.items

pub returns-in-Some : goal.returns-in-Some
returns-in-Some c =
    let v = c.args.results.now in
    let from : c.args.at < length v.items = omega (arith, c.in-Some.ensures.from, c.len.ensures, v.ok.0) in
    let to : c.in-Some.to < length v.items = omega (arith, c.in-Some.ensures.to, c.len.ensures, v.ok.0) in
    IsPermutation-swap v.items c.swap.new.self.items c.args.at c.in-Some.to from to c.swap.ensures.items
