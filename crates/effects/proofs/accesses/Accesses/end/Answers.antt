use Rattle.std.proofs.Common.{◌≤◌, rules}
use Rattle.effects.proofs.UseLemmas.{accessed_within}
use Rattle.effects.proofs.accesses.Accesses.end.Goals as goal

pub returns : goal.returns
returns c =
    let reads : c.end.result ≤ c.max.result = search rules in
    let writes : c.end-2.result ≤ c.max.result = search rules in
    accessed_within c.args.self.now c.end.result c.end-2.result c.max.result c.end.ensures c.end-2.ensures reads writes
