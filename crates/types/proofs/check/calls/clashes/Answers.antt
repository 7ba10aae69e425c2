use Rattle.std.proofs.Common.{◌<◌, length, rules}
use Rattle.sections.specs.Tree.{origins_of}
use Rattle.types.proofs.Calls.{there_at}
use Rattle.types.proofs.check.calls.clashes.Goals as goal

pub clash-requires-clause-other : goal.clash-requires-clause-other
clash-requires-clause-other c =
    let later = c.args.later.now in
    let i = c.loop-other.other-index in
    let inside : i < length later = search rules in
    there_at (length (origins_of c.args.sections.now)) later i _ inside c.requires.later
