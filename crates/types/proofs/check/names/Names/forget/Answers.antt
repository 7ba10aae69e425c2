use Rattle.std.proofs.Common.{ap, ◌∙◌}
use Rattle.types.proofs.NamesInScope.{names_in, names_in-take}
use Rattle.types.proofs.check.names.Names.forget.Goals as goal

pub returns : goal.returns
returns c = ap names_in c.truncate.ensures.entries ∙ names_in-take c.args.count c.args.self.now.meanings.entries
