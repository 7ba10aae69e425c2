use Rattle.std.proofs.Common.{sym, ap, ◌∙◌}
use Rattle.std.specs.Option.{option_map}
use Rattle.types.specs.Resolving.{meant_by}
use Rattle.types.proofs.NamesInScope.{meant_is_lookup}
use Rattle.types.proofs.check.names.Names.meaning.Goals as goal

pub returns : goal.returns
returns c =
    ap (option_map meant_by) (c.copied.ensures ∙ c.get.ensures.value)
    ∙ sym (meant_is_lookup c.args.name.now c.args.self.now.meanings.entries c.args.self.now.apart)
