use Rattle.std.proofs.Common.{ap, rules, ◌∙◌}
use Rattle.std.specs.Option.{option_flatten}
use Rattle.indexmap.specs.IndexMap.{get}
use Rattle.types.specs.Translation.{is_path}
use Rattle.gather.proofs.Firsts.{said_by}
use Rattle.gather.proofs.table.set_first_place.Goals as goal

pub returns-in-Some : goal.returns-in-Some
returns-in-Some c = λ other.
    ap option_flatten (((c.get_mut.follows.holds c.args.next).3 (search rules)).0 other)
    ∙ said_by (is_path c.args.path.now other) c.args.next (get is_path c.args.first.now other)
