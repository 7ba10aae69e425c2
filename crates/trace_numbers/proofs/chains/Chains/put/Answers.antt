use Rattle.std.proofs.Common.{ap, rules, ◌∙◌}
use Rattle.std.specs.Prelude.{cond, Some}
use Rattle.std.specs.HashMap.{get}
use Rattle.types.specs.Translation.{is_path}
use Rattle.trace_numbers.specs.Tables.{known}
use Rattle.trace_numbers.proofs.Known.{known_put, put_at}
use Rattle.trace_numbers.proofs.chains.Chains.put.Goals as goal

pub returns-clause-others : goal.returns-clause-others
returns-clause-others c =
    let key = c.in_ok-clone.field-0 in
    λ other. put_at key.turns.items c.args.path.now.turns.items other.turns.items c.args.chain
    (get is_path c.args.self.now.tasks other) (get is_path c.insert.new.self other) c.in_ok-clone.ensures.cases.0
    (c.in_ok-insert.ensures.updates.0 other
    ∙ ap (λ tasks. cond (is_path key other) (Some c.args.chain) (get is_path tasks other)) c.get_mut.follows.holds-at-none)

pub returns-in-Some-clause-others : goal.returns-in-Some-clause-others
returns-in-Some-clause-others c = λ other.
    ap known (((c.get_mut.follows.holds c.args.chain).3 (search rules)).0 other)
    ∙ known_put (is_path c.args.path.now other) c.args.chain (get is_path c.args.self.now.tasks other)
