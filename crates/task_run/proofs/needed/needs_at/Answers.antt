use Rattle.std.proofs.Common.{◌≡◌, ap, subst, Some, None, option_map, option_copied}
use Rattle.std.proofs.lemmas.Option.{none-some, same_Some}
use Rattle.types.specs.Translation.{codes}
use Rattle.types.specs.Typed.{code_of}
use Rattle.effects.specs.AsyncNeeds.{IsNeedAt}
use Rattle.effects.specs.Translation.{needs}
use Rattle.task_run.proofs.needed.needs_at.Goals as goal

pub returns : goal.returns
returns c =
    let at = c.needs.ensures (code_of c.args.accepted.now.typed) c.summaries.ensures.exact in
    let found : option_map needs (option_copied c.needs.result) ≡ Some (needs c.in-Some.needs.now)
    = ap (λ o. option_map needs (option_copied o)) c.in-Some.is in
    same_Some _ _ ((subst (IsNeedAt (code_of c.args.accepted.now.typed) c.args.label) found at).of_async (codes c.args._body.now) c.requires)

pub unreachable-requires : goal.unreachable-requires
unreachable-requires c =
    let at = c.needs.ensures (code_of c.args.accepted.now.typed) c.summaries.ensures.exact in
    let found : option_map needs (option_copied c.needs.result) ≡ None
    = ap (λ o. option_map needs (option_copied o)) c.in-None.is in
    none-some _ ((subst (IsNeedAt (code_of c.args.accepted.now.typed) c.args.label) found at).of_async (codes c.args._body.now) c.requires)
