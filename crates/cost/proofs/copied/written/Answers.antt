use Rattle.std.proofs.Common.{ap, ◌∙◌, subst, map, Some, None, option_map, option_copied}
use Rattle.sections.specs.Translation.{section}
use Rattle.effects.specs.AsyncNeeds.{IsNeedAt}
use Rattle.effects.specs.Translation.{needs}
use Rattle.cost.proofs.Found.{needs-found}
use Rattle.cost.proofs.copied.written.Goals as goal

pub returns-in-Some : goal.returns-in-Some
returns-in-Some c p are =
    let found = ap (λ o. option_map needs (option_copied o)) c.in-Some.is in
    ap (map section) c.deref.ensures.value
    ∙ needs-found p c.args.label (Some (needs c.in-Some.needs.now)) (subst (IsNeedAt p c.args.label) found (c.needs.ensures p are))

pub returns-in-None : goal.returns-in-None
returns-in-None c p are =
    let found = ap (λ o. option_map needs (option_copied o)) c.in-None.is in
    needs-found p c.args.label None (subst (IsNeedAt p c.args.label) found (c.needs.ensures p are))
