use Rattle.std.proofs.Common.{◌≡◌, ap, ◌∙◌, sym, ◌∷◌, rules}
use Rattle.types.specs.Translation.{codes}
use Rattle.types.specs.Trees.{append}
use Rattle.step_trees.specs.Translation.{blocks}
use Rattle.step_trees.specs.declared.rest.RestOfBlock.{RestOfBlock}
use Rattle.step_trees.specs.declared.rest.RestOfBlock.TheVariants.{Block}
use Rattle.step_trees.proofs.Rests.{blocks-push}
use Rattle.step_trees.proofs.rest.enter.Goals as goal

pub returns-in_ok-push : goal.returns-in_ok-push
returns-in_ok-push c =
    let b : RestOfBlock = Block c.in-Some.first c.in-Some.others in
    let split : c.args.block.now ≡ c.in-Some.first.now ∷ c.in-Some.others.now = search rules in
    ap blocks c.in_ok-push.ensures.items
    ∙ blocks-push c.args.rest.now.items b
    ∙ ap (λ l. append (codes l) (blocks c.args.rest.now.items)) (sym split)
