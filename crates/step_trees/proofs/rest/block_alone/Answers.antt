use Rattle.std.proofs.Common.{◌≡◌, ap, ◌∙◌, rules, []}
use Rattle.types.specs.Translation.{codes}
use Rattle.types.specs.Trees.{append}
use Rattle.step_trees.specs.Translation.{blocks}
use Rattle.step_trees.proofs.Rests.{append_end}
use Rattle.step_trees.proofs.rest.block_alone.Goals as goal

pub returns : goal.returns
returns c =
    let empty : c.new-rest.result.items ≡ [] = search rules in
    c.in_ok-enter.ensures
    ∙ ap (λ l. append (codes c.args.block.now) (blocks l)) empty
    ∙ append_end (codes c.args.block.now)
