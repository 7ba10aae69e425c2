use Rattle.std.proofs.Common.{ap, ◌∙◌, sym}
use Rattle.types.specs.Code.{Codes, Then}
use Rattle.types.specs.Translation.{code}
use Rattle.types.specs.Trees.{append}
use Rattle.step_trees.specs.declared.rest.RestOfBlock.{RestOfBlock}
use Rattle.step_trees.specs.Translation.{block, blocks}
use Rattle.step_trees.proofs.Rests.{blocks-push}
use Rattle.step_trees.proofs.rest.next.Goals as goal

pub returns-in_ok-enter-in-Block : goal.returns-in_ok-enter-in-Block
returns-in_ok-enter-in-Block c =
    let first = c.in-Block.first.now in
    let others = c.pop.new.self.items in
    let before : RestOfBlock → Codes = λ b. append (block b) (blocks others) in
    ap blocks c.in-Some.ensures.items
    ∙ blocks-push others c.in-Some.top
    ∙ ap before c.in-Block.is
    ∙ ap (Then first.label (code first.kind)) (sym c.in_ok-enter-in-Block.ensures)

pub returns-in-Turns : goal.returns-in-Turns
returns-in-Turns c =
    let others = c.pop.new.self.items in
    let before : RestOfBlock → Codes = λ b. append (block b) (blocks others) in
    ap blocks c.in-Some.ensures.items ∙ blocks-push others c.in-Some.top ∙ ap before c.in-Turns.is
