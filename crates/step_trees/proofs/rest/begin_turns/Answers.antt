use Rattle.std.proofs.Common.{ap, ◌∙◌, sym}
use Rattle.std.specs.Prelude.{Bool, if◌then◌else◌}
use Rattle.sections.specs.Translation.{window}
use Rattle.types.specs.Code.{Codes, Then}
use Rattle.statement_steps.specs.Turns.{begun}
use Rattle.step_trees.specs.declared.rest.RestOfBlock.TheVariants.{Turns}
use Rattle.step_trees.specs.Translation.{blocks}
use Rattle.step_trees.proofs.Rests.{blocks-push}
use Rattle.step_trees.proofs.Turns.{has_none, has_some}
use Rattle.step_trees.proofs.rest.begin_turns.Goals as goal

pub returns-in-None : goal.returns-in-None
returns-in-None c =
    let t = c.args.turns in let rest = blocks c.args.rest.now.items in
    let by : Bool → Codes = λ left. if left then Then t.label (begun t) rest else rest in
    ap by (sym (has_none (window c.args.window) t.size t.next c.in-None.ensures.piece))

pub returns-in_ok-push-in-Some : goal.returns-in_ok-push-in-Some
returns-in_ok-push-in-Some c =
    let t = c.args.turns in let rest = blocks c.args.rest.now.items in
    let by : Bool → Codes = λ left. if left then Then t.label (begun t) rest else rest in
    ap blocks c.in_ok-push-in-Some.ensures.items
    ∙ blocks-push c.args.rest.now.items (Turns t)
    ∙ ap by (sym (has_some (window c.args.window) t.size t.next _ c.in-Some.ensures.piece).0)
