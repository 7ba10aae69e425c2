use Rattle.std.proofs.Common.{◌≡◌, ap, ◌∙◌}
use Rattle.types.specs.Contents.{held_by}
use Rattle.types.specs.Translation.{program, input}
use Rattle.types.specs.TreeSteps.{first_tree}
use Rattle.types.specs.Typed.{code_of}
use Rattle.step_trees.proofs.Exploring.{held_first}
use Rattle.step_trees.proofs.explore.begun_of.Goals as goal

pub returns : goal.returns
returns c =
    let p = code_of c.args.typed.now in
    let same : program c.code.result.now ≡ p = c.code.ensures.code in
    let start = c.in_ok-place.ensures in
    record {
      held = held_first _ _ p (input c.args.input.now) same start.place start.tree c.in_ok-store.ensures c.requires;
      code = same;
      tree = start.tree ∙ ap first_tree same;
      store = ap held_by c.in_ok-store.ensures;
    }
