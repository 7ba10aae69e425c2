use Rattle.std.proofs.Common.{ap, ◌∙◌}
use Rattle.step_trees.specs.Translation.{blocks}
use Rattle.step_trees.proofs.Rests.{blocks-push}
use Rattle.step_trees.proofs.rest.begin.Goals as goal

pub returns : goal.returns
returns c = ap blocks c.in_ok-push.ensures.items ∙ blocks-push c.args.rest.now.items _
