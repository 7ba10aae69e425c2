use Rattle.std.proofs.Common.{List, ap, ◌∙◌, sym}
use Rattle.types.specs.Trees.{Caller, Leaf, done}
use Rattle.step_trees.specs.Translation.{callers, leaf_of}
use Rattle.step_trees.proofs.Rests.{callers-push}
use Rattle.step_trees.proofs.leaf.done.Goals as goal

pub calls-preserved : goal.calls-preserved
calls-preserved c =
    let done_in : List Caller → Leaf = λ fs. done (record (leaf_of c.calls.leaf) { callers = fs }) in
    sym (ap done_in (ap callers c.in-Some.ensures.items ∙ callers-push c.pop.new.self.items c.in-Some.caller)) ∙ c.calls.invariant
