use Rattle.std.proofs.Common.{List, ◌∷◌, ap, ◌∙◌, Vec, Global}
use Rattle.types.specs.Code.{Codes}
use Rattle.types.specs.Translation.{codes, environment}
use Rattle.types.specs.Trees.{Caller, Leaf, Tree, single}
use Rattle.step_trees.specs.declared.leaf.Caller.{Caller as rCaller}
use Rattle.step_trees.specs.declared.rest.RestOfBlock.{RestOfBlock}
use Rattle.step_trees.specs.Translation.{blocks, callers}
use Rattle.step_trees.specs.Turns.{leaf_in}
use Rattle.step_trees.proofs.Rests.{callers-push}
use Rattle.step_trees.proofs.turn.calls.Goals as goal

pub returns : goal.returns
returns c =
    let t = c.args.turn in let k = leaf_in t in
    let at : Codes → List Caller → Tree = λ d fs. let j : Leaf = record k { rest = d; callers = fs } in single j in
    let frame : rCaller = record { environment = c.args.caller; rest = c.replace-rest.result } in
    let frame_of : Vec RestOfBlock Global → Caller = λ bs. record { environment = environment c.args.caller; rest = blocks bs.items } in
    record {
      tree =
          c.going.ensures.tree
          ∙ ap (λ d. at d (callers c.push.new.self.items))
          (ap (λ (bs : Vec RestOfBlock Global). blocks bs.items) c.replace-rest.ensures.after ∙ c.in_ok-body.ensures)
          ∙ ap (at (codes c.args.body.now))
          (ap callers c.in_ok-push.ensures.items ∙ callers-push t.callers.items frame
          ∙ ap (λ (x : Caller). x ∷ callers t.callers.items) (ap frame_of c.replace-rest.ensures.value));
      store = c.going.ensures.store;
      lengths = c.going.ensures.lengths;
    }
