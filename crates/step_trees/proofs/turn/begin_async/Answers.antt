use Rattle.std.proofs.Common.{◌≡◌, ℕ, ◌+◌, [], ◌∷◌, ◌++◌, ap, sym, ◌∙◌, rules}
use Rattle.types.specs.Translation.{codes}
use Rattle.statement_steps.specs.Lists.{contents_of, lengths_of}
use Rattle.step_trees.specs.Translation.{leaf_of}
use Rattle.step_trees.specs.Turns.{leaf_in}
use Rattle.step_trees.proofs.Turns.{spawned_tree}
use Rattle.step_trees.proofs.turn.begin_async.Goals as goal

pub returns : goal.returns
returns c =
    let next : c.in-Some.spawned ≡ c.args.turn.thread.spawned + 1 = search rules in
    let path = c.in_ok-path.ensures
    ∙ ap (λ (n : ℕ). c.args.turn.thread.path.turns.items ++ n ∷ []) (c.after-number.ensures ∙ sym next) in
    record {
      tree =
          spawned_tree (codes c.args.body.now) (leaf_in c.args.turn) (leaf_of c.apart-parent.result.0)
          c.in_ok-path.path.turns.items c.in-Some.spawned (leaf_of c.in_ok-child.child) (leaf_of c.inside.new.around)
          (leaf_of c.returned-parent.result) c.apart-parent.ensures.leaf path next c.in_ok-child.ensures.inside
          c.in_ok-child.ensures.around c.returned-parent.ensures;
      store = ap contents_of c.apart-parent.ensures.store;
      lengths = ap lengths_of c.apart-parent.ensures.store;
    }
