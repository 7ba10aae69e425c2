use Rattle.std.proofs.Common.{◌≡◌, map, sym, ap, ◌∙◌, rules, length}
use Rattle.std.proofs.lemmas.List.{nil_from_length}
use Rattle.std.proofs.lemmas.Result.{IfOk-weaker}
use Rattle.std.specs.Prelude.{false, nat_eq}
use Rattle.types.specs.Translation.{codes, fault}
use Rattle.types.specs.Trees.{Handler, after_faults}
use Rattle.step_trees.specs.Translation.{leaf_of, handler_of}
use Rattle.step_trees.proofs.HeldTrees.{done_with_faults, handled_with_faults, without_faults}
use Rattle.step_trees.proofs.tree.continued.Goals as goal

pub returns-then-is_empty : goal.returns-then-is_empty
returns-then-is_empty c =
    let fs = c.args.leaf.faults.items in
    let none : length fs ≡ 0 = search rules in
    c.returned.ensures ∙ without_faults (handler_of c.args.handler) fs (leaf_of c.args.leaf) (nil_from_length fs none)

pub returns-in-None : goal.returns-in-None
returns-in-None c =
    let fs = c.args.leaf.faults.items in let k = leaf_of c.args.leaf in
    let some : nat_eq (length fs) 0 ≡ false = search rules in
    c.done.ensures ∙ done_with_faults fs k some
    ∙ ap (λ (h : Handler). after_faults h (map fault fs) k) (sym (ap handler_of c.in-None.is))

pub returns-in-Some : goal.returns-in-Some
returns-in-Some c =
    let fs = c.args.leaf.faults.items in let k = leaf_of c.args.leaf in let x = c.in-Some.handler in
    let some : nat_eq (length fs) 0 ≡ false = search rules in
    IfOk-weaker c.handled.result _ _
    (λ j e. e ∙ handled_with_faults x.faults.number (codes x.block.now) fs k some
    ∙ ap (λ (h : Handler). after_faults h (map fault fs) k) (sym (ap handler_of c.in-Some.is)))
    c.handled.ensures
