use Rattle.std.proofs.Common.{◌≡◌, ◌+◌, ◌<◌, ◌++◌, map, suc, sym, ap, ◌∙◌, arith}
use Rattle.std.proofs.lemmas.List.{append_assoc, map-append}
use Rattle.types.specs.Translation.{fault}
use Rattle.types.specs.Trees.{Leaf, Single, Beside, all_done, lines_of, faults_of, rightmost}
use Rattle.step_trees.specs.Translation.{leaf_of, handler_of}
use Rattle.step_trees.specs.Held.{tree_of}
use Rattle.step_trees.proofs.HeldTrees.{weight, weights, weights-push, with_rights, with_rights-push, lines-beside, faults-beside, rightmost-beside, no_then, done-rights}
use Rattle.step_trees.proofs.tree.Tree.take_apart.Goals as goal

pub leaves-smaller-in-Beside : goal.leaves-smaller-in-Beside
leaves-smaller-in-Beside c =
    let rights = c.leaves.rights.items in let b = c.in-Beside.right in
    let same : weight c.leaves.self ≡ suc (weight c.in-Beside.left.value + weight b.value) = ap weight c.in-Beside.is in
    let pushed : weights c.push.new.self.items ≡ weights rights + weight b.value
    = ap weights c.in_ok-push-in-Beside.ensures.items ∙ weights-push rights b in
    let top : weight c.into_inner-self.result ≡ weight c.in-Beside.left.value = ap weight c.into_inner-self.ensures in
    let less : weight c.into_inner-self.result + weights c.push.new.self.items < weight c.leaves.self + weights rights
    = omega (arith, same, pushed, top) in
    less

pub leaves-preserved-in-Beside : goal.leaves-preserved-in-Beside
leaves-preserved-in-Beside c =
    let rights = c.leaves.rights.items in let b = c.in-Beside.right in let t = c.into_inner-self.result in
    let same : with_rights c.push.new.self.items (tree_of t) ≡ with_rights rights (tree_of c.leaves.self)
    = ap (λ bs. with_rights bs (tree_of t)) c.in_ok-push-in-Beside.ensures.items
    ∙ with_rights-push rights b (tree_of t)
    ∙ ap (λ t. with_rights rights (Beside (tree_of t) (tree_of b.value))) c.into_inner-self.ensures
    ∙ sym (ap (λ t. with_rights rights (tree_of t)) c.in-Beside.is) in
    record {
      ended = ap all_done same ∙ c.leaves.invariant.ended;
      lines = ap (λ t. map (λ v. v.items) c.leaves.lines.items ++ lines_of t) same ∙ c.leaves.invariant.lines;
      faults = ap (λ t. map fault c.leaves.faults.items ++ faults_of t) same ∙ c.leaves.invariant.faults;
      owner = ap rightmost same ∙ c.leaves.invariant.owner;
    }

pub leaves-preserved-in-AndThen : goal.leaves-preserved-in-AndThen
leaves-preserved-in-AndThen c =
    let rights = c.leaves.rights.items in
    absurd (no_then rights (tree_of c.in-AndThen.first.value) (handler_of c.in-AndThen.behind.handler) (leaf_of c.in-AndThen.behind.leaf)
    (sym (ap (λ t. all_done (with_rights rights (tree_of t))) c.in-AndThen.is) ∙ c.leaves.invariant.ended))

pub leaves-smaller : goal.leaves-smaller
leaves-smaller c =
    let rights = c.pop.new.self.items in let b = c.in-Some.right in
    let same : weight c.leaves.self ≡ 1 = ap weight c.in-Single.is in
    let popped : weights c.leaves.rights.items ≡ weights rights + weight b.value
    = ap weights c.in-Some.ensures.items ∙ weights-push rights b in
    let top : weight c.into_inner-self-in-Some.result ≡ weight b.value = ap weight c.into_inner-self-in-Some.ensures in
    let less : weight c.into_inner-self-in-Some.result + weights rights < weight c.leaves.self + weights c.leaves.rights.items
    = omega (arith, same, popped, top) in
    less

pub leaves-preserved : goal.leaves-preserved
leaves-preserved c =
    let rights = c.pop.new.self.items in let b = c.in-Some.right in
    let k = leaf_of c.in-Single.leaf in let u = tree_of b.value in
    let whole : with_rights c.leaves.rights.items (tree_of c.leaves.self) ≡ with_rights rights (Beside (Single k) u)
    = ap (λ t. with_rights c.leaves.rights.items (tree_of t)) c.in-Single.is
    ∙ ap (λ bs. with_rights bs (Single k)) c.in-Some.ensures.items
    ∙ with_rights-push rights b (Single k) in
    let top : tree_of c.into_inner-self-in-Some.result ≡ u = ap tree_of c.into_inner-self-in-Some.ensures in
    let own = c.done-environment.result in
    let old = map (λ v. v.items) c.leaves.lines.items in let old_faults = map fault c.leaves.faults.items in
    let left = lines_of (with_rights rights u) in let left_faults = faults_of (with_rights rights u) in
    record {
      ended =
          ap (λ t. all_done (with_rights rights t)) top
          ∙ done-rights rights (Single k) u (sym (ap all_done whole) ∙ c.leaves.invariant.ended);
      lines =
          ap (λ t. map (λ v. v.items) c.append.new.self.items ++ lines_of (with_rights rights t)) top
          ∙ ap (λ l. map (λ v. v.items) l ++ left) c.in_ok-append-in-Single.ensures.items
          ∙ ap (λ l. l ++ left) (map-append (λ v. v.items) c.leaves.lines.items own.lines.items)
          ∙ append_assoc old (map (λ v. v.items) own.lines.items) left
          ∙ ap (λ (j : Leaf). old ++ (j.lines ++ left)) c.done-environment.ensures
          ∙ ap (λ l. old ++ l) (sym (lines-beside rights (Single k) u))
          ∙ ap (λ t. old ++ lines_of t) (sym whole)
          ∙ c.leaves.invariant.lines;
      faults =
          ap (λ t. map fault c.append-in-Single.new.self.items ++ faults_of (with_rights rights t)) top
          ∙ ap (λ l. map fault l ++ left_faults) c.in_ok-append-in-Single-2.ensures.items
          ∙ ap (λ l. l ++ left_faults) (map-append fault c.leaves.faults.items own.faults.items)
          ∙ append_assoc old_faults (map fault own.faults.items) left_faults
          ∙ ap (λ (j : Leaf). old_faults ++ (j.faults ++ left_faults)) c.done-environment.ensures
          ∙ ap (λ l. old_faults ++ l) (sym (faults-beside rights (Single k) u))
          ∙ ap (λ t. old_faults ++ faults_of t) (sym whole)
          ∙ c.leaves.invariant.faults;
      owner =
          ap (λ t. rightmost (with_rights rights t)) top
          ∙ sym (rightmost-beside rights (Single k) u)
          ∙ sym (ap rightmost whole)
          ∙ c.leaves.invariant.owner;
    }
