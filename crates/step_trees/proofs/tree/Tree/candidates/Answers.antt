use Rattle.std.proofs.Common.{◌≡◌, ◌+◌, ◌<◌, ◌++◌, length, map, suc, sym, ap, ◌∙◌, arith}
use Rattle.std.proofs.lemmas.List.{append_assoc, nil_from_length}
use Rattle.types.specs.Trees.{Beside, Single}
use Rattle.step_trees.specs.Held.{tree_of}
use Rattle.step_trees.specs.Standing.{candidate_of, candidates, listed}
use Rattle.step_trees.specs.Translation.{leaf_of, handler_of}
use Rattle.step_trees.proofs.HeldTrees.{weight, weights, weights-push, with_rights, with_rights-push, candidates-beside, candidates-first}
use Rattle.step_trees.proofs.tree.Tree.candidates.Goals as goal

pub leaves-smaller-in-Beside : goal.leaves-smaller-in-Beside
leaves-smaller-in-Beside c =
    let rights = c.leaves.rights.items in let b = c.in-Beside.right in
    let same : weight c.leaves.self ≡ suc (weight c.in-Beside.left.value + weight b.value) = ap weight c.in-Beside.is in
    let pushed : weights c.push.new.self.items ≡ weights rights + weight b.value
    = ap weights c.in_ok-push-in-Beside.ensures.items ∙ weights-push rights b in
    let top : weight c.into_inner-self.result ≡ weight c.in-Beside.left.value = ap weight c.into_inner-self.ensures in
    let less : weight c.into_inner-self.result + weights c.push.new.self.items < weight c.leaves.self + weights rights
    = omega (arith, same, pushed, top) in
    less

pub leaves-preserved-in-Beside : goal.leaves-preserved-in-Beside
leaves-preserved-in-Beside c =
    let rights = c.leaves.rights.items in let b = c.in-Beside.right in let t = c.into_inner-self.result in
    let same : with_rights c.push.new.self.items (tree_of t) ≡ with_rights rights (tree_of c.leaves.self)
    = ap (λ bs. with_rights bs (tree_of t)) c.in_ok-push-in-Beside.ensures.items
    ∙ with_rights-push rights b (tree_of t)
    ∙ ap (λ t. with_rights rights (Beside (tree_of t) (tree_of b.value))) c.into_inner-self.ensures
    ∙ sym (ap (λ t. with_rights rights (tree_of t)) c.in-Beside.is) in
    ap (λ t. map candidate_of c.leaves.found.items ++ candidates t) same ∙ c.leaves.invariant

pub leaves-smaller-in-AndThen : goal.leaves-smaller-in-AndThen
leaves-smaller-in-AndThen c =
    let same : weight c.leaves.self ≡ suc (weight c.in-AndThen.first.value) = ap weight c.in-AndThen.is in
    let top : weight c.into_inner-self-in-AndThen.result ≡ weight c.in-AndThen.first.value
    = ap weight c.into_inner-self-in-AndThen.ensures in
    let less : weight c.into_inner-self-in-AndThen.result + weights c.leaves.rights.items
    < weight c.leaves.self + weights c.leaves.rights.items
    = omega (arith, same, top) in
    less

pub leaves-preserved-in-AndThen : goal.leaves-preserved-in-AndThen
leaves-preserved-in-AndThen c =
    let rights = c.leaves.rights.items in
    let first = tree_of c.in-AndThen.first.value in
    let same : candidates (with_rights rights (tree_of c.into_inner-self-in-AndThen.result))
    ≡ candidates (with_rights rights (tree_of c.leaves.self))
    = ap (λ t. candidates (with_rights rights (tree_of t))) c.into_inner-self-in-AndThen.ensures
    ∙ sym (candidates-first rights first (handler_of c.in-AndThen.behind.handler) (leaf_of c.in-AndThen.behind.leaf))
    ∙ sym (ap (λ t. candidates (with_rights rights (tree_of t))) c.in-AndThen.is) in
    ap (λ l. map candidate_of c.leaves.found.items ++ l) same ∙ c.leaves.invariant

pub leaves-smaller : goal.leaves-smaller
leaves-smaller c =
    let rights = c.pop.new.self.items in let b = c.in-Some.right in
    let same : weight c.leaves.self ≡ 1 = ap weight c.in-Single.is in
    let popped : weights c.leaves.rights.items ≡ weights rights + weight b.value
    = ap weights c.in-Some.ensures.items ∙ weights-push rights b in
    let top : weight c.into_inner-self-in-Some.result ≡ weight b.value = ap weight c.into_inner-self-in-Some.ensures in
    let less : weight c.into_inner-self-in-Some.result + weights rights < weight c.leaves.self + weights c.leaves.rights.items
    = omega (arith, same, popped, top) in
    less

pub leaves-preserved : goal.leaves-preserved
leaves-preserved c =
    let rights = c.pop.new.self.items in let b = c.in-Some.right in
    let k = leaf_of c.in-Single.leaf in let u = tree_of b.value in
    let old = map candidate_of c.leaves.found.items in
    let whole : with_rights c.leaves.rights.items (tree_of c.leaves.self) ≡ with_rights rights (Beside (Single k) u)
    = ap (λ t. with_rights c.leaves.rights.items (tree_of t)) c.in-Single.is
    ∙ ap (λ bs. with_rights bs (Single k)) c.in-Some.ensures.items
    ∙ with_rights-push rights b (Single k) in
    ap (λ t. map candidate_of c.push_some.new.found.items ++ candidates (with_rights rights (tree_of t)))
    c.into_inner-self-in-Some.ensures
    ∙ ap (λ l. l ++ candidates (with_rights rights u)) c.in_ok-push_some-in-Single.ensures
    ∙ append_assoc old (listed c.task_of.result) (candidates (with_rights rights u))
    ∙ ap (λ l. old ++ (l ++ candidates (with_rights rights u))) c.task_of.ensures
    ∙ ap (λ l. old ++ l) (sym (candidates-beside rights (Single k) u))
    ∙ ap (λ t. old ++ candidates t) (sym whole)
    ∙ c.leaves.invariant

pub returns-in-None : goal.returns-in-None
returns-in-None c =
    let k = leaf_of c.in-Single.leaf in
    let old = map candidate_of c.leaves.found.items in
    let empty : length c.leaves.rights.items ≡ 0 = omega (arith, c.in-None.ensures.cases.0) in
    let whole : with_rights c.leaves.rights.items (tree_of c.leaves.self) ≡ Single k
    = ap (λ t. with_rights c.leaves.rights.items (tree_of t)) c.in-Single.is
    ∙ ap (λ bs. with_rights bs (Single k)) (nil_from_length c.leaves.rights.items empty) in
    c.in_ok-push_some-in-Single.ensures
    ∙ ap (λ l. old ++ l) c.task_of.ensures
    ∙ ap (λ t. old ++ candidates t) (sym whole)
    ∙ c.leaves.invariant
