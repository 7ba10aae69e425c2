use Rattle.std.proofs.Common.{◌≡◌, List, ◌++◌, map, ap, sym, ◌∙◌}
use Rattle.types.specs.Code.{Code}
use Rattle.types.specs.Translation.{codes, code}
use Rattle.types.proofs.Blocks.{code_If, code_While, code_Split, code_Parts, code_Async, code_Finish, code_Rescue}
use Rattle.effects.specs.declared.visits.Standing.{Standing}
use Rattle.effects.specs.Visits.{Visit, visits_in, visits_inside, visit}
use Rattle.effects.proofs.Appending.{in_two_steps}
use Rattle.effects.proofs.VisitLemmas.{visits_same}
use Rattle.effects.proofs.visits.+visit.Goals as goal

-- what is visited inside a statement, by its code
inside_of : (before : List Visit) (w : Standing) {of is : Code} → of ≡ is → before ++ visits_inside w is ≡ before ++ visits_inside w of
inside_of before w e = ap (λ k. before ++ visits_inside w k) (sym e)

pub visit_inside-returns-in_ok-visit_block-in-If-2 : goal.visit_inside-returns-in_ok-visit_block-in-If-2
visit_inside-returns-in_ok-visit_block-in-If-2 t c =
    let w = c.args.standing in
    let first = c.visit_block.new.into.items in
    in_two_steps (map visit c.args.into.now.items) (map visit first) _ _ _ _
    (c.in_ok-visit_block-in-If.ensures ∙ ap (λ b. map visit c.args.into.now.items ++ visits_in w (codes b)) c.deref.ensures.value)
    (c.in_ok-visit_block-in-If-2.ensures ∙ ap (λ b. map visit first ++ visits_in w (codes b)) c.deref-in-If.ensures.value)
    (ap (λ k. visits_inside w (code k)) c.in-If.is ∙ ap (visits_inside w) (code_If c.in-If.guard c.in-If.body c.in-If.other))

pub visit_inside-returns-in_ok-visit_block-in-While : goal.visit_inside-returns-in_ok-visit_block-in-While
visit_inside-returns-in_ok-visit_block-in-While t c =
    let before = map visit c.args.into.now.items in
    c.in_ok-visit_block-in-While.ensures
    ∙ ap (λ b. before ++ visits_in c.args.standing (codes b)) c.deref-in-While.ensures.value
    ∙ inside_of before c.args.standing (ap code c.in-While.is ∙ code_While c.in-While.guard c.in-While.body)

pub visit_inside-returns-in_ok-visit_block-in-Split : goal.visit_inside-returns-in_ok-visit_block-in-Split
visit_inside-returns-in_ok-visit_block-in-Split t c =
    let before = map visit c.args.into.now.items in
    c.in_ok-visit_block-in-Split.ensures
    ∙ ap (λ b. before ++ visits_in c.args.standing (codes b)) c.deref-in-Split.ensures.value
    ∙ inside_of before c.args.standing
    (ap code c.in-Split.is ∙ code_Split c.in-Split.sides c.in-Split.body)

pub visit_inside-returns-in_ok-visit_block-in-Parts : goal.visit_inside-returns-in_ok-visit_block-in-Parts
visit_inside-returns-in_ok-visit_block-in-Parts t c =
    let before = map visit c.args.into.now.items in
    c.in_ok-visit_block-in-Parts.ensures
    ∙ ap (λ b. before ++ visits_in c.args.standing (codes b)) c.deref-in-Parts.ensures.value
    ∙ inside_of before c.args.standing
    (ap code c.in-Parts.is ∙ code_Parts c.in-Parts.pieces c.in-Parts.body)

pub visit_inside-returns-in_ok-visit_block-in-Async : goal.visit_inside-returns-in_ok-visit_block-in-Async
visit_inside-returns-in_ok-visit_block-in-Async t c =
    c.in_ok-visit_block-in-Async.ensures
    ∙ visits_same (map visit c.args.into.now.items) c.in_async.ensures c.deref-in-Async.ensures.value
    ∙ inside_of (map visit c.args.into.now.items) c.args.standing (ap code c.in-Async.is ∙ code_Async c.in-Async.body)

pub visit_inside-returns-in_ok-visit_block-in-Rescue-2 : goal.visit_inside-returns-in_ok-visit_block-in-Rescue-2
visit_inside-returns-in_ok-visit_block-in-Rescue-2 t c =
    let w = c.args.standing in
    let first = c.visit_block-in-Rescue.new.into.items in
    in_two_steps (map visit c.args.into.now.items) (map visit first) _ _ _ _
    (c.in_ok-visit_block-in-Rescue.ensures
    ∙ visits_same (map visit c.args.into.now.items) c.in_finish-in-Rescue.ensures c.deref-in-Rescue.ensures.value)
    (c.in_ok-visit_block-in-Rescue-2.ensures ∙ ap (λ b. map visit first ++ visits_in w (codes b)) c.deref-in-Rescue-2.ensures.value)
    (ap (λ k. visits_inside w (code k)) c.in-Rescue.is
    ∙ ap (visits_inside w) (code_Rescue c.in-Rescue.body c.in-Rescue.faults c.in-Rescue.handler))

pub visit_inside-returns-in_ok-visit_block-in-Finish : goal.visit_inside-returns-in_ok-visit_block-in-Finish
visit_inside-returns-in_ok-visit_block-in-Finish t c =
    c.in_ok-visit_block-in-Finish.ensures
    ∙ visits_same (map visit c.args.into.now.items) c.in_finish.ensures c.deref-in-Finish.ensures.value
    ∙ inside_of (map visit c.args.into.now.items) c.args.standing (ap code c.in-Finish.is ∙ code_Finish c.in-Finish.body)
