use Rattle.std.proofs.Common.{min, ap, ◌∙◌, arith}
use Rattle.types.specs.Statements.{statements, statements_in}
use Rattle.types.specs.Translation.{codes, code as plain_code}
use Rattle.types.proofs.Blocks.{code_If, code_While, code_Split, code_Parts, code_Async, code_Finish, code_Rescue}
use Rattle.printing.proofs.labels.+count.Goals as goal

pub in_statement-returns-in-If : goal.in_statement-returns-in-If
in_statement-returns-in-If t c =
    let body = c.in_block.ensures ∙ ap (λ b. min (statements (codes b)) 18446744073709551615) c.deref.ensures.value in
    let other = c.in_block-in-If.ensures ∙ ap (λ b. min (statements (codes b)) 18446744073709551615) c.deref-in-If.ensures.value in
    let all = ap statements_in (ap plain_code c.in-If.is ∙ code_If c.in-If.guard c.in-If.body c.in-If.other) in
    omega (arith, c.saturating_add.ensures, c.saturating_add-in-If.ensures, body, other, all)

pub in_statement-returns-in-While : goal.in_statement-returns-in-While
in_statement-returns-in-While t c =
    let body = c.in_block-in-While.ensures ∙ ap (λ b. min (statements (codes b)) 18446744073709551615) c.deref-in-While.ensures.value in
    let all = ap statements_in (ap plain_code c.in-While.is ∙ code_While c.in-While.guard c.in-While.body) in
    omega (arith, c.saturating_add-in-While.ensures, body, all)

pub in_statement-returns-in-Split : goal.in_statement-returns-in-Split
in_statement-returns-in-Split t c =
    let body = c.in_block-in-Split.ensures ∙ ap (λ b. min (statements (codes b)) 18446744073709551615) c.deref-in-Split.ensures.value in
    let s = c.in-Split in
    let all = ap statements_in (ap plain_code s.is ∙ code_Split s.sides s.body) in
    omega (arith, c.saturating_add-in-Split.ensures, body, all)

pub in_statement-returns-in-Parts : goal.in_statement-returns-in-Parts
in_statement-returns-in-Parts t c =
    let body = c.in_block-in-Parts.ensures ∙ ap (λ b. min (statements (codes b)) 18446744073709551615) c.deref-in-Parts.ensures.value in
    let s = c.in-Parts in
    let all = ap statements_in (ap plain_code s.is ∙ code_Parts s.pieces s.body) in
    omega (arith, c.saturating_add-in-Parts.ensures, body, all)

pub in_statement-returns-in-Async : goal.in_statement-returns-in-Async
in_statement-returns-in-Async t c =
    let body = c.in_block-in-Async.ensures ∙ ap (λ b. min (statements (codes b)) 18446744073709551615) c.deref-in-Async.ensures.value in
    let all = ap statements_in (ap plain_code c.in-Async.is ∙ code_Async c.in-Async.body) in
    omega (arith, c.saturating_add-in-Async.ensures, body, all)

pub in_statement-returns-in-Finish : goal.in_statement-returns-in-Finish
in_statement-returns-in-Finish t c =
    let body = c.in_block-in-Finish.ensures ∙ ap (λ b. min (statements (codes b)) 18446744073709551615) c.deref-in-Finish.ensures.value in
    let all = ap statements_in (ap plain_code c.in-Finish.is ∙ code_Finish c.in-Finish.body) in
    omega (arith, c.saturating_add-in-Finish.ensures, body, all)

pub in_statement-returns-in-Rescue : goal.in_statement-returns-in-Rescue
in_statement-returns-in-Rescue t c =
    let body = c.in_block-in-Rescue.ensures ∙ ap (λ b. min (statements (codes b)) 18446744073709551615) c.deref-in-Rescue.ensures.value in
    let handler = c.in_block-in-Rescue-2.ensures ∙ ap (λ b. min (statements (codes b)) 18446744073709551615) c.deref-in-Rescue-2.ensures.value in
    let all = ap statements_in (ap plain_code c.in-Rescue.is ∙ code_Rescue c.in-Rescue.body _ c.in-Rescue.handler) in
    omega (arith, c.saturating_add-in-Rescue.ensures, c.saturating_add-in-Rescue-2.ensures, body, handler, all)
