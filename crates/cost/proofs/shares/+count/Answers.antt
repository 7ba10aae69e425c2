use Rattle.std.proofs.Common.{◌≡◌, ℕ, List, min, sym, ap, ◌∙◌, arith}
use Rattle.types.specs.Code.{Code}
use Rattle.types.specs.Translation.{codes, code as plain_code}
use Rattle.types.specs.declared.code.Stmt.{Stmt}
use Rattle.types.proofs.Blocks.{code_If, code_While, code_Split, code_Parts, code_Async, code_Finish, code_Rescue}
use Rattle.cost.specs.Shares.{share_inside, share_of}
use Rattle.cost.proofs.shares.+count.Goals as goal

-- for a statement with one block, if the total fits in 64 bits
one_block : (ns : List ℕ) (n : ℕ) (b items : List Stmt) (c : Code) → n ≡ min (share_of ns (codes b)) 18446744073709551615 → b ≡ items
    → share_inside ns c ≡ share_of ns (codes items) → n ≡ min (share_inside ns c) 18446744073709551615
one_block ns n b items c block same inside =
    block ∙ ap (λ (l : ℕ). min l 18446744073709551615) (ap (λ l. share_of ns (codes l)) same ∙ sym inside)

pub in_statement-returns-in-If : goal.in_statement-returns-in-If
in_statement-returns-in-If t c =
    let ns = c.args.table.now in
    let body = c.in_block.ensures ∙ ap (λ b. min (share_of ns (codes b)) 18446744073709551615) c.deref.ensures.value in
    let other = c.in_block-in-If.ensures ∙ ap (λ b. min (share_of ns (codes b)) 18446744073709551615) c.deref-in-If.ensures.value in
    let all = ap (share_inside ns) (ap plain_code c.in-If.is ∙ code_If c.in-If.guard c.in-If.body c.in-If.other) in
    omega (arith, c.saturating_add.ensures, body, other, all)

pub in_statement-returns-in-While : goal.in_statement-returns-in-While
in_statement-returns-in-While t c =
    let all = ap plain_code c.in-While.is ∙ code_While c.in-While.guard c.in-While.body in
    one_block c.args.table.now _ _ _ _ c.in_block-in-While.ensures c.deref-in-While.ensures.value (ap (share_inside c.args.table.now) all)

pub in_statement-returns-in-Split : goal.in_statement-returns-in-Split
in_statement-returns-in-Split t c =
    let s = c.in-Split in
    let all = ap plain_code s.is ∙ code_Split s.sides s.body in
    one_block c.args.table.now _ _ _ _ c.in_block-in-Split.ensures c.deref-in-Split.ensures.value (ap (share_inside c.args.table.now) all)

pub in_statement-returns-in-Parts : goal.in_statement-returns-in-Parts
in_statement-returns-in-Parts t c =
    let s = c.in-Parts in
    let all = ap plain_code s.is ∙ code_Parts s.pieces s.body in
    one_block c.args.table.now _ _ _ _ c.in_block-in-Parts.ensures c.deref-in-Parts.ensures.value (ap (share_inside c.args.table.now) all)

pub in_statement-returns-in-Async : goal.in_statement-returns-in-Async
in_statement-returns-in-Async t c =
    let all = ap plain_code c.in-Async.is ∙ code_Async c.in-Async.body in
    one_block c.args.table.now _ _ _ _ c.in_block-in-Async.ensures c.deref-in-Async.ensures.value (ap (share_inside c.args.table.now) all)

pub in_statement-returns-in-Finish : goal.in_statement-returns-in-Finish
in_statement-returns-in-Finish t c =
    let all = ap plain_code c.in-Finish.is ∙ code_Finish c.in-Finish.body in
    one_block c.args.table.now _ _ _ _ c.in_block-in-Finish.ensures c.deref-in-Finish.ensures.value (ap (share_inside c.args.table.now) all)

pub in_statement-returns-in-Rescue : goal.in_statement-returns-in-Rescue
in_statement-returns-in-Rescue t c =
    let ns = c.args.table.now in
    let at_most : List Stmt → ℕ = λ b. min (share_of ns (codes b)) 18446744073709551615 in
    let body = c.in_block-in-Rescue.ensures ∙ ap at_most c.deref-in-Rescue.ensures.value in
    let handler = c.in_block-in-Rescue-2.ensures ∙ ap at_most c.deref-in-Rescue-2.ensures.value in
    let all = ap (share_inside ns) (ap plain_code c.in-Rescue.is ∙ code_Rescue c.in-Rescue.body _ c.in-Rescue.handler) in
    omega (arith, c.saturating_add-in-Rescue.ensures, body, handler, all)
