use Rattle.std.proofs.Common.{◌++◌, ap, arith, refl, ◌∙◌, sym}
use Rattle.std.specs.Prelude.{false}
use Rattle.types.specs.Translation.{codes, code as plain_code, procedure, truth}
use Rattle.types.proofs.Blocks.{code_Async, code_Finish, code_If, code_Parts, code_Rescue, code_Split}
use Rattle.types.proofs.Blocks.{code_While}
use Rattle.effects.proofs.Appending.{in_two_steps}
use Rattle.effects.proofs.Statements.{codes_at, is_Async, is_Finish, is_If, is_Parts, is_Rescue, is_Split, is_While, size}
use Rattle.effects.proofs.Statements.{size-drop, size_in}
use Rattle.warnings.specs.Ends.{is_always, is_never}
use Rattle.warnings.specs.Warnings.{block_warnings, inner_warnings}
use Rattle.warnings.proofs.Found.{one_statement}
use Rattle.warnings.proofs.finding.+within.Goals as goal

pub push_block-loop-stmt-preserved : goal.push_block-loop-stmt-preserved
push_block-loop-stmt-preserved t c =
    one_statement (procedure c.args.scope.procedure.now) c.args.block.now c.loop-stmt.stmt-index c.stmt-item.result _
    c.loop-stmt.unreached _ _ _ _ _ (omega arith) c.stmt-item.is c.in_ok-push_if.ensures c.in_ok-push_own.ensures
    c.in_ok-push_inner.ensures c.stops-unreached.ensures
    ∙ c.loop-stmt.invariant

pub push_block-push_inner-requires : goal.push_block-push_inner-requires
push_block-push_inner-requires t c =
    let xs = c.args.block.now in
    let i = c.loop-stmt.stmt-index in
    let x = c.stmt-item.result in
    let fewer = ap size (codes_at xs i x (omega arith) c.stmt-item.is) in
    (omega (arith, fewer, size-drop i xs), c.requires)

pub push_inner-push_block-requires : goal.push_inner-push_block-requires
push_inner-push_block-requires t c =
    let is = is_If _ c.in-If.guard c.in-If.body c.in-If.other c.deref.result.now c.in-If.other.items c.in-If.is c.deref.ensures.value refl in
    (omega (arith, ap size_in is), c.requires)

pub push_inner-push_block-requires-in-If : goal.push_inner-push_block-requires-in-If
push_inner-push_block-requires-in-If t c =
    let is = is_If _ c.in-If.guard c.in-If.body c.in-If.other c.in-If.body.items c.deref-in-If.result.now c.in-If.is refl c.deref-in-If.ensures.value in
    (omega (arith, ap size_in is), c.requires)

pub push_inner-push_block-requires-in-While : goal.push_inner-push_block-requires-in-While
push_inner-push_block-requires-in-While t c =
    let is = is_While _ c.in-While.guard c.in-While.body c.deref-in-While.result.now c.in-While.is c.deref-in-While.ensures.value in
    (omega (arith, ap size_in is), c.requires)

pub push_inner-push_block-requires-in-Split : goal.push_inner-push_block-requires-in-Split
push_inner-push_block-requires-in-Split t c =
    let is = is_Split _ c.in-Split.sides c.in-Split.body c.deref-in-Split.result.now c.in-Split.is c.deref-in-Split.ensures.value in
    (omega (arith, ap size_in is), c.requires)

pub push_inner-push_block-requires-in-Parts : goal.push_inner-push_block-requires-in-Parts
push_inner-push_block-requires-in-Parts t c =
    let is = is_Parts _ c.in-Parts.pieces c.in-Parts.body c.deref-in-Parts.result.now c.in-Parts.is c.deref-in-Parts.ensures.value in
    (omega (arith, ap size_in is), c.requires)

pub push_inner-push_block-requires-in-Async : goal.push_inner-push_block-requires-in-Async
push_inner-push_block-requires-in-Async t c =
    let is = is_Async _ c.in-Async.body c.deref-in-Async.result.now c.in-Async.is c.deref-in-Async.ensures.value in
    (omega (arith, ap size_in is), c.requires)

pub push_inner-push_block-requires-in-Finish : goal.push_inner-push_block-requires-in-Finish
push_inner-push_block-requires-in-Finish t c =
    let is = is_Finish _ c.in-Finish.body c.deref-in-Finish.result.now c.in-Finish.is c.deref-in-Finish.ensures.value in
    (omega (arith, ap size_in is), c.requires)

pub push_inner-push_block-requires-in-Rescue : goal.push_inner-push_block-requires-in-Rescue
push_inner-push_block-requires-in-Rescue t c =
    let is = is_Rescue _ c.in-Rescue.body c.in-Rescue.faults c.in-Rescue.handler c.deref-in-Rescue.result.now
    c.in-Rescue.handler.items c.in-Rescue.is c.deref-in-Rescue.ensures.value refl in
    (omega (arith, ap size_in is), c.requires)

pub push_inner-push_block-requires-in-Rescue-2 : goal.push_inner-push_block-requires-in-Rescue-2
push_inner-push_block-requires-in-Rescue-2 t c =
    let is = is_Rescue _ c.in-Rescue.body c.in-Rescue.faults c.in-Rescue.handler c.in-Rescue.body.items
    c.deref-in-Rescue-2.result.now c.in-Rescue.is refl c.deref-in-Rescue-2.ensures.value in
    (omega (arith, ap size_in is), c.requires)

pub push_inner-returns-in_ok-push_block-in-If-2 : goal.push_inner-returns-in_ok-push_block-in-If-2
push_inner-returns-in_ok-push_block-in-If-2 t c =
    let f = procedure c.args.scope.procedure.now in
    let before = c.args.found.now.items in
    let first = c.push_block.new.found.items in
    in_two_steps before first _ _ _ _
    (c.in_ok-push_block-in-If.ensures
    ∙ ap (λ d. before ++ block_warnings f d (codes c.deref.result.now)) c.is_never.ensures
    ∙ ap (λ b. before ++ block_warnings f (is_never (truth c.in-If.guard)) (codes b)) c.deref.ensures.value)
    (c.in_ok-push_block-in-If-2.ensures
    ∙ ap (λ d. first ++ block_warnings f d (codes c.deref-in-If.result.now)) c.is_always.ensures
    ∙ ap (λ b. first ++ block_warnings f (is_always (truth c.in-If.guard)) (codes b)) c.deref-in-If.ensures.value)
    (ap (inner_warnings f) (ap plain_code c.in-If.is ∙ code_If c.in-If.guard c.in-If.body c.in-If.other))

pub push_inner-returns-in_ok-push_block-in-While : goal.push_inner-returns-in_ok-push_block-in-While
push_inner-returns-in_ok-push_block-in-While t c =
    let f = procedure c.args.scope.procedure.now in
    let before = c.args.found.now.items in
    c.in_ok-push_block-in-While.ensures
    ∙ ap (λ d. before ++ block_warnings f d (codes c.deref-in-While.result.now)) c.is_never-in-While.ensures
    ∙ ap (λ b. before ++ block_warnings f (is_never (truth c.in-While.guard)) (codes b)) c.deref-in-While.ensures.value
    ∙ ap (λ k. before ++ inner_warnings f k) (sym (ap plain_code c.in-While.is ∙ code_While c.in-While.guard c.in-While.body))

pub push_inner-returns-in_ok-push_block-in-Split : goal.push_inner-returns-in_ok-push_block-in-Split
push_inner-returns-in_ok-push_block-in-Split t c =
    let f = procedure c.args.scope.procedure.now in
    let before = c.args.found.now.items in
    c.in_ok-push_block-in-Split.ensures
    ∙ ap (λ b. before ++ block_warnings f false (codes b)) c.deref-in-Split.ensures.value
    ∙ ap (λ k. before ++ inner_warnings f k) (sym (ap plain_code c.in-Split.is ∙ code_Split c.in-Split.sides c.in-Split.body))

pub push_inner-returns-in_ok-push_block-in-Parts : goal.push_inner-returns-in_ok-push_block-in-Parts
push_inner-returns-in_ok-push_block-in-Parts t c =
    let f = procedure c.args.scope.procedure.now in
    let before = c.args.found.now.items in
    c.in_ok-push_block-in-Parts.ensures
    ∙ ap (λ b. before ++ block_warnings f false (codes b)) c.deref-in-Parts.ensures.value
    ∙ ap (λ k. before ++ inner_warnings f k) (sym (ap plain_code c.in-Parts.is ∙ code_Parts c.in-Parts.pieces c.in-Parts.body))

pub push_inner-returns-in_ok-push_block-in-Async : goal.push_inner-returns-in_ok-push_block-in-Async
push_inner-returns-in_ok-push_block-in-Async t c =
    let f = procedure c.args.scope.procedure.now in
    let before = c.args.found.now.items in
    c.in_ok-push_block-in-Async.ensures
    ∙ ap (λ b. before ++ block_warnings f false (codes b)) c.deref-in-Async.ensures.value
    ∙ ap (λ k. before ++ inner_warnings f k) (sym (ap plain_code c.in-Async.is ∙ code_Async c.in-Async.body))

pub push_inner-returns-in_ok-push_block-in-Finish : goal.push_inner-returns-in_ok-push_block-in-Finish
push_inner-returns-in_ok-push_block-in-Finish t c =
    let f = procedure c.args.scope.procedure.now in
    let before = c.args.found.now.items in
    c.in_ok-push_block-in-Finish.ensures
    ∙ ap (λ b. before ++ block_warnings f false (codes b)) c.deref-in-Finish.ensures.value
    ∙ ap (λ k. before ++ inner_warnings f k) (sym (ap plain_code c.in-Finish.is ∙ code_Finish c.in-Finish.body))

pub push_inner-returns-in_ok-push_block-in-Rescue-2 : goal.push_inner-returns-in_ok-push_block-in-Rescue-2
push_inner-returns-in_ok-push_block-in-Rescue-2 t c =
    let f = procedure c.args.scope.procedure.now in
    let before = c.args.found.now.items in
    let first = c.push_block-in-Rescue.new.found.items in
    in_two_steps before first _ _ _ _
    (c.in_ok-push_block-in-Rescue.ensures
    ∙ ap (λ b. before ++ block_warnings f false (codes b)) c.deref-in-Rescue.ensures.value)
    (c.in_ok-push_block-in-Rescue-2.ensures
    ∙ ap (λ b. first ++ block_warnings f false (codes b)) c.deref-in-Rescue-2.ensures.value)
    (ap (inner_warnings f)
    (ap plain_code c.in-Rescue.is ∙ code_Rescue c.in-Rescue.body c.in-Rescue.faults c.in-Rescue.handler))
