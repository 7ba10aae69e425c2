use Rattle.std.proofs.Common.{IfOk, IfErr, Some, map, refl, ◌≡◌, ◌+◌, ◌<◌, ◌≤◌, ◌++◌, [], ◌∷◌, drop, length, sym, ap, ◌∙◌, subst, arith, rules}
use Rattle.std.proofs.lemmas.List.{at_drop_more, at_drop_all}
use Rattle.std.specs.String.{string_bytes}
use Rattle.syntax_tree.specs.Tree.{Then, Print, If, IfElse, While, Split, Parts, Call, Async, Finish, Rescue, stmt, block, expr}
use Rattle.syntax_tree.proofs.RowLemmas.{stmt_If, stmt_IfElse, stmt_While, stmt_Split, stmt_Parts, stmt_Async, stmt_Finish}
use Rattle.syntax_tree.proofs.RowLemmas.{stmt_Rescue}
use Rattle.types.specs.Code as code
use Rattle.types.specs.Resolution as resolution
use Rattle.types.specs.Resolving.{scope_of, procedures_of, left, IsWellScoped, Resolves}
use Rattle.types.specs.Rules.{errors, errors_in, own_errors, limit}
use Rattle.types.specs.Scope.{Scope, ASection, AScalar, meant, with_scalar, with_sides, with_turn, inside_async, next as next_place}
use Rattle.types.specs.Scope.{after, behind}
use Rattle.types.specs.NameErrors.{declaring}
use Rattle.syntax_tree.specs.declared.tree.Stmt.TheVariants.{If as tree_If}
use Rattle.types.specs.Told.{Told}
use Rattle.types.specs.Translation as plain
use Rattle.types.proofs.Blocks.{joined, joined_push, joined_all}
use Rattle.types.proofs.Scopes.{scoped_behind, scoped_next, scoped_async, scoped_sides, scoped_turn, scoped_body, scoped_handler}
use Rattle.types.proofs.Scopes.{left_next}
use Rattle.types.proofs.Sizes.{size, size_in}
use Rattle.types.proofs.Statements.{rest_errors, Marks, out_by, resolves_Skip, resolves_While, resolves_If, resolves_IfElse}
use Rattle.types.proofs.Statements.{resolves_Finish, resolves_Rescue, resolves_Async, resolves_Split, resolves_Parts, resolves_same}
use Rattle.types.proofs.Statements.{stmt_Skip, stmt_Var, stmt_Assign}
use Rattle.types.proofs.Statements.{stmt_Store, stmt_Print, stmt_Fault, stmt_Call}
use Rattle.types.proofs.Telling.{at_exit, told_left, told_right}
use Rattle.types.proofs.check.statements.Statements.+statement.Goals as goal

pub block-loop-stmt-preserved : goal.block-loop-stmt-preserved
block-loop-stmt-preserved t c =
    let fs = procedures_of c.args.self.now.procedures in
    let xs = c.args.block.now in
    let i = c.loop-stmt.stmt-index in
    let x = c.stmt-item.result in
    let rest = block (drop (i + 1) xs) in
    let made = c.in_ok-stmt.ensures in
    let now = scope_of c.loop-stmt.scope in
    let next = scope_of c.statement.new.scope in
    let within_block : i < length xs = search rules in
    let front : block (drop i xs) ≡ Then (stmt x) rest =
    at_drop_more block xs i x within_block ∙ ap (λ y. Then (stmt y) rest) (sym c.stmt-item.is) in
    let place : next ≡ behind (stmt x) now = made.place in
    record {
      small = omega (arith, ap size front, c.loop-stmt.invariant.small);
      scoped = subst IsWellScoped (sym place) (scoped_behind (stmt x) now c.loop-stmt.invariant.scoped);
      place = ap (after rest) place ∙ ap (λ b. after b now) (sym front) ∙ c.loop-stmt.invariant.place;
      right = ap (λ p. errors fs p rest) place
          ∙ sym (rest_errors fs now (stmt x) rest (limit 65535 c.loop-stmt.scope.label ++ errors_in fs now (stmt x)) made.right)
          ∙ ap (errors fs now) (sym front) ∙ c.loop-stmt.invariant.right;
      code = ap (λ rs. joined rs (resolution.codes fs next rest)) c.in_ok-push.ensures.items
          ∙ sym (joined_push c.loop-stmt.resolved.items c.in_ok-stmt.stmt (resolution.codes fs next rest))
          ∙ ap (joined c.loop-stmt.resolved.items)
          (ap (λ l. code.Then l (plain.code c.in_ok-stmt.stmt.kind) (resolution.codes fs next rest)) made.label
          ∙ ap (λ k. code.Then now.label k (resolution.codes fs next rest)) (sym made.code)
          ∙ ap (λ p. code.Then now.label (resolution.code fs now (stmt x)) (resolution.codes fs p rest)) place
          ∙ ap (resolution.codes fs now) (sym front))
          ∙ c.loop-stmt.invariant.code;
    }

pub block-returns-clause-code : goal.block-returns-clause-code
block-returns-clause-code t c =
    let fs = procedures_of c.args.self.now.procedures in
    let xs = c.args.block.now in
    let at_end : length xs ≤ c.loop-stmt.stmt-index = search rules in
    let none_left = at_drop_all block xs c.loop-stmt.stmt-index at_end in
    sym c.loop-stmt.invariant.code
    ∙ ap (λ b. joined c.loop-stmt.resolved.items (resolution.codes fs (scope_of c.loop-stmt.scope) b)) none_left
    ∙ joined_all c.loop-stmt.resolved.items

pub block-returns-in_err-stmt-clause-error : goal.block-returns-in_err-stmt-clause-error
block-returns-in_err-stmt-clause-error t c =
    let fs = procedures_of c.args.self.now.procedures in
    let xs = c.args.block.now in
    let i = c.loop-stmt.stmt-index in
    let x = c.stmt-item.result in
    let rest = block (drop (i + 1) xs) in
    let now = scope_of c.loop-stmt.scope in
    let from = scope_of c.args.scope.now in
    let e = c.in_err-stmt.field-0.0 in
    let mine = limit 65535 c.loop-stmt.scope.label ++ errors_in fs now (stmt x) in
    let within_block : i < length xs = search rules in
    let front : block (drop i xs) ≡ Then (stmt x) rest =
    at_drop_more block xs i x within_block ∙ ap (λ y. Then (stmt y) rest) (sym c.stmt-item.is) in
    at_exit (Told (errors fs from (block xs))) c.from_residual.result e c.from_residual.ensures.1
    (subst (λ l. Told l e) (ap (errors fs now) (sym front) ∙ c.loop-stmt.invariant.right)
    (told_left mine (errors fs (behind (stmt x) now) rest) e c.in_err-stmt.ensures.error))

pub kind-returns-in-Var-clause-ok : goal.kind-returns-in-Var-clause-ok
kind-returns-in-Var-clause-ok t c =
    let fs = procedures_of c.args.self.now.procedures in
    let here = scope_of c.args.scope.now in
    let is = ap stmt c.in-Var.is ∙ stmt_Var c.in-Var.name c.in-Var.value in
    subst (λ s. IfOk c.var.result (λ k. Resolves fs here s k (scope_of c.var.new.scope))) (sym is) c.var.ensures.ok

pub kind-returns-in-Var-clause-error : goal.kind-returns-in-Var-clause-error
kind-returns-in-Var-clause-error t c =
    let fs = procedures_of c.args.self.now.procedures in
    let here = scope_of c.args.scope.now in
    let is = ap stmt c.in-Var.is ∙ stmt_Var c.in-Var.name c.in-Var.value in
    subst (λ s. IfErr c.var.result (Told (errors_in fs here s))) (sym is) c.var.ensures.error

pub kind-returns-in-Assign-clause-ok : goal.kind-returns-in-Assign-clause-ok
kind-returns-in-Assign-clause-ok t c =
    let fs = procedures_of c.args.self.now.procedures in
    let here = scope_of c.args.scope.now in
    let is = ap stmt c.in-Assign.is ∙ stmt_Assign c.in-Assign.name c.in-Assign.value in
    subst (λ s. IfOk c.assign.result (λ k. Resolves fs here s k (scope_of c.assign.new.scope))) (sym is) c.assign.ensures.ok

pub kind-returns-in-Assign-clause-error : goal.kind-returns-in-Assign-clause-error
kind-returns-in-Assign-clause-error t c =
    let fs = procedures_of c.args.self.now.procedures in
    let here = scope_of c.args.scope.now in
    let is = ap stmt c.in-Assign.is ∙ stmt_Assign c.in-Assign.name c.in-Assign.value in
    subst (λ s. IfErr c.assign.result (Told (errors_in fs here s))) (sym is) c.assign.ensures.error

pub kind-returns-in-Store-clause-ok : goal.kind-returns-in-Store-clause-ok
kind-returns-in-Store-clause-ok t c =
    let fs = procedures_of c.args.self.now.procedures in
    let here = scope_of c.args.scope.now in
    let is = ap stmt c.in-Store.is ∙ stmt_Store c.in-Store.section c.in-Store.index c.in-Store.value in
    subst (λ s. IfOk c.store.result (λ k. Resolves fs here s k (scope_of c.store.new.scope))) (sym is) c.store.ensures.ok

pub kind-returns-in-Store-clause-error : goal.kind-returns-in-Store-clause-error
kind-returns-in-Store-clause-error t c =
    let fs = procedures_of c.args.self.now.procedures in
    let here = scope_of c.args.scope.now in
    let is = ap stmt c.in-Store.is ∙ stmt_Store c.in-Store.section c.in-Store.index c.in-Store.value in
    subst (λ s. IfErr c.store.result (Told (errors_in fs here s))) (sym is) c.store.ensures.error

pub kind-returns-in-Print-clause-ok : goal.kind-returns-in-Print-clause-ok
kind-returns-in-Print-clause-ok t c =
    let fs = procedures_of c.args.self.now.procedures in
    let here = scope_of c.args.scope.now in
    let is = ap stmt c.in-Print.is ∙ stmt_Print c.in-Print.first c.in-Print.rest ∙ ap (λ es. Print (expr c.in-Print.first) (map expr es)) (sym c.deref.ensures.value) in
    subst (λ s. IfOk c.print.result (λ k. Resolves fs here s k (scope_of c.print.new.scope))) (sym is) c.print.ensures.ok

pub kind-returns-in-Print-clause-error : goal.kind-returns-in-Print-clause-error
kind-returns-in-Print-clause-error t c =
    let fs = procedures_of c.args.self.now.procedures in
    let here = scope_of c.args.scope.now in
    let is = ap stmt c.in-Print.is ∙ stmt_Print c.in-Print.first c.in-Print.rest ∙ ap (λ es. Print (expr c.in-Print.first) (map expr es)) (sym c.deref.ensures.value) in
    subst (λ s. IfErr c.print.result (Told (errors_in fs here s))) (sym is) c.print.ensures.error

pub kind-returns-in-Fault-clause-ok : goal.kind-returns-in-Fault-clause-ok
kind-returns-in-Fault-clause-ok t c =
    let fs = procedures_of c.args.self.now.procedures in
    let here = scope_of c.args.scope.now in
    let is = ap stmt c.in-Fault.is ∙ stmt_Fault c.in-Fault.value in
    subst (λ s. IfOk c.fault.result (λ k. Resolves fs here s k (scope_of c.fault.new.scope))) (sym is) c.fault.ensures.ok

pub kind-returns-in-Fault-clause-error : goal.kind-returns-in-Fault-clause-error
kind-returns-in-Fault-clause-error t c =
    let fs = procedures_of c.args.self.now.procedures in
    let here = scope_of c.args.scope.now in
    let is = ap stmt c.in-Fault.is ∙ stmt_Fault c.in-Fault.value in
    subst (λ s. IfErr c.fault.result (Told (errors_in fs here s))) (sym is) c.fault.ensures.error

pub kind-returns-in-Call-clause-ok : goal.kind-returns-in-Call-clause-ok
kind-returns-in-Call-clause-ok t c =
    let fs = procedures_of c.args.self.now.procedures in
    let here = scope_of c.args.scope.now in
    let is = ap stmt c.in-Call.is ∙ stmt_Call c.in-Call.procedure c.in-Call.arguments ∙ ap (λ es. Call (string_bytes c.in-Call.procedure) (map expr es)) (sym c.deref-in-Call.ensures.value) in
    subst (λ s. IfOk c.call.result (λ k. Resolves fs here s k (scope_of c.call.new.scope))) (sym is) c.call.ensures.ok

pub kind-returns-in-Call-clause-error : goal.kind-returns-in-Call-clause-error
kind-returns-in-Call-clause-error t c =
    let fs = procedures_of c.args.self.now.procedures in
    let here = scope_of c.args.scope.now in
    let is = ap stmt c.in-Call.is ∙ stmt_Call c.in-Call.procedure c.in-Call.arguments ∙ ap (λ es. Call (string_bytes c.in-Call.procedure) (map expr es)) (sym c.deref-in-Call.ensures.value) in
    subst (λ s. IfErr c.call.result (Told (errors_in fs here s))) (sym is) c.call.ensures.error

pub kind-returns-in-While-clause-ok : goal.kind-returns-in-While-clause-ok
kind-returns-in-While-clause-ok t c =
    let fs = procedures_of c.args.self.now.procedures in
    let here = scope_of c.args.scope.now in
    let is = ap stmt c.in-While.is ∙ stmt_While c.in-While.guard c.in-While.body ∙ ap (λ b. While (expr c.in-While.guard) (block b)) (sym c.deref-in-While.ensures.value) in
    subst (λ s. IfOk c.while_loop.result (λ k. Resolves fs here s k (scope_of c.while_loop.new.scope))) (sym is) c.while_loop.ensures.ok

pub kind-returns-in-While-clause-error : goal.kind-returns-in-While-clause-error
kind-returns-in-While-clause-error t c =
    let fs = procedures_of c.args.self.now.procedures in
    let here = scope_of c.args.scope.now in
    let is = ap stmt c.in-While.is ∙ stmt_While c.in-While.guard c.in-While.body ∙ ap (λ b. While (expr c.in-While.guard) (block b)) (sym c.deref-in-While.ensures.value) in
    subst (λ s. IfErr c.while_loop.result (Told (errors_in fs here s))) (sym is) c.while_loop.ensures.error

pub kind-returns-in-Async-clause-ok : goal.kind-returns-in-Async-clause-ok
kind-returns-in-Async-clause-ok t c =
    let fs = procedures_of c.args.self.now.procedures in
    let here = scope_of c.args.scope.now in
    let is = ap stmt c.in-Async.is ∙ stmt_Async c.in-Async.body ∙ ap (λ b. Async (block b)) (sym c.deref-in-Async.ensures.value) in
    subst (λ s. IfOk c.async_body.result (λ k. Resolves fs here s k (scope_of c.async_body.new.scope))) (sym is) c.async_body.ensures.ok

pub kind-returns-in-Async-clause-error : goal.kind-returns-in-Async-clause-error
kind-returns-in-Async-clause-error t c =
    let fs = procedures_of c.args.self.now.procedures in
    let here = scope_of c.args.scope.now in
    let is = ap stmt c.in-Async.is ∙ stmt_Async c.in-Async.body ∙ ap (λ b. Async (block b)) (sym c.deref-in-Async.ensures.value) in
    subst (λ s. IfErr c.async_body.result (Told (errors_in fs here s))) (sym is) c.async_body.ensures.error

pub kind-returns-in-Finish-clause-ok : goal.kind-returns-in-Finish-clause-ok
kind-returns-in-Finish-clause-ok t c =
    let fs = procedures_of c.args.self.now.procedures in
    let here = scope_of c.args.scope.now in
    let is = ap stmt c.in-Finish.is ∙ stmt_Finish c.in-Finish.body ∙ ap (λ b. Finish (block b)) (sym c.deref-in-Finish.ensures.value) in
    subst (λ s. IfOk c.finish.result (λ k. Resolves fs here s k (scope_of c.finish.new.scope))) (sym is) c.finish.ensures.ok

pub kind-returns-in-Finish-clause-error : goal.kind-returns-in-Finish-clause-error
kind-returns-in-Finish-clause-error t c =
    let fs = procedures_of c.args.self.now.procedures in
    let here = scope_of c.args.scope.now in
    let is = ap stmt c.in-Finish.is ∙ stmt_Finish c.in-Finish.body ∙ ap (λ b. Finish (block b)) (sym c.deref-in-Finish.ensures.value) in
    subst (λ s. IfErr c.finish.result (Told (errors_in fs here s))) (sym is) c.finish.ensures.error

pub kind-returns-in-Rescue-clause-ok : goal.kind-returns-in-Rescue-clause-ok
kind-returns-in-Rescue-clause-ok t c =
    let fs = procedures_of c.args.self.now.procedures in
    let here = scope_of c.args.scope.now in
    let is = ap stmt c.in-Rescue.is ∙ stmt_Rescue c.in-Rescue.body c.in-Rescue.faults c.in-Rescue.handler
    ∙ ap (λ b. Rescue (block b) (string_bytes c.in-Rescue.faults) (block c.in-Rescue.handler.items)) (sym c.deref-in-Rescue.ensures.value)
    ∙ ap (λ b. Rescue (block c.deref-in-Rescue.result.now) (string_bytes c.in-Rescue.faults) (block b)) (sym c.deref-in-Rescue-2.ensures.value) in
    subst (λ s. IfOk c.rescue.result (λ k. Resolves fs here s k (scope_of c.rescue.new.scope))) (sym is) c.rescue.ensures.ok

pub kind-returns-in-Rescue-clause-error : goal.kind-returns-in-Rescue-clause-error
kind-returns-in-Rescue-clause-error t c =
    let fs = procedures_of c.args.self.now.procedures in
    let here = scope_of c.args.scope.now in
    let is = ap stmt c.in-Rescue.is ∙ stmt_Rescue c.in-Rescue.body c.in-Rescue.faults c.in-Rescue.handler
    ∙ ap (λ b. Rescue (block b) (string_bytes c.in-Rescue.faults) (block c.in-Rescue.handler.items)) (sym c.deref-in-Rescue.ensures.value)
    ∙ ap (λ b. Rescue (block c.deref-in-Rescue.result.now) (string_bytes c.in-Rescue.faults) (block b)) (sym c.deref-in-Rescue-2.ensures.value) in
    subst (λ s. IfErr c.rescue.result (Told (errors_in fs here s))) (sym is) c.rescue.ensures.error

pub kind-returns-in-Split-clause-ok : goal.kind-returns-in-Split-clause-ok
kind-returns-in-Split-clause-ok t c =
    let fs = procedures_of c.args.self.now.procedures in
    let here = scope_of c.args.scope.now in
    let is = ap stmt c.in-Split.is ∙ stmt_Split c.in-Split.section c.in-Split.at c.in-Split.left c.in-Split.right c.in-Split.body ∙ ap (λ b. Split (string_bytes c.in-Split.section) (expr c.in-Split.at) (string_bytes c.in-Split.left) (string_bytes c.in-Split.right) (block b)) (sym c.deref-in-Split.ensures.value) in
    subst (λ s. IfOk c.split.result (λ k. Resolves fs here s k (scope_of c.split.new.scope))) (sym is) c.split.ensures.ok

pub kind-returns-in-Split-clause-error : goal.kind-returns-in-Split-clause-error
kind-returns-in-Split-clause-error t c =
    let fs = procedures_of c.args.self.now.procedures in
    let here = scope_of c.args.scope.now in
    let is = ap stmt c.in-Split.is ∙ stmt_Split c.in-Split.section c.in-Split.at c.in-Split.left c.in-Split.right c.in-Split.body ∙ ap (λ b. Split (string_bytes c.in-Split.section) (expr c.in-Split.at) (string_bytes c.in-Split.left) (string_bytes c.in-Split.right) (block b)) (sym c.deref-in-Split.ensures.value) in
    subst (λ s. IfErr c.split.result (Told (errors_in fs here s))) (sym is) c.split.ensures.error

pub kind-returns-in-Parts-clause-ok : goal.kind-returns-in-Parts-clause-ok
kind-returns-in-Parts-clause-ok t c =
    let fs = procedures_of c.args.self.now.procedures in
    let here = scope_of c.args.scope.now in
    let is = ap stmt c.in-Parts.is ∙ stmt_Parts c.in-Parts.section c.in-Parts.size c.in-Parts.piece c.in-Parts.turn c.in-Parts.body ∙ ap (λ b. Parts (string_bytes c.in-Parts.section) (expr c.in-Parts.size) (string_bytes c.in-Parts.piece) (string_bytes c.in-Parts.turn) (block b)) (sym c.deref-in-Parts.ensures.value) in
    subst (λ s. IfOk c.parts.result (λ k. Resolves fs here s k (scope_of c.parts.new.scope))) (sym is) c.parts.ensures.ok

pub kind-returns-in-Parts-clause-error : goal.kind-returns-in-Parts-clause-error
kind-returns-in-Parts-clause-error t c =
    let fs = procedures_of c.args.self.now.procedures in
    let here = scope_of c.args.scope.now in
    let is = ap stmt c.in-Parts.is ∙ stmt_Parts c.in-Parts.section c.in-Parts.size c.in-Parts.piece c.in-Parts.turn c.in-Parts.body ∙ ap (λ b. Parts (string_bytes c.in-Parts.section) (expr c.in-Parts.size) (string_bytes c.in-Parts.piece) (string_bytes c.in-Parts.turn) (block b)) (sym c.deref-in-Parts.ensures.value) in
    subst (λ s. IfErr c.parts.result (Told (errors_in fs here s))) (sym is) c.parts.ensures.error

pub kind-returns-in-Skip-clause-ok : goal.kind-returns-in-Skip-clause-ok
kind-returns-in-Skip-clause-ok t c =
    let fs = procedures_of c.args.self.now.procedures in
    let here = scope_of c.args.scope.now in
    let there = scope_of c.step.new.self in
    resolves_same fs here there _ _ _ (ap stmt c.in-Skip.is ∙ stmt_Skip) (resolves_Skip fs here there c.step.ensures)

pub while_loop-returns-clause-ok : goal.while_loop-returns-clause-ok
while_loop-returns-clause-ok t c =
    let fs = procedures_of c.args.self.now.procedures in
    let here = scope_of c.args.scope.now in
    resolves_While fs here (scope_of c.inside.new.scope) (expr c.args.guard.now) (block c.args.body.now) c.in_ok-guard.guard c.in_ok-body.body
    (scope_of c.step.new.self) c.mark-mark.result.names c.mark-mark.result.outside
    (record { names = c.mark-mark.ensures.names; outside = c.mark-mark.ensures.outside }) c.step.ensures
    c.in_ok-guard.ensures.right c.in_ok-guard.ensures.code
    (record { right = c.in_ok-body.ensures.right; code = c.in_ok-body.ensures.code; place = c.in_ok-body.ensures.place })

pub if_alone-returns-clause-ok : goal.if_alone-returns-clause-ok
if_alone-returns-clause-ok t c =
    let fs = procedures_of c.args.self.now.procedures in
    let here = scope_of c.args.scope.now in
    resolves_If fs here (scope_of c.inside.new.scope) (expr c.args.guard.now) (block c.args.body.now) c.in_ok-guard.guard c.in_ok-body.body
    c.new-other.result
    (scope_of c.step.new.self) c.mark-mark.result.names c.mark-mark.result.outside
    (record { names = c.mark-mark.ensures.names; outside = c.mark-mark.ensures.outside }) c.step.ensures
    c.in_ok-guard.ensures.right c.in_ok-guard.ensures.code
    (record { right = c.in_ok-body.ensures.right; code = c.in_ok-body.ensures.code; place = c.in_ok-body.ensures.place })
    c.new-other.ensures.items

pub finish-returns-clause-ok : goal.finish-returns-clause-ok
finish-returns-clause-ok t c =
    let fs = procedures_of c.args.self.now.procedures in
    let here = scope_of c.args.scope.now in
    resolves_Finish fs here (scope_of c.inside.new.scope) (block c.args.body.now) c.in_ok-body.body
    (scope_of c.step.new.self) c.mark-mark.result.names c.mark-mark.result.outside
    (record { names = c.mark-mark.ensures.names; outside = c.mark-mark.ensures.outside }) c.step.ensures
    (record { right = c.in_ok-body.ensures.right; code = c.in_ok-body.ensures.code; place = c.in_ok-body.ensures.place })

pub rescue-returns-clause-ok : goal.rescue-returns-clause-ok
rescue-returns-clause-ok t c =
    let fs = procedures_of c.args.self.now.procedures in
    let here = scope_of c.args.scope.now in
    resolves_Rescue fs here (scope_of c.inside-2.new.scope) (block c.args.body.now) (string_bytes c.args.faults.now)
    (block c.args.handler.now) c.in_ok-body.body (record { number = c.inside.new.scope.slots }) c.in_ok-handler.handler
    (scope_of c.step.new.self) (scope_of c.inside.new.scope) (scope_of c.scalar.new.self) c.mark-mark.result.names
    c.mark-mark.result.outside
    (record { names = c.mark-mark.ensures.names; outside = c.mark-mark.ensures.outside }) c.step.ensures
    (record { right = c.in_ok-body.ensures.right; code = c.in_ok-body.ensures.code; place = c.in_ok-body.ensures.place })
    refl c.in_ok-scalar.ensures.place c.in_ok-scalar.ensures.right
    (record { right = c.in_ok-handler.ensures.right; code = c.in_ok-handler.ensures.code; place = c.in_ok-handler.ensures.place })

pub rescue-scalar-requires : goal.rescue-scalar-requires
rescue-scalar-requires t c =
    let fs = procedures_of c.args.self.now.procedures in
    let here = scope_of c.args.scope.now in
    let b = block c.args.body.now in
    let mark : Marks fs here (scope_of c.inside.new.scope) c.mark-mark.result.names c.mark-mark.result.outside =
    record { names = c.mark-mark.ensures.names; outside = c.mark-mark.ensures.outside } in
    let place = c.in_ok-body.ensures.place ∙ ap (λ m. left c.mark-mark.result.names c.mark-mark.result.outside (after b m)) c.step.ensures in
    let out = out_by fs here (scope_of c.inside.new.scope) (next_place here) (scope_of c.inside.new.scope) b c.mark-mark.result.names c.mark-mark.result.outside
    mark (left_next here b) place in
    let scoped = subst IsWellScoped (sym out) (scoped_body here b c.requires.scoped) in
    scoped.slots

pub rescue-inside-requires : goal.rescue-inside-requires
rescue-inside-requires t c =
    (omega arith, subst IsWellScoped (sym c.step.ensures) (scoped_next (scope_of c.args.scope.now) c.requires.scoped))

pub rescue-inside-requires-2 : goal.rescue-inside-requires-2
rescue-inside-requires-2 t c =
    let fs = procedures_of c.args.self.now.procedures in
    let here = scope_of c.args.scope.now in
    let b = block c.args.body.now in
    let x = string_bytes c.args.faults.now in
    let mark : Marks fs here (scope_of c.inside.new.scope) c.mark-mark.result.names c.mark-mark.result.outside =
    record { names = c.mark-mark.ensures.names; outside = c.mark-mark.ensures.outside } in
    let place = c.in_ok-body.ensures.place ∙ ap (λ m. left c.mark-mark.result.names c.mark-mark.result.outside (after b m)) c.step.ensures in
    let out = out_by fs here (scope_of c.inside.new.scope) (next_place here) (scope_of c.inside.new.scope) b c.mark-mark.result.names c.mark-mark.result.outside
    mark (left_next here b) place in
    (omega arith, subst IsWellScoped (sym (c.in_ok-scalar.ensures.place ∙ ap (with_scalar x) out)) (scoped_handler b x here c.requires.scoped))

pub rescue-returns-in_err-scalar-clause-error : goal.rescue-returns-in_err-scalar-clause-error
rescue-returns-in_err-scalar-clause-error t c =
    let fs = procedures_of c.args.self.now.procedures in
    let here = scope_of c.args.scope.now in
    let b = block c.args.body.now in
    let x = string_bytes c.args.faults.now in
    let all = Rescue b x (block c.args.handler.now) in
    let e = c.in_err-scalar.field-0.0 in
    let mark : Marks fs here (scope_of c.inside.new.scope) c.mark-mark.result.names c.mark-mark.result.outside =
    record { names = c.mark-mark.ensures.names; outside = c.mark-mark.ensures.outside } in
    let place = c.in_ok-body.ensures.place ∙ ap (λ m. left c.mark-mark.result.names c.mark-mark.result.outside (after b m)) c.step.ensures in
    let out = out_by fs here (scope_of c.inside.new.scope) (next_place here) (scope_of c.inside.new.scope) b c.mark-mark.result.names c.mark-mark.result.outside
    mark (left_next here b) place in
    at_exit (Told (errors_in fs here all)) c.from_residual-in_err-scalar.result e c.from_residual-in_err-scalar.ensures.1
    (told_left (own_errors fs here all) _ e
    (subst (λ (s : Scope). Told (declaring (Some here.label) (meant x s.names)) e) out c.in_err-scalar.ensures.error))

pub rescue-returns-in_err-handler-clause-error : goal.rescue-returns-in_err-handler-clause-error
rescue-returns-in_err-handler-clause-error t c =
    let fs = procedures_of c.args.self.now.procedures in
    let here = scope_of c.args.scope.now in
    let b = block c.args.body.now in
    let x = string_bytes c.args.faults.now in
    let d = block c.args.handler.now in
    let all = Rescue b x d in
    let e = c.in_err-handler.field-0.0 in
    let mark : Marks fs here (scope_of c.inside.new.scope) c.mark-mark.result.names c.mark-mark.result.outside =
    record { names = c.mark-mark.ensures.names; outside = c.mark-mark.ensures.outside } in
    let place = c.in_ok-body.ensures.place ∙ ap (λ m. left c.mark-mark.result.names c.mark-mark.result.outside (after b m)) c.step.ensures in
    let out = out_by fs here (scope_of c.inside.new.scope) (next_place here) (scope_of c.inside.new.scope) b c.mark-mark.result.names c.mark-mark.result.outside
    mark (left_next here b) place in
    at_exit (Told (errors_in fs here all)) c.from_residual-in_err-handler.result e c.from_residual-in_err-handler.ensures.1
    (told_right (own_errors fs here all) _ e (told_right (errors fs (next_place here) b) _ e
    (subst (λ p. Told (errors fs p d) e) (c.in_ok-scalar.ensures.place ∙ ap (with_scalar x) out) c.in_err-handler.ensures.error)))

pub async_body-returns-clause-ok : goal.async_body-returns-clause-ok
async_body-returns-clause-ok t c =
    let fs = procedures_of c.args.self.now.procedures in
    let here = scope_of c.args.scope.now in
    resolves_Async fs here (scope_of c.inside.new.scope) (block c.args.body.now) c.in_ok-body.body
    (scope_of c.enter_async.new.self) c.mark-mark.result.names c.mark-mark.result.outside
    (record { names = c.mark-mark.ensures.names; outside = c.mark-mark.ensures.outside })
    (c.enter_async.ensures ∙ ap inside_async c.step.ensures)
    (record { right = c.in_ok-body.ensures.right; code = c.in_ok-body.ensures.code; place = c.in_ok-body.ensures.place })

pub if_else-returns-clause-ok : goal.if_else-returns-clause-ok
if_else-returns-clause-ok t c =
    let fs = procedures_of c.args.self.now.procedures in
    let here = scope_of c.args.scope.now in
    resolves_IfElse fs here (scope_of c.inside-2.new.scope) (expr c.args.guard.now) (block c.args.body.now) (block c.args.other.now)
    c.in_ok-guard.guard c.in_ok-body.body c.in_ok-other.other
    (scope_of c.step.new.self) (scope_of c.inside.new.scope) c.mark-mark.result.names c.mark-mark.result.outside
    (record { names = c.mark-mark.ensures.names; outside = c.mark-mark.ensures.outside }) c.step.ensures
    c.in_ok-guard.ensures.right c.in_ok-guard.ensures.code
    (record { right = c.in_ok-body.ensures.right; code = c.in_ok-body.ensures.code; place = c.in_ok-body.ensures.place })
    (record { right = c.in_ok-other.ensures.right; code = c.in_ok-other.ensures.code; place = c.in_ok-other.ensures.place })

pub if_else-inside-requires-2 : goal.if_else-inside-requires-2
if_else-inside-requires-2 t c =
    let fs = procedures_of c.args.self.now.procedures in
    let here = scope_of c.args.scope.now in
    let b = block c.args.body.now in
    let mark : Marks fs here (scope_of c.inside.new.scope) c.mark-mark.result.names c.mark-mark.result.outside =
    record { names = c.mark-mark.ensures.names; outside = c.mark-mark.ensures.outside } in
    let place = c.in_ok-body.ensures.place ∙ ap (λ m. left c.mark-mark.result.names c.mark-mark.result.outside (after b m)) c.step.ensures in
    let out = out_by fs here (scope_of c.inside.new.scope) (next_place here) (scope_of c.inside.new.scope) b c.mark-mark.result.names c.mark-mark.result.outside
    mark (left_next here b) place in
    (omega arith, subst IsWellScoped (sym out) (scoped_body here b c.requires.scoped))

pub split-inside-requires : goal.split-inside-requires
split-inside-requires t c =
    let here = scope_of c.args.scope.now in
    let is = c.in_ok-left.ensures.place
    ∙ ap (with_sides c.in_ok-section.section.number (string_bytes c.args.left.now) (string_bytes c.args.right.now)) c.step.ensures in
    (omega arith, subst IsWellScoped (sym is) (scoped_sides _ _ _ (next_place here) (scoped_next here c.requires.scoped)))

pub split-returns-clause-ok : goal.split-returns-clause-ok
split-returns-clause-ok t c =
    let fs = procedures_of c.args.self.now.procedures in
    let here = scope_of c.args.scope.now in
    let l = string_bytes c.args.left.now in
    let r = string_bytes c.args.right.now in
    let e = c.step.ensures in
    let numbers = c.in_ok-left.ensures.numbers in
    resolves_Split fs here (scope_of c.inside.new.scope) (string_bytes c.args.section.now) (expr c.args.at.now) l r (block c.args.body.now)
    (record { section = c.in_ok-section.section; at = c.in_ok-at.at; left = c.in_ok-left.left; right = c.in_ok-left.right })
    c.in_ok-body.body
    (scope_of c.sides.new.self) c.mark-mark.result.names c.mark-mark.result.outside
    (record { names = c.mark-mark.ensures.names; outside = c.mark-mark.ensures.outside })
    (c.in_ok-left.ensures.place ∙ ap (with_sides c.in_ok-section.section.number l r) e)
    c.in_ok-section.ensures.right c.in_ok-section.ensures.meaning c.in_ok-at.ensures.right c.in_ok-at.ensures.code
    (subst (λ (s : Scope). declaring (Some here.label) (meant r s.names)
    ++ declaring (Some here.label) (meant l ((r, ASection (length s.sections + 1)) ∷ s.names)) ≡ []) e c.in_ok-left.ensures.right)
    (numbers.0 ∙ ap (λ (s : Scope). length s.sections) e) (numbers.1 ∙ ap (λ (s : Scope). length s.sections + 1) e)
    (record { right = c.in_ok-body.ensures.right; code = c.in_ok-body.ensures.code; place = c.in_ok-body.ensures.place })

pub parts-inside-requires : goal.parts-inside-requires
parts-inside-requires t c =
    let here = scope_of c.args.scope.now in
    let is = c.in_ok-piece.ensures.place
    ∙ ap (with_turn c.in_ok-section.section.number (string_bytes c.args.piece.now) (string_bytes c.args.turn.now)) c.step.ensures in
    (omega arith, subst IsWellScoped (sym is) (scoped_turn _ _ _ here c.requires.scoped))

pub parts-returns-clause-ok : goal.parts-returns-clause-ok
parts-returns-clause-ok t c =
    let fs = procedures_of c.args.self.now.procedures in
    let here = scope_of c.args.scope.now in
    let x = string_bytes c.args.piece.now in
    let i = string_bytes c.args.turn.now in
    let e = c.step.ensures in
    let numbers = c.in_ok-piece.ensures.numbers in
    resolves_Parts fs here (scope_of c.inside.new.scope) (string_bytes c.args.section.now) (expr c.args.size.now) x i (block c.args.body.now)
    (record { section = c.in_ok-section.section; size = c.in_ok-size.size; piece = c.in_ok-piece.piece; turn = c.in_ok-piece.turn })
    c.in_ok-body.body
    (scope_of c.turn.new.self) c.mark-mark.result.names c.mark-mark.result.outside
    (record { names = c.mark-mark.ensures.names; outside = c.mark-mark.ensures.outside })
    (c.in_ok-piece.ensures.place ∙ ap (with_turn c.in_ok-section.section.number x i) e)
    c.in_ok-section.ensures.right c.in_ok-section.ensures.meaning c.in_ok-size.ensures.right c.in_ok-size.ensures.code
    (subst (λ (s : Scope). declaring (Some here.label) (meant i s.names)
    ++ declaring (Some here.label) (meant x ((i, AScalar s.slot) ∷ s.names)) ≡ []) e c.in_ok-piece.ensures.right)
    (numbers.0 ∙ ap (λ (s : Scope). length s.sections) e) (numbers.1 ∙ ap (λ (s : Scope). s.slot) e)
    (record { right = c.in_ok-body.ensures.right; code = c.in_ok-body.ensures.code; place = c.in_ok-body.ensures.place })

pub if_else-returns-in_err-other-clause-error : goal.if_else-returns-in_err-other-clause-error
if_else-returns-in_err-other-clause-error t c =
    let fs = procedures_of c.args.self.now.procedures in
    let here = scope_of c.args.scope.now in
    let b = block c.args.body.now in
    let d = block c.args.other.now in
    let e = c.in_err-other.field-0.0 in
    let mark : Marks fs here (scope_of c.inside.new.scope) c.mark-mark.result.names c.mark-mark.result.outside =
    record { names = c.mark-mark.ensures.names; outside = c.mark-mark.ensures.outside } in
    let place = c.in_ok-body.ensures.place ∙ ap (λ m. left c.mark-mark.result.names c.mark-mark.result.outside (after b m)) c.step.ensures in
    let out = out_by fs here (scope_of c.inside.new.scope) (next_place here) (scope_of c.inside.new.scope) b c.mark-mark.result.names c.mark-mark.result.outside
    mark (left_next here b) place in
    let guard = expr c.args.guard.now in
    at_exit (Told (errors_in fs here (IfElse guard b d))) c.from_residual-in_err-other.result e c.from_residual-in_err-other.ensures.1
    (told_right (own_errors fs here (IfElse guard b d)) _ e (told_right (errors fs (next_place here) b) _ e
    (subst (λ p. Told (errors fs p d) e) out c.in_err-other.ensures.error)))

pub kind-returns-in-None-clause-ok : goal.kind-returns-in-None-clause-ok
kind-returns-in-None-clause-ok t c =
    let fs = procedures_of c.args.self.now.procedures in
    let here = scope_of c.args.scope.now in
    let is = ap stmt (c.in-If.is ∙ ap (λ o. tree_If c.in-If.guard c.in-If.body o) c.in-None.is) ∙ stmt_If c.in-If.guard c.in-If.body ∙ ap (λ b. If (expr c.in-If.guard) (block b)) (sym c.deref-in-None.ensures.value) in
    subst (λ s. IfOk c.if_alone.result (λ k. Resolves fs here s k (scope_of c.if_alone.new.scope))) (sym is) c.if_alone.ensures.ok

pub kind-returns-in-None-clause-error : goal.kind-returns-in-None-clause-error
kind-returns-in-None-clause-error t c =
    let fs = procedures_of c.args.self.now.procedures in
    let here = scope_of c.args.scope.now in
    let is = ap stmt (c.in-If.is ∙ ap (λ o. tree_If c.in-If.guard c.in-If.body o) c.in-None.is) ∙ stmt_If c.in-If.guard c.in-If.body ∙ ap (λ b. If (expr c.in-If.guard) (block b)) (sym c.deref-in-None.ensures.value) in
    subst (λ s. IfErr c.if_alone.result (Told (errors_in fs here s))) (sym is) c.if_alone.ensures.error

pub kind-returns-in-Some-clause-ok : goal.kind-returns-in-Some-clause-ok
kind-returns-in-Some-clause-ok t c =
    let fs = procedures_of c.args.self.now.procedures in
    let here = scope_of c.args.scope.now in
    let is = ap stmt (c.in-If.is ∙ ap (λ o. tree_If c.in-If.guard c.in-If.body o) c.in-Some.is) ∙ stmt_IfElse c.in-If.guard c.in-If.body c.in-Some.other ∙ ap (λ b. IfElse (expr c.in-If.guard) (block b) (block c.in-Some.other.items)) (sym c.deref-in-Some.ensures.value) ∙ ap (λ b. IfElse (expr c.in-If.guard) (block c.deref-in-Some.result.now) (block b)) (sym c.deref-in-Some-2.ensures.value) in
    subst (λ s. IfOk c.if_else.result (λ k. Resolves fs here s k (scope_of c.if_else.new.scope))) (sym is) c.if_else.ensures.ok

pub kind-returns-in-Some-clause-error : goal.kind-returns-in-Some-clause-error
kind-returns-in-Some-clause-error t c =
    let fs = procedures_of c.args.self.now.procedures in
    let here = scope_of c.args.scope.now in
    let is = ap stmt (c.in-If.is ∙ ap (λ o. tree_If c.in-If.guard c.in-If.body o) c.in-Some.is) ∙ stmt_IfElse c.in-If.guard c.in-If.body c.in-Some.other ∙ ap (λ b. IfElse (expr c.in-If.guard) (block b) (block c.in-Some.other.items)) (sym c.deref-in-Some.ensures.value) ∙ ap (λ b. IfElse (expr c.in-If.guard) (block c.deref-in-Some.result.now) (block b)) (sym c.deref-in-Some-2.ensures.value) in
    subst (λ s. IfErr c.if_else.result (Told (errors_in fs here s))) (sym is) c.if_else.ensures.error

pub block-statement-requires : goal.block-statement-requires
block-statement-requires t c =
    let xs = c.args.block.now in
    let i = c.loop-stmt.stmt-index in
    let x = c.stmt-item.result in
    let rest = block (drop (i + 1) xs) in
    let within_block : i < length xs = search rules in
    let front : block (drop i xs) ≡ Then (stmt x) rest =
    at_drop_more block xs i x within_block ∙ ap (λ y. Then (stmt y) rest) (sym c.stmt-item.is) in
    (omega (arith, ap size front, c.loop-stmt.invariant.small), c.loop-stmt.invariant.scoped)

pub while_loop-inside-requires : goal.while_loop-inside-requires
while_loop-inside-requires t c =
    (omega arith, subst IsWellScoped (sym c.step.ensures) (scoped_next (scope_of c.args.scope.now) c.requires.scoped))

pub if_alone-inside-requires : goal.if_alone-inside-requires
if_alone-inside-requires t c =
    (omega arith, subst IsWellScoped (sym c.step.ensures) (scoped_next (scope_of c.args.scope.now) c.requires.scoped))

pub if_else-inside-requires : goal.if_else-inside-requires
if_else-inside-requires t c =
    (omega arith, subst IsWellScoped (sym c.step.ensures) (scoped_next (scope_of c.args.scope.now) c.requires.scoped))

pub finish-inside-requires : goal.finish-inside-requires
finish-inside-requires t c =
    (omega arith, subst IsWellScoped (sym c.step.ensures) (scoped_next (scope_of c.args.scope.now) c.requires.scoped))

pub async_body-inside-requires : goal.async_body-inside-requires
async_body-inside-requires t c =
    let here = scope_of c.args.scope.now in (
      omega arith,
      subst IsWellScoped (sym (c.enter_async.ensures ∙ ap inside_async c.step.ensures))
          (scoped_async (next_place here) (scoped_next here c.requires.scoped)),
    )

pub kind-while_loop-requires : goal.kind-while_loop-requires
kind-while_loop-requires t c =
    let is = ap stmt c.in-While.is ∙ stmt_While c.in-While.guard c.in-While.body ∙ ap (λ b. While (expr c.in-While.guard) (block b)) (sym c.deref-in-While.ensures.value) in
    (omega (arith, ap size_in is), (c.requires.scoped, c.requires.label))

pub kind-if_alone-requires : goal.kind-if_alone-requires
kind-if_alone-requires t c =
    let is = ap stmt (c.in-If.is ∙ ap (λ o. tree_If c.in-If.guard c.in-If.body o) c.in-None.is) ∙ stmt_If c.in-If.guard c.in-If.body ∙ ap (λ b. If (expr c.in-If.guard) (block b)) (sym c.deref-in-None.ensures.value) in
    (omega (arith, ap size_in is), (c.requires.scoped, c.requires.label))

pub kind-if_else-requires : goal.kind-if_else-requires
kind-if_else-requires t c =
    let is = ap stmt (c.in-If.is ∙ ap (λ o. tree_If c.in-If.guard c.in-If.body o) c.in-Some.is) ∙ stmt_IfElse c.in-If.guard c.in-If.body c.in-Some.other ∙ ap (λ b. IfElse (expr c.in-If.guard) (block b) (block c.in-Some.other.items)) (sym c.deref-in-Some.ensures.value) ∙ ap (λ b. IfElse (expr c.in-If.guard) (block c.deref-in-Some.result.now) (block b)) (sym c.deref-in-Some-2.ensures.value) in
    (omega (arith, ap size_in is), (c.requires.scoped, c.requires.label))

pub kind-split-requires : goal.kind-split-requires
kind-split-requires t c =
    let is = ap stmt c.in-Split.is ∙ stmt_Split c.in-Split.section c.in-Split.at c.in-Split.left c.in-Split.right c.in-Split.body ∙ ap (λ b. Split (string_bytes c.in-Split.section) (expr c.in-Split.at) (string_bytes c.in-Split.left) (string_bytes c.in-Split.right) (block b)) (sym c.deref-in-Split.ensures.value) in
    (omega (arith, ap size_in is), (c.requires.scoped, c.requires.label))

pub kind-parts-requires : goal.kind-parts-requires
kind-parts-requires t c =
    let is = ap stmt c.in-Parts.is ∙ stmt_Parts c.in-Parts.section c.in-Parts.size c.in-Parts.piece c.in-Parts.turn c.in-Parts.body ∙ ap (λ b. Parts (string_bytes c.in-Parts.section) (expr c.in-Parts.size) (string_bytes c.in-Parts.piece) (string_bytes c.in-Parts.turn) (block b)) (sym c.deref-in-Parts.ensures.value) in
    (omega (arith, ap size_in is), (c.requires.scoped, c.requires.label))

pub kind-async_body-requires : goal.kind-async_body-requires
kind-async_body-requires t c =
    let is = ap stmt c.in-Async.is ∙ stmt_Async c.in-Async.body ∙ ap (λ b. Async (block b)) (sym c.deref-in-Async.ensures.value) in
    (omega (arith, ap size_in is), (c.requires.scoped, c.requires.label))

pub kind-finish-requires : goal.kind-finish-requires
kind-finish-requires t c =
    let is = ap stmt c.in-Finish.is ∙ stmt_Finish c.in-Finish.body ∙ ap (λ b. Finish (block b)) (sym c.deref-in-Finish.ensures.value) in
    (omega (arith, ap size_in is), (c.requires.scoped, c.requires.label))

pub kind-rescue-requires : goal.kind-rescue-requires
kind-rescue-requires t c =
    let is = ap stmt c.in-Rescue.is ∙ stmt_Rescue c.in-Rescue.body c.in-Rescue.faults c.in-Rescue.handler
    ∙ ap (λ b. Rescue (block b) (string_bytes c.in-Rescue.faults) (block c.in-Rescue.handler.items)) (sym c.deref-in-Rescue.ensures.value)
    ∙ ap (λ b. Rescue (block c.deref-in-Rescue.result.now) (string_bytes c.in-Rescue.faults) (block b)) (sym c.deref-in-Rescue-2.ensures.value) in
    (omega (arith, ap size_in is), (c.requires.scoped, c.requires.label))
