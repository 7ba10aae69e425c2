use Rattle.std.proofs.Common.{ap, map, sym, ◌∙◌}
use Rattle.sections.specs.Translation.{section}
use Rattle.types.specs.Translation.{codes, code as plain_code, number}
use Rattle.types.proofs.Blocks.{code_Async, code_Finish, code_If, code_Parts, code_Rescue, code_Split, code_While}
use Rattle.warnings.specs.Uses.{code_uses, codes_use, numbers_use, sections_use}
use Rattle.warnings.proofs.Bools.{or_of}
use Rattle.warnings.proofs.uses.+statement.Goals as goal

pub statement_uses-returns-in-If : goal.statement_uses-returns-in-If
statement_uses-returns-in-If t c =
    let x = c.args.thing in
    or_of _ _ _ _ c.condition_uses.ensures
    (or_of _ _ _ _ (c.block_uses.ensures ∙ ap (λ b. codes_use x (codes b)) c.deref.ensures.value)
    (c.block_uses-in-If.ensures ∙ ap (λ b. codes_use x (codes b)) c.deref-in-If.ensures.value))
    ∙ sym (ap (code_uses x) (ap plain_code c.in-If.is ∙ code_If c.in-If.guard c.in-If.body c.in-If.other))

pub statement_uses-returns-in-While : goal.statement_uses-returns-in-While
statement_uses-returns-in-While t c =
    let x = c.args.thing in
    or_of _ _ _ _ c.condition_uses-in-While.ensures
    (c.block_uses-in-While.ensures ∙ ap (λ b. codes_use x (codes b)) c.deref-in-While.ensures.value)
    ∙ sym (ap (code_uses x) (ap plain_code c.in-While.is ∙ code_While c.in-While.guard c.in-While.body))

pub statement_uses-returns-in-Split : goal.statement_uses-returns-in-Split
statement_uses-returns-in-Split t c =
    let x = c.args.thing in
    or_of _ _ _ _ c.is_section.ensures
    (or_of _ _ _ _ c.number_uses.ensures
    (c.block_uses-in-Split.ensures ∙ ap (λ b. codes_use x (codes b)) c.deref-in-Split.ensures.value))
    ∙ sym (ap (code_uses x) (ap plain_code c.in-Split.is ∙ code_Split c.in-Split.sides c.in-Split.body))

pub statement_uses-returns-in-Parts : goal.statement_uses-returns-in-Parts
statement_uses-returns-in-Parts t c =
    let x = c.args.thing in
    or_of _ _ _ _ c.is_section-in-Parts.ensures
    (or_of _ _ _ _ c.number_uses-in-Parts.ensures
    (c.block_uses-in-Parts.ensures ∙ ap (λ b. codes_use x (codes b)) c.deref-in-Parts.ensures.value))
    ∙ sym (ap (code_uses x) (ap plain_code c.in-Parts.is ∙ code_Parts c.in-Parts.pieces c.in-Parts.body))

pub statement_uses-returns-in-Call : goal.statement_uses-returns-in-Call
statement_uses-returns-in-Call t c =
    let x = c.args.thing in
    or_of _ _ _ _ c.is_procedure.ensures
    (or_of _ _ _ _ (c.numbers_use.ensures ∙ ap (λ es. numbers_use x (map number es)) c.deref-in-Call.ensures.value)
    (c.are_among.ensures ∙ ap (λ ss. sections_use x (map section ss)) c.deref-in-Call-2.ensures.value))
    ∙ sym (ap (λ k. code_uses x (plain_code k)) c.in-Call.is)

pub statement_uses-returns-in-Async : goal.statement_uses-returns-in-Async
statement_uses-returns-in-Async t c =
    let x = c.args.thing in
    c.block_uses-in-Async.ensures ∙ ap (λ b. codes_use x (codes b)) c.deref-in-Async.ensures.value
    ∙ sym (ap (code_uses x) (ap plain_code c.in-Async.is ∙ code_Async c.in-Async.body))

pub statement_uses-returns-in-Finish : goal.statement_uses-returns-in-Finish
statement_uses-returns-in-Finish t c =
    let x = c.args.thing in
    c.block_uses-in-Finish.ensures ∙ ap (λ b. codes_use x (codes b)) c.deref-in-Finish.ensures.value
    ∙ sym (ap (code_uses x) (ap plain_code c.in-Finish.is ∙ code_Finish c.in-Finish.body))

pub statement_uses-returns-in-Rescue : goal.statement_uses-returns-in-Rescue
statement_uses-returns-in-Rescue t c =
    let x = c.args.thing in
    let is = ap plain_code c.in-Rescue.is ∙ code_Rescue c.in-Rescue.body c.in-Rescue.faults c.in-Rescue.handler in
    or_of _ _ _ _ (c.block_uses-in-Rescue.ensures ∙ ap (λ b. codes_use x (codes b)) c.deref-in-Rescue.ensures.value)
    (c.block_uses-in-Rescue-2.ensures ∙ ap (λ b. codes_use x (codes b)) c.deref-in-Rescue-2.ensures.value)
    ∙ sym (ap (code_uses x) is)
