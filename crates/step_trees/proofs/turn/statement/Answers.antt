use Rattle.std.proofs.Common.{sym, ap, ◌∙◌, map}
use Rattle.sections.specs.Translation.{section}
use Rattle.types.specs.Code.{Call}
use Rattle.types.specs.Translation.{code, number}
use Rattle.effects.proofs.Statements.{is_If, is_While, is_Split, is_Parts, is_Async, is_Finish, is_Rescue}
use Rattle.step_trees.proofs.Turns.{after_as}
use Rattle.step_trees.proofs.turn.statement.Goals as goal

pub returns-in-Do : goal.returns-in-Do
returns-in-Do c = after_as c.args.turn c.args.stmt.now.label c.primitive.result (ap code (sym c.in-Do.is)) c.primitive.ensures

pub choose-requires-clause-same : goal.choose-requires-clause-same
choose-requires-clause-same c =
    let s = c.in-If in is_If _ s.guard s.body s.other _ _ s.is c.deref.ensures.value c.deref-in-If.ensures.value

pub turn_loop-requires-clause-same : goal.turn_loop-requires-clause-same
turn_loop-requires-clause-same c =
    let s = c.in-While in is_While _ s.guard s.body _ s.is c.deref-in-While.ensures.value

pub split-requires-clause-same : goal.split-requires-clause-same
split-requires-clause-same c =
    let s = c.in-Split in is_Split _ s.sides s.body _ s.is c.deref-in-Split.ensures.value

pub parts-requires-clause-same : goal.parts-requires-clause-same
parts-requires-clause-same c =
    let s = c.in-Parts in is_Parts _ s.pieces s.body _ s.is c.deref-in-Parts.ensures.value

pub call-requires-clause-same : goal.call-requires-clause-same
call-requires-clause-same c =
    let s = c.in-Call in sym
    (ap (λ v. Call s.procedure.number (map number v) (map section c.deref-in-Call-2.result.now)) c.deref-in-Call.ensures.value
    ∙ ap (λ v. Call s.procedure.number (map number s.values.items) (map section v)) c.deref-in-Call-2.ensures.value
    ∙ sym (ap code s.is))

pub returns-in-Async : goal.returns-in-Async
returns-in-Async c =
    let same = is_Async _ c.in-Async.body _ c.in-Async.is c.deref-in-Async.ensures.value in
    after_as c.args.turn c.args.stmt.now.label c.begin_async.result (sym same) c.begin_async.ensures

pub returns-in-Finish : goal.returns-in-Finish
returns-in-Finish c =
    let same = is_Finish _ c.in-Finish.body _ c.in-Finish.is c.deref-in-Finish.ensures.value in
    after_as c.args.turn c.args.stmt.now.label c.begin_finish.result (sym same) c.begin_finish.ensures

pub returns-in-Rescue : goal.returns-in-Rescue
returns-in-Rescue c =
    let s = c.in-Rescue in
    let same =
    is_Rescue _ s.body s.faults s.handler _ _ s.is c.deref-in-Rescue-2.ensures.value c.deref-in-Rescue.ensures.value in
    after_as c.args.turn c.args.stmt.now.label c.begin_finish-in-Rescue.result (sym same) c.begin_finish-in-Rescue.ensures
