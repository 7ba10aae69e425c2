use Rattle.std.proofs.Common.{Bor, List, ◌≡◌, ap, ◌∙◌, sym, subst, map}
use Rattle.std.specs.Prelude.{IfOk}
use Rattle.sections.specs.Translation.{section}
use Rattle.types.specs.Code.{Code, Do, If, While, Split, Parts, Call, Async, Finish, Rescue}
use Rattle.types.specs.Translation.{primitive, truth, number, code, codes}
use Rattle.types.proofs.Blocks.{code_If, code_While, code_Split, code_Parts, code_Async, code_Finish, code_Rescue}
use Rattle.task_run.specs.RunTurns.{CanAct, DidAct}
use Rattle.task_run.specs.declared.turn.Done.TheVariants.{Gone, Entered}
use Rattle.task_run.proofs.RunSteps.{acts_primitive, did_Call, did_Do, did_Finish, did_If, did_Parts, did_Rescue, did_same, did_Split, did_While}
use Rattle.sections.specs.declared.id.SectionId.{SectionId as rSection}
use Rattle.types.specs.declared.code.Number.{Number as rNumber}
use Rattle.types.specs.Translation.{program}
use Rattle.statement_steps.proofs.Leading.{called_leads}
use Rattle.task_run.proofs.RunSteps.{shape}
use Rattle.task_run.proofs.Leading.{acts_taken, contents}
use Rattle.task_run.proofs.run.Run.act.Goals as goal

pub spawn-requires-clause-can : goal.spawn-requires-clause-can
spawn-requires-clause-can g c =
    let x = c.args.stmt.now in let needed = c.args.needed.now in
    let is : Async (codes c.deref-in-Async.result.now) ≡ code x.kind
    = ap (λ l. Async (codes l)) c.deref-in-Async.ensures.value
    ∙ sym (ap code c.in-Async.is ∙ code_Async c.in-Async.body) in
    subst (λ (k : Code). CanAct (g.N.Needed.needs needed) (g.N.Needed.IsAsync needed) x.label k c.args.self.now) (sym is) c.requires.can

pub returns-in_ok-primitive-in-Do-clause-did : goal.returns-in_ok-primitive-in-Do-clause-did
returns-in_ok-primitive-in-Do-clause-did g c =
    let needs = g.N.Needed.needs c.args.needed.now in
    let m = c.args.self.now in let x = c.args.stmt.now in
    let s = primitive c.in-Do.primitive in
    let is : Do s ≡ code x.kind = ap code (sym c.in-Do.is) in
    did_same needs x.label (Do s) (code x.kind) m Gone _ is
    (did_Do needs x.label m _ s
    (acts_primitive x.label s m c.primitive.new.self c.in_ok-primitive-in-Do.ensures.state c.in_ok-primitive-in-Do.ensures.task))

pub returns-in_ok-take-in-If-clause-did : goal.returns-in_ok-take-in-If-clause-did
returns-in_ok-take-in-If-clause-did g c =
    let needs = g.N.Needed.needs c.args.needed.now in
    let m = c.args.self.now in let x = c.args.stmt.now in let guard = truth c.in-If.guard in
    let body = codes c.deref.result.now in let other = codes c.deref-in-If.result.now in
    let is : If guard body other ≡ code x.kind
    = ap (λ l. If guard (codes l) other) c.deref.ensures.value
    ∙ ap (λ l. If guard (codes c.in-If.body.items) (codes l)) c.deref-in-If.ensures.value
    ∙ sym (ap code c.in-If.is ∙ code_If c.in-If.guard c.in-If.body c.in-If.other) in
    did_same needs x.label (If guard body other) (code x.kind) m Gone _ is
    (did_If needs x.label m _ guard body other
    (acts_taken m c.choose.new.self c.take.new.self x.label (If guard body other) c.in_ok-next-in-If.next tt c.in_ok-next-in-If.ensures
    c.in_ok-take-in-If.ensures.frames c.in_ok-take-in-If.ensures.rest))

pub returns-in_ok-take-in-While-clause-did : goal.returns-in_ok-take-in-While-clause-did
returns-in_ok-take-in-While-clause-did g c =
    let needs = g.N.Needed.needs c.args.needed.now in
    let m = c.args.self.now in let x = c.args.stmt.now in let guard = truth c.in-While.guard in
    let body = codes c.deref-in-While.result.now in
    let is : While guard body ≡ code x.kind
    = ap (λ l. While guard (codes l)) c.deref-in-While.ensures.value
    ∙ sym (ap code c.in-While.is ∙ code_While c.in-While.guard c.in-While.body) in
    did_same needs x.label (While guard body) (code x.kind) m Gone _ is
    (did_While needs x.label m _ guard body
    (acts_taken m c.turn_loop.new.self c.take-in-While.new.self x.label (While guard body) c.in_ok-next-in-While.next tt c.in_ok-next-in-While.ensures
    c.in_ok-take-in-While.ensures.frames c.in_ok-take-in-While.ensures.rest))

pub returns-in_ok-take-in-Split-clause-did : goal.returns-in_ok-take-in-Split-clause-did
returns-in_ok-take-in-Split-clause-did g c =
    let needs = g.N.Needed.needs c.args.needed.now in
    let m = c.args.self.now in let x = c.args.stmt.now in
    let s = c.in-Split.sides.section.number in let left = c.in-Split.sides.left.number in let right = c.in-Split.sides.right.number in
    let at = number c.in-Split.sides.at in let body = codes c.deref-in-Split.result.now in
    let is : Split s at left right body ≡ code x.kind
    = ap (λ l. Split s at left right (codes l)) c.deref-in-Split.ensures.value
    ∙ sym (ap code c.in-Split.is ∙ code_Split c.in-Split.sides c.in-Split.body) in
    did_same needs x.label (Split s at left right body) (code x.kind) m Gone _ is
    (did_Split needs x.label m _ s left right at body
    (acts_taken m c.split.new.self c.take-in-Split.new.self x.label (Split s at left right body) c.in_ok-next-in-Split.next tt c.in_ok-next-in-Split.ensures
    c.in_ok-take-in-Split.ensures.frames c.in_ok-take-in-Split.ensures.rest))

pub returns-in_ok-take-in-Parts-clause-did : goal.returns-in_ok-take-in-Parts-clause-did
returns-in_ok-take-in-Parts-clause-did g c =
    let needs = g.N.Needed.needs c.args.needed.now in
    let m = c.args.self.now in let x = c.args.stmt.now in
    let s = c.in-Parts.pieces.section.number in let q = c.in-Parts.pieces.piece.number in let i = c.in-Parts.pieces.turn.number in
    let size = number c.in-Parts.pieces.size in let body = codes c.deref-in-Parts.result.now in
    let is : Parts s size q i body ≡ code x.kind
    = ap (λ l. Parts s size q i (codes l)) c.deref-in-Parts.ensures.value
    ∙ sym (ap code c.in-Parts.is ∙ code_Parts c.in-Parts.pieces c.in-Parts.body) in
    did_same needs x.label (Parts s size q i body) (code x.kind) m Gone _ is
    (did_Parts needs x.label m _ s q i size body
    (acts_taken m c.begin_turns.new.self c.take-in-Parts.new.self x.label (Parts s size q i body) c.in_ok-next-in-Parts.next tt c.in_ok-next-in-Parts.ensures
    c.in_ok-take-in-Parts.ensures.frames c.in_ok-take-in-Parts.ensures.rest))

pub returns-in_ok-take-in-Call-clause-did : goal.returns-in_ok-take-in-Call-clause-did
returns-in_ok-take-in-Call-clause-did g c =
    let needs = g.N.Needed.needs c.args.needed.now in
    let m = c.args.self.now in let x = c.args.stmt.now in
    let f = c.in-Call.procedure.number in
    let values = map number c.deref-in-Call.result.now in let sections = map section c.deref-in-Call-2.result.now in
    let is : Call f values sections ≡ code x.kind
    = ap (λ l. Call f (map number l) sections) c.deref-in-Call.ensures.value
    ∙ ap (λ l. Call f (map number c.in-Call.values.items) (map section l)) c.deref-in-Call-2.ensures.value
    ∙ sym (ap code c.in-Call.is) in
    did_same needs x.label (Call f values sections) (code x.kind) m Gone _ is
    (did_Call needs x.label m _ f values sections
    (acts_taken m c.call.new.self c.take-in-Call.new.self x.label (Call f values sections) c.in_ok-next-in-Call.next tt (called_leads contents shape (program m.plan.program.now) x.label c.in_ok-next-in-Call.next c.call.new.self m.thread f
    (map number c.of-called.result.values.now) values (map section c.of-called.result.sections.now) sections
    (ap (λ (v : Bor (List rNumber)). map number v.now) c.of-called.ensures.values)
    (ap (λ (v : Bor (List rSection)). map section v.now) c.of-called.ensures.sections)
    (c.in_ok-next-in-Call.ensures f c.of-called.ensures.body))
    c.in_ok-take-in-Call.ensures.frames c.in_ok-take-in-Call.ensures.rest))

pub returns-in-Async-clause-did : goal.returns-in-Async-clause-did
returns-in-Async-clause-did g c =
    let needs = g.N.Needed.needs c.args.needed.now in
    let m = c.args.self.now in let x = c.args.stmt.now in
    let is : Async (codes c.deref-in-Async.result.now) ≡ code x.kind
    = ap (λ l. Async (codes l)) c.deref-in-Async.ensures.value
    ∙ sym (ap code c.in-Async.is ∙ code_Async c.in-Async.body) in
    subst (λ (k : Code). IfOk c.spawn.result (λ d. DidAct needs x.label k m d c.spawn.new.self)) is
    c.spawn.ensures.did

pub returns-in_ok-enter-in-Finish-clause-did : goal.returns-in_ok-enter-in-Finish-clause-did
returns-in_ok-enter-in-Finish-clause-did g c =
    let needs = g.N.Needed.needs c.args.needed.now in
    let m = c.args.self.now in let x = c.args.stmt.now in
    let body = codes c.deref-in-Finish.result.now in
    let is : Finish body ≡ code x.kind
    = ap (λ l. Finish (codes l)) c.deref-in-Finish.ensures.value
    ∙ sym (ap code c.in-Finish.is ∙ code_Finish c.in-Finish.body) in
    did_same needs x.label (Finish body) (code x.kind) m Entered _ is
    (did_Finish needs x.label body m _ (c.in_ok-enter-in-Finish.ensures x.label))

pub returns-in_ok-enter_rescue-in-Rescue-clause-did : goal.returns-in_ok-enter_rescue-in-Rescue-clause-did
returns-in_ok-enter_rescue-in-Rescue-clause-did g c =
    let needs = g.N.Needed.needs c.args.needed.now in
    let m = c.args.self.now in let x = c.args.stmt.now in let k = c.in-Rescue in let n = k.faults.number in
    let body = codes c.deref-in-Rescue.result.now in let handler = codes c.deref-in-Rescue-2.result.now in
    let is : Rescue body n handler ≡ code x.kind
    = ap (λ l. Rescue (codes l) n handler) c.deref-in-Rescue.ensures.value
    ∙ ap (λ l. Rescue (codes k.body.items) n (codes l)) c.deref-in-Rescue-2.ensures.value
    ∙ sym (ap code k.is ∙ code_Rescue k.body k.faults k.handler) in
    did_same needs x.label (Rescue body n handler) (code x.kind) m Entered _ is
    (did_Rescue needs x.label n body handler m _ (c.in_ok-enter_rescue-in-Rescue.ensures x.label))
