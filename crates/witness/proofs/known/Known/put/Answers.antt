use Rattle.std.proofs.Common.{refl}
use Rattle.std.specs.HashMap.{get}
use Rattle.witness.specs.Known.{is_key}
use Rattle.witness.proofs.Knowns.{put_pending, put_done, by_key}
use Rattle.witness.proofs.known.Known.put.Goals as goal

pub returns-in_ok-insert : goal.returns-in_ok-insert
returns-in_ok-insert c =
    let e = c.args.entry in
    let old = c.args.self.now in
    put_pending e c.args.way old _ c.if-entry.true refl
    (by_key e.procedure.number e.parameter.number c.key-key.result c.args.way (λ q. get is_key old.pending q) _ c.key-key.ensures
    c.in_ok-insert.ensures.updates.0)

pub returns-in_ok-insert-2 : goal.returns-in_ok-insert-2
returns-in_ok-insert-2 c =
    let e = c.args.entry in
    let old = c.args.self.now in
    put_done e c.args.way old _ c.if-entry.false refl
    (by_key e.procedure.number e.parameter.number c.key-key.result c.args.way (λ q. get is_key old.done q) _ c.key-key.ensures
    c.in_ok-insert-2.ensures.updates.0)
