use Rattle.std.proofs.Common.{◌≡◌, ◌/◌, ◌%◌, None, Option, OnErr, arith, sym, subst}
use Rattle.std.proofs.lemmas.Result.{IfOk-weaker, on_err_weaker}
use Rattle.sections.specs.Translation.{place as place_of}
use Rattle.blocks.specs.Held.{owned_number}
use Rattle.blocks.specs.declared.block.Block.{Block}
use Rattle.holdings.specs.Rows.{held_of}
use Rattle.holdings.proofs.WritingLemmas.{block_of-item, rows-alike, rows-put}
use Rattle.holdings.proofs.rows.BlockRows.write.Goals as goal

pub returns-clause-written : goal.returns-clause-written
returns-clause-written c =
    IfOk-weaker c.write.result _ _
    (λ f w yes. rows-put c.args.self.now.list.items (place_of c.args.place) c.index_mut-row.result.now
    c.write.new.self c.args.value (omega arith) c.index_mut-row.ensures.value c.ranges.value (w yes))
    c.write.ensures.written

pub returns-clause-missed : goal.returns-clause-missed
returns-clause-missed c =
    let rs = c.args.self.now.list.items in
    IfOk-weaker c.write.result _ _
    (λ f w no. rows-alike rs c.args.place.array.number c.index_mut-row.result.now c.write.new.self
    (omega arith) c.index_mut-row.ensures.value (w no)) c.write.ensures.missed

pub returns-clause-same : goal.returns-clause-same
returns-clause-same c =
    let rs = c.args.self.now.list.items in
    on_err_weaker c.write.result
    (rows-alike rs c.args.place.array.number c.index_mut-row.result.now c.write.new.self (omega arith)
    c.index_mut-row.ensures.value) c.write.ensures.same

pub returns-clause-owned : goal.returns-clause-owned
returns-clause-owned c =
    let there = block_of-item c.args.self.now.list.items c.args.place.array.number c.index_mut-row.result.now
    (omega arith) c.index_mut-row.ensures.value (c.args.place.index / 256) in
    subst (λ (o : Option Block). OnErr c.write.result (owned_number (held_of o (c.args.place.index % 256)) ≡ None → ⊥)) (sym there)
    c.write.ensures.owned
