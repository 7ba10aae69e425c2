use Rattle.std.proofs.Common.{Option, sym, subst, IsSome}
use Rattle.std.proofs.lemmas.Bool.{OnFalse_at, OnFalse_from, OnTrue_at, OnTrue_from}
use Rattle.std.specs.Bool.{OnTrue}
use Rattle.blocks.specs.Held.{owned_number}
use Rattle.blocks.specs.declared.block.Block.{Block}
use Rattle.holdings.specs.Rows.{held_of}
use Rattle.holdings.proofs.WritingLemmas.{block_in-item, row-alike, row-written}
use Rattle.holdings.proofs.row.BlockRow.set.Goals as goal

pub returns-clause-written : goal.returns-clause-written
returns-clause-written c =
    let at = c.reaches.ensures.0 c.if-not-reaches.false in
    OnTrue_from c.set.result _ (λ yes.
    row-written c.args.self.now c.args.number c.index_mut-block.result.now at.0 at.1
    c.index_mut-block.ensures.value
    c.set.new.self c.args.offset c.args.value c.ranges.value (OnTrue_at yes c.set.ensures.written))

pub returns-clause-owned : goal.returns-clause-owned
returns-clause-owned c =
    let at = c.reaches.ensures.0 c.if-not-reaches.false in
    let x = c.index_mut-block.result.now in
    let there = block_in-item c.args.self.now c.args.number x at.0 at.1 c.index_mut-block.ensures.value in
    subst (λ (o : Option Block). OnTrue c.set.result (IsSome (owned_number (held_of o c.args.offset)))) (sym there) c.set.ensures.owned

pub returns-clause-same : goal.returns-clause-same
returns-clause-same c =
    let at = c.reaches.ensures.0 c.if-not-reaches.false in
    OnFalse_from c.set.result _ (λ no.
    row-alike c.args.self.now c.args.number c.index_mut-block.result.now at.0 at.1
    c.index_mut-block.ensures.value c.set.new.self (OnFalse_at no c.set.ensures.same))
