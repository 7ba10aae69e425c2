use Rattle.std.proofs.Common.{◌/◌, ◌%◌, Option, IsSome, arith, sym, subst}
use Rattle.std.proofs.lemmas.Bool.{OnFalse_at, OnFalse_from, OnTrue_at, OnTrue_from}
use Rattle.std.specs.Bool.{OnTrue}
use Rattle.sections.specs.Translation.{place as place_of}
use Rattle.blocks.specs.Held.{owned_number}
use Rattle.blocks.specs.declared.block.Block.{Block}
use Rattle.holdings.specs.Rows.{held_of}
use Rattle.holdings.proofs.WritingLemmas.{block_of-item, rows-alike, rows-put}
use Rattle.holdings.proofs.rows.BlockRows.set.Goals as goal

pub returns-clause-written : goal.returns-clause-written
returns-clause-written c =
    OnTrue_from c.set.result _ (λ yes.
    rows-put c.args.self.now.list.items (place_of c.args.place) c.index_mut-row.result.now c.set.new.self
    c.args.value (omega arith) c.index_mut-row.ensures.value c.ranges.value
    (OnTrue_at yes c.set.ensures.written))

pub returns-clause-owned : goal.returns-clause-owned
returns-clause-owned c =
    let there = block_of-item c.args.self.now.list.items c.args.place.array.number c.index_mut-row.result.now
    (omega arith) c.index_mut-row.ensures.value (c.args.place.index / 256) in
    subst (λ (o : Option Block). OnTrue c.set.result (IsSome (owned_number (held_of o (c.args.place.index % 256))))) (sym there)
    c.set.ensures.owned

pub returns-clause-same : goal.returns-clause-same
returns-clause-same c =
    OnFalse_from c.set.result _ (λ no.
    rows-alike c.args.self.now.list.items c.args.place.array.number c.index_mut-row.result.now c.set.new.self
    (omega arith) c.index_mut-row.ensures.value (OnFalse_at no c.set.ensures.same))
