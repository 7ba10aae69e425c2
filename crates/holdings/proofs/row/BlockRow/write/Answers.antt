use Rattle.std.proofs.Common.{◌≡◌, None, Option, arith, sym, subst, IfOk, OnErr, is_some}
use Rattle.std.proofs.lemmas.Result.{IfOk-weaker, on_err_weaker}
use Rattle.blocks.specs.Held.{owned_number}
use Rattle.blocks.specs.declared.block.Block.{Block}
use Rattle.holdings.specs.Rows.{held_of}
use Rattle.holdings.proofs.WritingLemmas.{block_in-item, row-alike, row-written}
use Rattle.holdings.proofs.row.BlockRow.write.Goals as goal

pub returns : goal.returns
returns c =
    let x = c.index_mut-block.result.now in
    let there = block_in-item c.args.self.now c.args.number x (omega arith) (omega arith) c.index_mut-block.ensures.value in
    let alike = row-alike c.args.self.now c.args.number x (omega arith) (omega arith) c.index_mut-block.ensures.value c.write.new.self in
    record {
      found = subst (λ (o : Option Block). IfOk c.write.result (λ f. f ≡ is_some (owned_number (held_of o c.args.offset)))) (sym there)
          c.write.ensures.found;
      written = IfOk-weaker c.write.result _ _
          (λ f w yes. row-written c.args.self.now c.args.number x (omega arith) (omega arith)
          c.index_mut-block.ensures.value c.write.new.self c.args.offset c.args.value c.ranges.value (w yes))
          c.write.ensures.written;
      missed = IfOk-weaker c.write.result _ _ (λ f w no. alike (w no)) c.write.ensures.missed;
      same = on_err_weaker c.write.result alike c.write.ensures.same;
      owned = subst (λ (o : Option Block). OnErr c.write.result (owned_number (held_of o c.args.offset) ≡ None → ⊥)) (sym there)
          c.write.ensures.owned;
    }
