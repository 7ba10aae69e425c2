use Rattle.std.proofs.Common.{◌+◌, ap, arith, sym, ◌∙◌}
use Rattle.blocks.proofs.WalkLemmas.{in_range-true}
use Rattle.blocks.specs.Numbers.{number_in}
use Rattle.blocks.specs.Ready.{room_at}
use Rattle.blocks.specs.declared.block.Block.{Block}
use Rattle.blocks.specs.declared.mixed.Mixed.{Mixed}
use Rattle.blocks.proofs.block.Block.put.Goals as goal

pub put_copy-requires : goal.put_copy-requires
put_copy-requires c = λ none.
    let o = c.args.offset in
    c.in_ok-open.ensures.open o (in_range-true o (o + 1) o (omega arith) (omega arith))
    (ap (λ (b : Block). room_at b o) c.in-Mixed.is
    ∙ ap (λ (m : Mixed). number_in m.numbers o) (sym c.deref_mut.ensures.value) ∙ none)
