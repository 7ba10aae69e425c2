use Rattle.std.proofs.Common.{ap, sym, ◌∙◌, is_some, arith}
use Rattle.holdings.proofs.WritingLemmas.{block_of-item, block_of-within, rows-replaced}
use Rattle.holdings.proofs.rows.BlockRows.swap.Goals as goal

pub index_mut-row-requires : goal.index_mut-row-requires
index_mut-row-requires c =
    let lt = block_of-within c.args.self.now.list.items c.args.array c.args.number c.requires in omega (arith, lt)

pub swap-requires : goal.swap-requires
swap-requires c =
    let rs = c.args.self.now.list.items in
    let lt = block_of-within rs c.args.array c.args.number c.requires in
    ap is_some (sym (block_of-item rs c.args.array c.index_mut-row.result.now lt c.index_mut-row.ensures.value c.args.number)) ∙ c.requires

pub returns-clause-old : goal.returns-clause-old
returns-clause-old c =
    let rs = c.args.self.now.list.items in
    let lt = block_of-within rs c.args.array c.args.number c.requires in
    block_of-item rs c.args.array c.index_mut-row.result.now lt c.index_mut-row.ensures.value c.args.number ∙ c.swap.ensures.old

pub returns-clause-new : goal.returns-clause-new
returns-clause-new c =
    let rs = c.args.self.now.list.items in
    let lt = block_of-within rs c.args.array c.args.number c.requires in
    rows-replaced rs c.args.array c.args.number c.index_mut-row.result.now c.swap.new.self c.args.block lt
    c.index_mut-row.ensures.value c.swap.ensures.new
