use Rattle.std.proofs.Common.{◌≡◌, ◌+◌, List, length, subst, sym, arith}
use Rattle.blocks.specs.declared.block.Block.{Block}
use Rattle.holdings.specs.Rooms.{HasRoom}
use Rattle.holdings.specs.Rows.{held_in}
use Rattle.holdings.proofs.PasteLemmas.{PasteSoFar, PastedIn, no-blocks, paste-begun, paste-on, paste-room, pasted-row, row-costs, row-counted}
use Rattle.holdings.proofs.rows.BlockRows.paste_row.Goals as goal

pub pasting-init : goal.pasting-init
pasting-init c = paste-begun c.args.self.now.list.items c.args.array c.args.row c.requires

pub paste_in-requires : goal.paste_in-requires
paste_in-requires c =
    let r = c.args.row in
    let xs = c.pop.new.self.items in
    let b = c.in-Some.theirs in
    let own = c.pasting.self.list.items in
    let at : r.first + c.len.result ≡ r.first + length xs = omega (arith, c.len.ensures) in
    subst (λ m. HasRoom own c.args.array m b) (sym at)
    (paste-room (held_in c.args.self.now) c.args.self.now.list.items own c.args.array r xs b c.pasting.copied
    (subst (λ (l : List Block). PasteSoFar (held_in c.args.self.now) c.args.self.now.list.items own c.args.array r l c.pasting.copied)
    c.in-Some.ensures.items c.pasting.invariant))

pub pasting-preserved : goal.pasting-preserved
pasting-preserved c =
    let first = held_in c.args.self.now in
    let start = c.args.self.now.list.items in
    let own = c.pasting.self.list.items in
    let new_own = c.paste_in.new.self.list.items in
    let r = c.args.row in
    let xs = c.pop.new.self.items in
    let b = c.in-Some.theirs in
    let at : r.first + c.len.result ≡ r.first + length xs = omega (arith, c.len.ensures) in
    let one = subst (λ m. PastedIn own new_own c.args.array m b c.paste_in.result) at
    (record {
      pasted = c.paste_in.ensures.pasted;
      moved = c.paste_in.ensures.moved;
      counted = c.paste_in.ensures.counted;
      keeps = c.paste_in.ensures.keeps;
    }) in
    paste-on first start own new_own c.args.array r xs b c.pasting.copied c.paste_in.result c.saturating_add-copied.result
    (subst (λ (l : List Block). PasteSoFar first start own c.args.array r l c.pasting.copied) c.in-Some.ensures.items c.pasting.invariant)
    one c.saturating_add-copied.ensures

pub returns-clause-pasted : goal.returns-clause-pasted
returns-clause-pasted c =
    pasted-row (held_in c.args.self.now) c.args.self.now.list.items c.pasting.self.list.items c.args.array c.args.row c.pasting.copied
    (no-blocks _ _ _ _ _ c.pasting.blocks.items _ c.pasting.invariant (omega (arith, c.in_default.ensures.cases.0)))

pub returns-clause-copied : goal.returns-clause-copied
returns-clause-copied c =
    row-costs (held_in c.args.self.now) c.args.self.now.list.items c.pasting.self.list.items c.args.array c.args.row c.pasting.copied
    (no-blocks _ _ _ _ _ c.pasting.blocks.items _ c.pasting.invariant (omega (arith, c.in_default.ensures.cases.0)))

pub returns-clause-counted : goal.returns-clause-counted
returns-clause-counted c =
    row-counted (held_in c.args.self.now) c.args.self.now.list.items c.pasting.self.list.items c.args.array c.args.row c.pasting.copied
    (no-blocks _ _ _ _ _ c.pasting.blocks.items _ c.pasting.invariant (omega (arith, c.in_default.ensures.cases.0)))

pub returns-clause-keeps : goal.returns-clause-keeps
returns-clause-keeps c = c.pasting.invariant.keeps
