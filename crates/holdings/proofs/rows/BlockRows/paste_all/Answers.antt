use Rattle.std.proofs.Common.{◌≡◌, ℕ, List, false, length, option_map, subst, sym, arith}
use Rattle.std.specs.Prelude.{nat_eq, if◌then◌else◌}
use Rattle.sections.specs.Place.{Place}
use Rattle.blocks.specs.Held.{Owned, first_of, owned_number}
use Rattle.blocks.specs.declared.block.Block.{Block}
use Rattle.holdings.specs.Copied.{as_count, copied_into_array}
use Rattle.holdings.specs.Rooms.{HasRoom, HasRowRoom}
use Rattle.holdings.specs.Rows.{held_in, held_in_list, in_row}
use Rattle.holdings.specs.declared.row.BlockRow.{BlockRow}
use Rattle.holdings.proofs.PasteLemmas.{RowCosts, RowsSoFar, last-room, no-rows, owned_in_row, pasted-rows, rows-begun, rows-cost, rows-counted, rows-on}
use Rattle.holdings.proofs.rows.BlockRows.paste_all.Goals as goal

pub rows-init : goal.rows-init
rows-init c = rows-begun c.args.self.now.list.items c.args.others.list.items c.requires

pub paste_row-requires : goal.paste_row-requires
paste_row-requires c =
    let rs = c.pop.new.self.items in
    let r = c.in-Some.row in
    let own = c.rows.self.list.items in
    let at : c.len.result ≡ length rs = omega (arith, c.len.ensures) in
    let p = subst (λ (l : List BlockRow). RowsSoFar (held_in c.args.self.now) own c.args.others.list.items l c.rows.copied) c.in-Some.ensures.items c.rows.invariant in
    subst (λ m. HasRowRoom own m r) (sym at) (last-room own rs r p.room)

pub rows-preserved : goal.rows-preserved
rows-preserved c =
    let first = held_in c.args.self.now in
    let rs = c.pop.new.self.items in
    let r = c.in-Some.row in
    let own = c.rows.self.list.items in
    let new_own = c.paste_row.new.self.list.items in
    let k = c.paste_row.result in
    let at : c.len.result ≡ length rs = omega (arith, c.len.ensures) in
    rows-on first own new_own c.args.others.list.items rs r c.rows.copied k c.saturating_add-copied.result
    (subst (λ (l : List BlockRow). RowsSoFar first own c.args.others.list.items l c.rows.copied) c.in-Some.ensures.items c.rows.invariant)
    (subst (λ m. (q : Place) → held_in_list new_own q ≡ (if nat_eq q.array m
    then first_of (option_map Owned (owned_number (in_row r q.index))) (held_in_list own q) else held_in_list own q)) at c.paste_row.ensures.pasted)
    (subst (λ m. RowCosts (held_in_list own) m r (λ q. nat_eq q.array m) k) at c.paste_row.ensures.copied)
    (subst (λ m. as_count k ≡ as_count (copied_into_array (held_in_list own) (owned_in_row r) m)) at c.paste_row.ensures.counted)
    (subst (λ m. (i j : ℕ) (b : Block) → HasRoom own i j b → nat_eq i m ≡ false → HasRoom new_own i j b) at c.paste_row.ensures.keeps)
    c.saturating_add-copied.ensures

pub returns-clause-pasted : goal.returns-clause-pasted
returns-clause-pasted c =
    pasted-rows (held_in c.args.self.now) c.rows.self.list.items c.args.others.list.items c.rows.copied
    (no-rows _ _ _ c.rows.list.items _ c.rows.invariant (omega (arith, c.in_default.ensures.cases.0)))

pub returns-clause-copied : goal.returns-clause-copied
returns-clause-copied c =
    rows-cost (held_in c.args.self.now) c.rows.self.list.items c.args.others.list.items c.rows.copied
    (no-rows _ _ _ c.rows.list.items _ c.rows.invariant (omega (arith, c.in_default.ensures.cases.0)))

pub returns-clause-counted : goal.returns-clause-counted
returns-clause-counted c =
    rows-counted (held_in c.args.self.now) c.rows.self.list.items c.args.others.list.items c.rows.copied
    (no-rows _ _ _ c.rows.list.items _ c.rows.invariant (omega (arith, c.in_default.ensures.cases.0)))
