use Rattle.std.proofs.Common.{◌∷◌, [], length, ap, sym, ◌∙◌, is_some, arith, refl, subst}
use Rattle.std.proofs.lemmas.Bool.{eq-eqb}
use Rattle.std.proofs.lemmas.List.{length-append}
use Rattle.std.proofs.lemmas.Result.{on_ok_weaker}
use Rattle.std.specs.Prelude.{if◌then◌else◌}
use Rattle.holdings.specs.Rows.{Widens, block_in, block_of}
use Rattle.holdings.proofs.WideningLemmas.{widens-trans}
use Rattle.holdings.proofs.WritingLemmas.{block_of-set, widens-push, widens-set}
use Rattle.holdings.proofs.rows.BlockRows.make_room.Goals as goal

pub rows-preserved : goal.rows-preserved
rows-preserved c =
    let old = c.args.self.now.list.items in
    let rs = c.rows.self.list.items in
    widens-trans old rs c.push.new.self.items c.rows.invariant
    (subst (Widens rs) (sym c.in_ok-push.ensures.items) (widens-push rs c.new.result c.new.ensures))

pub rows-smaller : goal.rows-smaller
rows-smaller c =
    let rs = c.rows.self.list.items in
    omega (arith, ap length c.in_ok-push.ensures.items, length-append rs (c.new.result ∷ []), c.rows-test.true)

pub returns-clause-room : goal.returns-clause-room
returns-clause-room c =
    let rs = c.rows.self.list.items in
    let a = c.args.array in
    let s = c.make_room.new.self in
    on_ok_weaker c.make_room.result
    (λ some. ap is_some (block_of-set rs a s (omega arith) a c.args.number
    ∙ ap (λ b. if b then block_in s c.args.number else block_of rs a c.args.number) (eq-eqb a a refl)) ∙ some)
    c.make_room.ensures.room

pub returns-clause-widens : goal.returns-clause-widens
returns-clause-widens c =
    let old = c.args.self.now.list.items in
    let rs = c.rows.self.list.items in
    let a = c.args.array in
    widens-trans old rs _ c.rows.invariant
    (widens-set rs a c.index_mut-row.result.now c.make_room.new.self (omega arith) c.index_mut-row.ensures.value c.make_room.ensures.before)
