use Rattle.std.proofs.Common.{◌≡◌, ◌/◌, None, ap, sym, ◌∙◌, arith}
use Rattle.std.proofs.lemmas.Bool.{le-leb, leb-true}
use Rattle.sections.specs.Translation.{window as window_of}
use Rattle.holdings.specs.Rows.{block_of, held_in}
use Rattle.holdings.specs.Wanted.{wanted}
use Rattle.holdings.proofs.PresenceLemmas.{piece-held, piece-none, piece-owned, there-empty}
use Rattle.holdings.proofs.rows.BlockRows.has_piece.Goals as goal

pub returns-in-None : goal.returns-in-None
returns-in-None c =
    let rs = c.args.self.now.list.items in
    let w = window_of c.args.piece in
    let is : block_of rs w.array (w.at / 256) ≡ None = ap (block_of rs w.array) (sym c.block_number.ensures) ∙ sym c.in-None.ensures in
    let from = c.offsets-from.ensures.from in
    let to = c.offsets-from.ensures.to in (
      λ t. there-empty w (wanted c.args.want (held_in c.args.self.now)) (omega (arith, leb-true _ _ t, from, to)),
      λ there. le-leb _ _ (omega (arith, piece-none rs w c.args.want c.requires is there, from, to)),
    )

pub returns-in-Owned : goal.returns-in-Owned
returns-in-Owned c =
    piece-owned c.args.self.now.list.items (window_of c.args.piece) c.in-Some.block.now _ _ _ c.requires
    c.block_number.ensures c.in-Some.ensures c.offsets-from.ensures.from c.offsets-from.ensures.to c.args.want
    c.in-Owned.is c.owns_all.ensures

pub returns-in-Held : goal.returns-in-Held
returns-in-Held c =
    piece-held c.args.self.now.list.items (window_of c.args.piece) c.in-Some.block.now _ _ _ c.requires
    c.block_number.ensures c.in-Some.ensures c.offsets-from.ensures.from c.offsets-from.ensures.to c.args.want
    c.in-Held.is c.holds_all.ensures
