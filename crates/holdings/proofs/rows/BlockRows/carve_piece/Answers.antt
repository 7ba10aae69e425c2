use Rattle.std.proofs.Common.{◌≡◌, ◌+◌, ◌/◌, ◌%◌, ◌∙◌, ap, is_some, subst, sym, IsSome, refl}
use Rattle.std.proofs.lemmas.Bool.{eq-eqb, ne_eqb}
use Rattle.std.proofs.lemmas.Option.{same_Some}
use Rattle.std.specs.Prelude.{if◌then◌else◌}
use Rattle.sections.specs.Covers.{is_in}
use Rattle.blocks.specs.Ready.{IsReady}
use Rattle.blocks.specs.declared.block.Block.TheVariants.{Empty}
use Rattle.holdings.specs.Carvings.{piece_of}
use Rattle.holdings.specs.Pieces.{taking}
use Rattle.holdings.specs.Rows.{Replaces, block_of, held_in}
use Rattle.holdings.proofs.CarvingLemmas.{HasCarved, carve_keeps, has_carved, held-elsewhere, held-left, held-taken, replaced-here, replaced-some}
use Rattle.holdings.proofs.rows.BlockRows.carve_piece.Goals as goal
use Rattle.holdings.proofs.rows.BlockRows.carve_piece.Goals.{Joined-swap}

pub swap-mine-requires : goal.swap-mine-requires
swap-mine-requires c =
    let own = c.args.self.now.list.items in
    let w = piece_of c.args.carving in
    subst (λ n. IsSome (block_of own w.array n)) (sym c.block_number-number.ensures) (ap is_some c.requires.ready.there)

pub carve-block-requires : goal.carve-block-requires
carve-block-requires c =
    let own = c.args.self.now.list.items in
    let w = piece_of c.args.carving in
    let r = c.swap-mine.result in
    let same : c.requires.ready.mine ≡ r =
    same_Some _ _ (sym c.requires.ready.there ∙ ap (block_of own w.array) (sym c.block_number-number.ensures) ∙ c.swap-mine.ensures.old) in
    subst (λ f. IsReady r f c.offsets-from.result.1 c.args.carving.cut) (sym c.offsets-from.ensures.from)
    (subst (λ t. IsReady r (w.at % 256) t c.args.carving.cut) (sym c.offsets-from.ensures.to)
    (subst (λ z. IsReady z (w.at % 256) (w.at % 256 + w.length) c.args.carving.cut) same c.requires.ready.ready))

pub swap-requires : goal.swap-requires
swap-requires c =
    ap is_some (replaced-here c.args.carving.piece.array.number c.block_number-number.result Empty c.args.self.now.list.items
    c.swap-mine.new.self.list.items c.swap-mine.ensures.new)

pub swap-requires-2 : goal.swap-requires-2
swap-requires-2 c =
    let w = piece_of c.args.carving in
    subst (λ n. IsSome (block_of c.args.others.now.list.items w.array n)) (sym c.block_number-number.ensures) c.requires.room

-- what became of the block
carved : (c : Joined-swap)
    → HasCarved c.args.self.now.list.items c.swap.new.self.list.items (piece_of c.args.carving) c.swap-mine.result
    c.carve-block.new.self c.carve-block.result (c.args.carving.cut.copied ≡ 0)
carved c =
    has_carved c.args.self.now.list.items c.swap-mine.new.self.list.items c.swap.new.self.list.items (piece_of c.args.carving)
    c.block_number-number.result c.offsets-from.result.0 c.offsets-from.result.1
    c.swap-mine.result c.carve-block.new.self c.carve-block.result Empty (c.args.carving.cut.copied ≡ 0)
    c.block_number-number.ensures c.offsets-from.ensures.from
    c.offsets-from.ensures.to c.swap-mine.ensures.old c.swap-mine.ensures.new c.swap.ensures.new c.carve-block.ensures.taken
    c.carve-block.ensures.left c.carve-block.ensures.keeps

its_mine : (c : Joined-swap) → c.swap-mine.result ≡ c.requires.ready.mine
its_mine c =
    same_Some _ _ (sym c.swap-mine.ensures.old
    ∙ ap (block_of c.args.self.now.list.items (piece_of c.args.carving).array) c.block_number-number.ensures ∙ c.requires.ready.there)

pub returns-then-not-moves : goal.returns-then-not-moves
returns-then-not-moves c =
    let m = c.requires in
    let w = piece_of c.args.carving in
    let own = c.args.self.now.list.items in
    let new_own = c.swap.new.self.list.items in
    let others = c.args.others.now.list.items in
    let h = carved (goal.at.returns-then-not-moves c).Joined-swap in
    record {
      left = held-left w c.swap-mine.result c.carve-block.new.self own new_own m.piece.block h.there h.back h.left;
      taken = sym (ap (λ b. if b then taking (is_in w) (held_in c.args.self.now) (held_in c.args.others.now) else held_in c.args.others.now)
          (ne_eqb c.args.carving.cut.copied 0 c.if-not-moves.true));
      keeps = λ d clear n. carve_keeps own others new_own others c.args.carving m c.swap-mine.result c.carve-block.new.self
          c.carve-block.result (c.args.carving.cut.copied ≡ 0) (its_mine (goal.at.returns-then-not-moves c).Joined-swap) h (λ i j some. some) (λ q e. refl) d clear n;
    }

pub returns : goal.returns
returns c =
    let m = c.requires in
    let w = piece_of c.args.carving in
    let out = c.carve-block.result in
    let moves = eq-eqb c.args.carving.cut.copied 0 c.if-not-moves.false in
    let rep = subst (λ n. Replaces w.array n out c.args.others.now.list.items c.swap-2.new.self.list.items) c.block_number-number.ensures
    c.swap-2.ensures.new in
    let own = c.args.self.now.list.items in
    let new_own = c.swap.new.self.list.items in
    let others = c.args.others.now.list.items in
    let new_others = c.swap-2.new.self.list.items in
    let h = carved (goal.at.returns c).Joined-swap in
    record {
      left = held-left w c.swap-mine.result c.carve-block.new.self own new_own m.piece.block h.there h.back h.left;
      taken = held-taken w c.swap-mine.result out own others new_others m.piece.block h.there rep (h.taken c.if-not-moves.false) (m.alone moves)
          ∙ sym (ap (λ b. if b then taking (is_in w) (held_in c.args.self.now) (held_in c.args.others.now) else held_in c.args.others.now) moves);
      keeps = λ d clear n. carve_keeps own others new_own new_others c.args.carving m c.swap-mine.result c.carve-block.new.self out
          (c.args.carving.cut.copied ≡ 0) (its_mine (goal.at.returns c).Joined-swap) h
          (λ i j some. replaced-some w.array (w.at / 256) out others new_others rep i j some)
          (λ q e. held-elsewhere w.array (w.at / 256) out others new_others rep q e) d clear n;
    }
