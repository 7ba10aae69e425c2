use Rattle.std.proofs.Common.{◌≡◌, ◌<◌, ◌++◌, ◌∷◌, [], List, arith, subst, sym, refl, ap, ◌∙◌}
use Rattle.sections.specs.Covers.{is_in}
use Rattle.sections.specs.Place.{Window}
use Rattle.sections.specs.Translation.{window as window_of}
use Rattle.blocks.specs.Held.{Held, IsThere, Map, owned}
use Rattle.std.specs.Prelude.{if◌then◌else◌}
use Rattle.holdings.specs.Carvings.{IsPiece, IsWhole, copied_places, moves, piece_of}
use Rattle.holdings.specs.Pieces.{piece, taking}
use Rattle.holdings.specs.Rows.{held_in}
use Rattle.holdings.specs.declared.carving.Carving.{Carving}
use Rattle.holdings.proofs.CutWindowLemmas.{CutPiece, CutSoFar, clear_of_copies, cut-begun, cut-costs, cut-counted, cut-on, cut-places_all, within_copies}
use Rattle.holdings.proofs.PieceLemmas.{piece_fits, piece_less}
use Rattle.holdings.proofs.PresenceLemmas.{there-behind, there-piece}
use Rattle.holdings.proofs.rows.BlockRows.cut_window.Goals as goal

pub pieces-init : goal.pieces-init
pieces-init c =
    let cs = c.args.carvings.now in (
      cut-begun (held_in c.args.self.now) (window_of c.args.window) cs.list.items cs.copied c.args.self.now.list.items
          c.args.others.now.list.items refl c.requires.cut c.requires.taken c.requires.clear,
      c.requires.owned,
    )

pub cut_piece-requires-clause-piece : goal.cut_piece-requires-clause-piece
cut_piece-requires-clause-piece c =
    let rest = window_of c.pieces.rest in
    let some : 0 < (piece rest).length = omega (arith, c.pieces-test.true) in
    subst IsPiece (sym c.cut.ensures.first) (record { some = some; block = piece_fits rest })

pub cut_piece-requires-clause-owned : goal.cut_piece-requires-clause-owned
cut_piece-requires-clause-owned c =
    let rest = window_of c.pieces.rest in
    subst (λ (w : Window). IsThere (is_in w) (owned (held_in c.pieces.self))) (sym c.cut.ensures.first)
    (subst (λ (m : Map Held). IsThere (is_in (piece rest)) (owned m)) (sym c.pieces.invariant.0.same)
    (there-piece rest (owned (held_in c.args.self.now)) c.pieces.invariant.1))

pub cut_piece-requires-clause-within : goal.cut_piece-requires-clause-within
cut_piece-requires-clause-within c =
    within_copies (copied_places c.pieces.carvings.list.items) (held_in c.args.self.now) (held_in c.pieces.self) (held_in c.pieces.others)
    c.pieces.invariant.0.same c.pieces.invariant.0.taken

pub cut_piece-requires-clause-clear : goal.cut_piece-requires-clause-clear
cut_piece-requires-clause-clear c = λ q here.
    let rest = window_of c.pieces.rest in
    clear_of_copies c.pieces.carvings.list.items (held_in c.args.self.now) (held_in c.pieces.others) rest c.pieces.invariant.0.taken
    c.pieces.invariant.0.clear q (ap (λ (w : Window). is_in w q) (sym c.cut.ensures.first) ∙ here)

pub pieces-preserved : goal.pieces-preserved
pieces-preserved c =
    let first = held_in c.args.self.now in
    let w = window_of c.args.window in
    let start = c.args.carvings.now in
    let rest = window_of c.pieces.rest in
    let p = c.pieces.invariant.0 in
    let e = c.in_ok-cut.ensures in
    let carving : Carving = record { piece = c.cut.result.0; cut = c.in_ok-cut.cut } in
    let one : CutPiece first c.pieces.self.list.items c.pieces.others.list.items c.cut_piece.new.self.list.items c.cut_piece.new.others.list.items
    carving (piece rest) = record {
      window = c.cut.ensures.first;
      same = e.same;
      movable = e.movable;
      keeps = e.keeps;
      taken = e.taken ∙ ap (λ (m : Map Held). if moves carving then held_in c.pieces.others
          else taking (is_in (piece_of carving)) m (held_in c.pieces.others)) p.same;
      moved = λ whole. e.moved (subst (λ (m : Map Held). IsWhole m (piece_of carving)) (sym p.same)
          (subst (IsWhole first) (sym c.cut.ensures.first) whole));
      counted = subst (λ (v : Window). (IsWhole first v → ⊥) → carving.cut.copied ≡ v.length) c.cut.ensures.first
          (subst (λ (m : Map Held). (IsWhole m (piece_of carving) → ⊥) → carving.cut.copied ≡ (piece_of carving).length) p.same e.counted);
    } in
    let more = cut-on first w start.list.items start.copied c.pieces.self.list.items c.pieces.others.list.items c.cut_piece.new.self.list.items
    c.cut_piece.new.others.list.items c.pieces.carvings.list.items c.pieces.carvings.copied c.saturating_add-carvings.result rest carving p
    c.pieces-test.true one c.saturating_add-carvings.ensures in (
      subst (λ (l : List Carving). CutSoFar first w start.list.items start.copied c.cut_piece.new.self.list.items c.cut_piece.new.others.list.items
          l c.saturating_add-carvings.result (window_of c.cut.result.1)) (sym c.in_ok-push.ensures.items)
          (subst (CutSoFar first w start.list.items start.copied c.cut_piece.new.self.list.items c.cut_piece.new.others.list.items
          (c.pieces.carvings.list.items ++ carving ∷ []) c.saturating_add-carvings.result) (sym c.cut.ensures.rest) more),
      subst (λ (v : Window). IsThere (is_in v) (owned first)) (sym c.cut.ensures.rest) (there-behind rest (owned first) c.pieces.invariant.1),
    )

pub pieces-smaller : goal.pieces-smaller
pieces-smaller c =
    subst (λ (w : Window). w.length < c.pieces.rest.len) (sym c.cut.ensures.rest) (piece_less (window_of c.pieces.rest) c.pieces-test.true)

pub returns-clause-same : goal.returns-clause-same
returns-clause-same c = c.pieces.invariant.0.same

pub returns-clause-cut : goal.returns-clause-cut
returns-clause-cut c = c.pieces.invariant.0.cut

pub returns-clause-taken : goal.returns-clause-taken
returns-clause-taken c = c.pieces.invariant.0.taken

pub returns-clause-places : goal.returns-clause-places
returns-clause-places c = λ q.
    let start = c.args.carvings.now in
    cut-places_all (held_in c.args.self.now) (window_of c.args.window) start.list.items start.copied c.pieces.self.list.items
    c.pieces.others.list.items c.pieces.carvings.list.items c.pieces.carvings.copied (window_of c.pieces.rest) c.pieces.invariant.0
    (omega arith) q

pub returns-clause-copied : goal.returns-clause-copied
returns-clause-copied c = λ lengths within.
    let start = c.args.carvings.now in
    cut-costs (held_in c.args.self.now) (window_of c.args.window) start.list.items start.copied c.pieces.self.list.items
    c.pieces.others.list.items c.pieces.carvings.list.items c.pieces.carvings.copied (window_of c.pieces.rest) c.pieces.invariant.0
    lengths within

pub returns-clause-counted : goal.returns-clause-counted
returns-clause-counted c =
    let start = c.args.carvings.now in
    cut-counted (held_in c.args.self.now) (window_of c.args.window) start.list.items start.copied c.pieces.self.list.items
    c.pieces.others.list.items c.pieces.carvings.list.items c.pieces.carvings.copied (window_of c.pieces.rest) c.pieces.invariant.0
    (omega arith)
