use Rattle.std.proofs.Common.{◌≡◌, ◌+◌, ◌%◌, ◌<◌, ◌≤◌, arith, subst, sym, refl}
use Rattle.sections.specs.Covers.{is_in}
use Rattle.sections.specs.Place.{Window}
use Rattle.sections.specs.Translation.{window as window_of}
use Rattle.blocks.specs.Held.{IsThere}
use Rattle.holdings.specs.Rows.{held_in}
use Rattle.holdings.specs.Wanted.{wanted}
use Rattle.holdings.proofs.PieceLemmas.{piece_less, piece_fits}
use Rattle.holdings.proofs.PresenceLemmas.{there-behind, there-cut, there-empty, there-piece}
use Rattle.holdings.proofs.rows.BlockRows.has_window.Goals as goal

pub pieces-init : goal.pieces-init
pieces-init c = (λ t. t, λ t. t)

pub has_piece-requires : goal.has_piece-requires
has_piece-requires c =
    subst (λ (w : Window). w.at % 256 + w.length ≤ 256) (sym c.cut.ensures.first) (piece_fits (window_of c.pieces.rest))

pub returns-then-not-has_piece : goal.returns-then-not-has_piece
returns-then-not-has_piece c =
    let m = wanted c.args.want (held_in c.args.self.now) in (
      λ t. absurd (cc),
      λ there. absurd (let here = c.has_piece.ensures.1 (subst (λ (w : Window). IsThere (is_in w) m) (sym c.cut.ensures.first)
          (there-piece (window_of c.pieces.rest) m (c.pieces.invariant.0 there))) in cc),
    )

pub pieces-preserved : goal.pieces-preserved
pieces-preserved c =
    let m = wanted c.args.want (held_in c.args.self.now) in
    let rest = window_of c.pieces.rest in (
      λ there. subst (λ (w : Window). IsThere (is_in w) m) (sym c.cut.ensures.rest) (there-behind rest m (c.pieces.invariant.0 there)),
      λ behind. c.pieces.invariant.1 (there-cut rest m
          (subst (λ (w : Window). IsThere (is_in w) m) c.cut.ensures.first (c.has_piece.ensures.0 c.if-not-has_piece.false))
          (subst (λ (w : Window). IsThere (is_in w) m) c.cut.ensures.rest behind)),
    )

pub pieces-smaller : goal.pieces-smaller
pieces-smaller c =
    subst (λ (w : Window). w.length < c.pieces.rest.len) (sym c.cut.ensures.rest)
    (piece_less (window_of c.pieces.rest) c.pieces-test.true)

pub returns : goal.returns
returns c =
    let m = wanted c.args.want (held_in c.args.self.now) in
    let none : (window_of c.pieces.rest).length ≡ 0 = omega arith in
    (λ t. c.pieces.invariant.1 (there-empty (window_of c.pieces.rest) m none), λ there. refl)
