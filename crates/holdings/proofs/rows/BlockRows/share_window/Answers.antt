use Rattle.std.proofs.Common.{◌≡◌, arith, subst, sym, refl, ap, ◌∙◌}
use Rattle.sections.specs.Covers.{is_in}
use Rattle.sections.specs.Place.{Window}
use Rattle.sections.specs.Translation.{window as window_of}
use Rattle.blocks.specs.Held.{IsThere, as_shared, numbers}
use Rattle.holdings.specs.Pieces.{behind_piece, piece, taking}
use Rattle.holdings.specs.Rows.{held_in}
use Rattle.holdings.proofs.PieceLemmas.{is_in-cut, is_in-empty, taking-both, taking-none}
use Rattle.holdings.proofs.PresenceLemmas.{there-behind, there-piece}
use Rattle.holdings.proofs.rows.BlockRows.share_window.Goals as goal

pub pieces-init : goal.pieces-init
pieces-init c = (c.requires, refl)

pub share_piece-requires-clause-there : goal.share_piece-requires-clause-there
share_piece-requires-clause-there c =
    let m = numbers (held_in c.args.source.now) in
    subst (λ (w : Window). IsThere (is_in w) m) (sym c.cut.ensures.first) (there-piece (window_of c.pieces.rest) m c.pieces.invariant.0)

pub pieces-preserved : goal.pieces-preserved
pieces-preserved c =
    let m = numbers (held_in c.args.source.now) in
    let from = as_shared m in
    let rest = window_of c.pieces.rest in
    let self = held_in c.pieces.self in (
      subst (λ (w : Window). IsThere (is_in w) m) (sym c.cut.ensures.rest) (there-behind rest m c.pieces.invariant.0),
      ap (λ (w : Window). taking (is_in w) from (held_in c.share_piece.new.self)) c.cut.ensures.rest
          ∙ ap (taking (is_in (behind_piece rest)) from) c.in_ok-share_piece.ensures
          ∙ ap (λ (w : Window). taking (is_in (behind_piece rest)) from (taking (is_in w) from self)) c.cut.ensures.first
          ∙ taking-both (is_in (piece rest)) (is_in (behind_piece rest)) (is_in rest) from self (is_in-cut rest)
          ∙ c.pieces.invariant.1,
    )

pub returns : goal.returns
returns c =
    let rest = window_of c.pieces.rest in
    let none : rest.length ≡ 0 = omega arith in
    sym (taking-none (is_in rest) (as_shared (numbers (held_in c.args.source.now))) (held_in c.pieces.self) (λ q. is_in-empty rest q none))
    ∙ c.pieces.invariant.1
