use Rattle.std.proofs.Common.{refl, sym}
use Rattle.sections.specs.Tree.{origins_of}
use Rattle.witness.proofs.Parts.{itself_lies, by_left, by_right, by_piece}
use Rattle.witness.proofs.sharing.+lies_in.Goals as goal

pub returns-then-inner-outer : goal.returns-then-inner-outer
returns-then-inner-outer t c = (
  λ h. itself_lies (origins_of c.args.sections.now) c.args.inner.number c.args.outer.number c.if-inner-outer.true,
  λ h. refl,
)

pub returns-in-Left : goal.returns-in-Left
returns-in-Left t c =
    by_left (origins_of c.args.sections.now) c.args.inner.number c.args.outer.number c.in-Left.parent.number c.lies_in.result
    (sym c.in-Left.ensures) c.if-inner-outer.false c.lies_in.ensures

pub returns-in-Right : goal.returns-in-Right
returns-in-Right t c =
    by_right (origins_of c.args.sections.now) c.args.inner.number c.args.outer.number c.in-Right.parent.number c.lies_in-in-Right.result
    (sym c.in-Right.ensures) c.if-inner-outer.false c.lies_in-in-Right.ensures

pub returns-in-Piece : goal.returns-in-Piece
returns-in-Piece t c =
    by_piece (origins_of c.args.sections.now) c.args.inner.number c.args.outer.number c.in-Piece.parent.number c.lies_in-in-Piece.result
    (sym c.in-Piece.ensures) c.if-inner-outer.false c.lies_in-in-Piece.ensures
