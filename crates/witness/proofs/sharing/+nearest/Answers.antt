use Rattle.std.proofs.Common.{◌∙◌, sym}
use Rattle.sections.specs.Origins.{IsChildOf}
use Rattle.sections.specs.Tree.{origins_of}
use Rattle.sections.proofs.Overlapping.{overlap-sym}
use Rattle.witness.proofs.Parts.{met_root, side_overlap}
use Rattle.witness.proofs.Splits.{nearest-same, nearest-turned, nearest-above}
use Rattle.witness.proofs.sharing.+nearest.Goals as goal

pub nearest-returns-then-first-second : goal.nearest-returns-then-first-second
nearest-returns-then-first-second t c = λ h. nearest-same (origins_of c.args.sections.now) c.if-first-second.true

pub nearest-returns-else-first-second-2 : goal.nearest-returns-else-first-second-2
nearest-returns-else-first-second-2 t c = λ h.
    nearest-turned (origins_of c.args.sections.now)
    (c.nearest_above-else-first-second-2.ensures (overlap-sym (origins_of c.args.sections.now) c.args.second.number c.args.first.number ∙ h))

pub nearest_above-returns-in-Root : goal.nearest_above-returns-in-Root
nearest_above-returns-in-Root t c = λ h.
    absurd (met_root (origins_of c.args.sections.now) c.args.sections.now.numbered c.args.low.number c.args.high.number c.requires.order (sym c.in-Root.ensures) h)

pub nearest_above-returns-in-Left : goal.nearest_above-returns-in-Left
nearest_above-returns-in-Left t c = λ h.
    let side = IsChildOf.left (sym c.in-Left.ensures) in
    nearest-above (origins_of c.args.sections.now) c.args.sections.now.numbered c.args.low.number c.args.high.number c.in-Left.parent.number _ c.requires.order side
    (c.nearest.ensures (side_overlap (origins_of c.args.sections.now) c.args.sections.now.numbered c.args.low.number c.args.high.number c.requires.order c.in-Left.parent.number side h))

pub nearest_above-returns-in-Right : goal.nearest_above-returns-in-Right
nearest_above-returns-in-Right t c = λ h.
    let side = IsChildOf.right (sym c.in-Right.ensures) in
    nearest-above (origins_of c.args.sections.now) c.args.sections.now.numbered c.args.low.number c.args.high.number c.in-Right.parent.number _ c.requires.order side
    (c.nearest-in-Right.ensures (side_overlap (origins_of c.args.sections.now) c.args.sections.now.numbered c.args.low.number c.args.high.number c.requires.order c.in-Right.parent.number side h))

pub nearest_above-returns-in-Piece : goal.nearest_above-returns-in-Piece
nearest_above-returns-in-Piece t c = λ h.
    let side = IsChildOf.piece (sym c.in-Piece.ensures) in
    nearest-above (origins_of c.args.sections.now) c.args.sections.now.numbered c.args.low.number c.args.high.number c.in-Piece.parent.number _ c.requires.order side
    (c.nearest-in-Piece.ensures (side_overlap (origins_of c.args.sections.now) c.args.sections.now.numbered c.args.low.number c.args.high.number c.requires.order c.in-Piece.parent.number side h))
