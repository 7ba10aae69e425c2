use Rattle.std.proofs.Common.{sym}
use Rattle.sections.specs.Tree.{origins_of}
use Rattle.sections.proofs.Climbing.{above_root, above_left, above_piece, above_beside, above_right}
use Rattle.sections.proofs.tree.SectionTree.above.Goals as goal

pub returns-in-Root-clause-none : goal.returns-in-Root-clause-none
returns-in-Root-clause-none c _ =
    above_root (origins_of c.args.self.now) c.args.self.now.numbered c.args.low c.args.high c.requires.order (sym c.in-Root.ensures)

pub returns-in-Left-clause-smaller : goal.returns-in-Left-clause-smaller
returns-in-Left-clause-smaller c = c.args.self.now.numbered.left c.args.high c.in-Left.parent.number (sym c.in-Left.ensures)

pub returns-in-Left-clause-same : goal.returns-in-Left-clause-same
returns-in-Left-clause-same c =
    above_left (origins_of c.args.self.now) c.args.self.now.numbered c.args.low c.args.high c.requires.order
    c.in-Left.parent.number (sym c.in-Left.ensures)

pub returns-in-Piece-clause-smaller : goal.returns-in-Piece-clause-smaller
returns-in-Piece-clause-smaller c = c.args.self.now.numbered.piece c.args.high c.in-Piece.parent.number (sym c.in-Piece.ensures)

pub returns-in-Piece-clause-same : goal.returns-in-Piece-clause-same
returns-in-Piece-clause-same c =
    above_piece (origins_of c.args.self.now) c.args.self.now.numbered c.args.low c.args.high c.requires.order
    c.in-Piece.parent.number (sym c.in-Piece.ensures)

pub returns-then-low-high-clause-none : goal.returns-then-low-high-clause-none
returns-then-low-high-clause-none c _ =
    above_beside (origins_of c.args.self.now) c.args.self.now.numbered c.args.low c.args.high c.requires.order
    c.in-Right.parent.number (sym c.in-Right.ensures) c.if-low-high.true

pub returns-else-low-high-clause-smaller : goal.returns-else-low-high-clause-smaller
returns-else-low-high-clause-smaller c = c.args.self.now.numbered.right c.args.high c.in-Right.parent.number (sym c.in-Right.ensures)

pub returns-else-low-high-clause-same : goal.returns-else-low-high-clause-same
returns-else-low-high-clause-same c =
    above_right (origins_of c.args.self.now) c.args.self.now.numbered c.args.low c.args.high c.requires.order
    c.in-Right.parent.number (sym c.in-Right.ensures) c.if-low-high.false
