use Rattle.std.proofs.Common.{subst, arith}
use Rattle.holdings.specs.Rows.{held_in}
use Rattle.holdings.proofs.CarveListLemmas.{CarveSoFar, carve-left, carve-on, carve-taken}
use Rattle.holdings.proofs.rows.BlockRows.carve_all.Goals as goal

pub carvings-preserved : goal.carvings-preserved
carvings-preserved c =
    let own = c.carvings.self.list.items in
    let others = c.carvings.others.list.items in
    let first = held_in c.args.self.now in
    let into = held_in c.args.others.now in
    let all = c.args.carvings.list.items in
    carve-on first into all own others c.carve_piece.new.self.list.items c.carve_piece.new.others.list.items c.pop.new.self.items c.in-Some.carving
    (subst (CarveSoFar first into all own others) c.in-Some.ensures.items c.carvings.invariant)
    c.carve_piece.ensures.left c.carve_piece.ensures.taken c.carve_piece.ensures.keeps

pub returns-clause-left : goal.returns-clause-left
returns-clause-left c =
    carve-left (held_in c.args.self.now) (held_in c.args.others.now) c.args.carvings.list.items c.carvings.self.list.items
    c.carvings.others.list.items c.carvings.list.items c.carvings.invariant (omega (arith, c.in_default.ensures.cases.0))

pub returns-clause-taken : goal.returns-clause-taken
returns-clause-taken c =
    carve-taken (held_in c.args.self.now) (held_in c.args.others.now) c.args.carvings.list.items c.carvings.self.list.items
    c.carvings.others.list.items c.carvings.list.items c.carvings.invariant (omega (arith, c.in_default.ensures.cases.0))
