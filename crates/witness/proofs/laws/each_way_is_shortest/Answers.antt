use Rattle.std.proofs.Common.{arith}
use Rattle.witness.proofs.laws.each_way_is_shortest.Goals as goal

pub returns-clause-pending : goal.returns-clause-pending
returns-clause-pending c = λ p r w way s m.
    let fewer = s.fewest w.first_pends w.meeting way w.later.items m in omega (arith, fewer)

pub returns-clause-later : goal.returns-clause-later
returns-clause-later c = λ p r w way s m.
    let fewer = s.fewest w.first_pends w.meeting w.pending.items way m in omega (arith, fewer)
