use Rattle.std.proofs.Common.{◌+◌, ◌*◌, drop}
use Rattle.types.specs.Translation.{code, codes, program}
use Rattle.effects.specs.Translation.{access}
use Rattle.effects.proofs.Statements.{size, size_in}
use Rattle.witness.specs.Known.{IsFound}
use Rattle.witness.specs.Ways.{Way}
use Rattle.witness.proofs.search.+search.Given as goal

abbrev pub decreases-way_in : goal.decreases-way_in
decreases-way_in l = 4 * size (codes l.list.now)

abbrev pub decreases-way_of : goal.decreases-way_of
decreases-way_of l = 4 * size_in (code l.statement.now.kind) + 3

abbrev pub decreases-way_inside : goal.decreases-way_inside
decreases-way_inside l = 4 * size_in (code l.statement.now.kind) + 2

abbrev pub decreases-way_behind : goal.decreases-way_behind
decreases-way_behind l = 4 * size (codes l.list.now) + 1

-- the shortest from the last statements
abbrev pub invariant-way_in-loop-place : goal.invariant-way_in-loop-place
invariant-way_in-loop-place l =
    IsFound (program l.code) (access l.sought.access) l.known
    (λ way. Way (program l.code) l.sought.pending (codes (drop l.place l.list)) way (access l.sought.access)) l.best
