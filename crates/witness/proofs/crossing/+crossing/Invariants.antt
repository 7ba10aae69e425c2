use Rattle.std.proofs.Common.{◌+◌, ◌*◌, drop, length}
use Rattle.std.specs.Prelude.{false}
use Rattle.types.specs.Translation.{code, codes, program}
use Rattle.effects.specs.Translation.{access}
use Rattle.effects.proofs.Statements.{size, size_in}
use Rattle.witness.specs.Crossed.{MeetIn, both, crossed}
use Rattle.witness.specs.Known.{steps}
use Rattle.witness.specs.Least.{IsLeast, all_covered}
use Rattle.witness.specs.Ways.{Way}
use Rattle.witness.proofs.crossing.+crossing.Given as goal

abbrev pub decreases-crossing_in : goal.decreases-crossing_in
decreases-crossing_in l = 2 * size (codes l.list.now)

abbrev pub decreases-crossing_of : goal.decreases-crossing_of
decreases-crossing_of l = 2 * size_in (code l.statement.now.kind) + 1

-- the shortest from the last statements
abbrev pub invariant-crossing_in-loop-place : goal.invariant-crossing_in-loop-place
invariant-crossing_in-loop-place l = record {
  best : IsLeast both all_covered (MeetIn (program l.pairing.code.now) (codes (drop l.place l.list)) (access l.pairing.first.now.access) (access l.pairing.second.now.access)) (crossed l.best);
  behind : IsLeast length all_covered (λ way. Way (program l.pairing.code.now) false (codes (drop l.place l.list)) way (access l.pairing.second.now.access)) (steps l.behind);
}
