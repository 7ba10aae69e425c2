use Rattle.std.proofs.Common.{◌≡◌, drop, map}
use Rattle.effects.specs.Rounds.{lists}
use Rattle.effects.specs.Translation.{access}
use Rattle.witness.proofs.own.has.Given as goal

-- the access is among those that remain exactly if it is among all
abbrev pub invariant-loop-other : goal.invariant-loop-other
invariant-loop-other l =
    lists (map access (drop l.other-index l.accesses)) (access l.access) ≡ lists (map access l.accesses) (access l.access)
