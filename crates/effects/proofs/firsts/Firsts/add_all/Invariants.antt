use Rattle.std.proofs.Common.{take, map, ◌++◌}
use Rattle.effects.specs.Firsts.{AreFirstsIn, kept_in}
use Rattle.effects.specs.Translation.{access}
use Rattle.effects.proofs.firsts.Firsts.add_all.Given as goal

-- what is kept are the firsts of what was kept and the others so far
abbrev pub invariant-loop-other : goal.invariant-loop-other
invariant-loop-other l =
    AreFirstsIn (map access (take l.other-index l.others) ++ kept_in l.fn.self) (kept_in l.self)
