use Rattle.std.proofs.Common.{◌≡◌, fold, map, take}
use Rattle.sections.specs.Tree.{origins_of}
use Rattle.effects.specs.Translation.{access}
use Rattle.race_checker.specs.Search.{tell}
use Rattle.race_checker.specs.Translation.{found}
use Rattle.race_checker.proofs.search.least_clash_with.Given as goal

abbrev pub invariant-loop-other : goal.invariant-loop-other
invariant-loop-other l =
    found l.race
    ≡ fold (tell (origins_of l.sections) l.fn.procedure.number) (found l.fn.before)
    (map (λ y. (access l.fn.access, y)) (map access (take l.other-index l.later)))
