use Rattle.std.proofs.Common.{◌≡◌, None, fold, map, take}
use Rattle.sections.specs.Tree.{origins_of}
use Rattle.effects.specs.Translation.{access}
use Rattle.race_checker.specs.Search.{tell, each_with}
use Rattle.race_checker.specs.Translation.{found}
use Rattle.race_checker.proofs.search.least_clash.Given as goal

abbrev pub invariant-loop-access : goal.invariant-loop-access
invariant-loop-access l =
    found l.race
    ≡ fold (tell (origins_of l.sections) l.fn.procedure.number) None
    (each_with (map access (take l.access-index l.pending)) (map access l.later))
