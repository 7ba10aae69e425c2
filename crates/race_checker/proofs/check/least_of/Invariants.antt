use Rattle.std.proofs.Common.{◌≡◌, fold, map, take}
use Rattle.std.specs.Prelude.{None}
use Rattle.race_checker.specs.Search.{lesser_of}
use Rattle.race_checker.specs.Translation.{found}
use Rattle.race_checker.proofs.check.least_of.Given as goal

-- the least race so far
abbrev pub invariant-loop-race : goal.invariant-loop-race
invariant-loop-race l = found l.least ≡ fold lesser_of None (map found (take l.race-index l.races))
