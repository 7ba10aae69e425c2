use Rattle.race_checker.specs.Translation.{race}
use Rattle.race_checker.proofs.RaceOrder.{compared_keys}
use Rattle.race_checker.proofs.race.Race.is_before.Goals as goal

pub returns : goal.returns
returns c =
    compared_keys _ _ (race c.args.self) (race c.args.other) c.lt.result c.key.ensures c.key-2.ensures c.lt.ensures
