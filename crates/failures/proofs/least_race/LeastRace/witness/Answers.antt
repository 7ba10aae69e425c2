use Rattle.types.specs.Typed.{code_of}
use Rattle.race_checker.specs.Translation.{race}
use Rattle.failures.proofs.LeastRaces.{is_found}
use Rattle.failures.proofs.least_race.LeastRace.witness.Goals as goal

pub unreachable-requires : goal.unreachable-requires
unreachable-requires c =
    is_found (code_of c.args.self.now.typed) (race c.args.self.now.race) c.in_ok-witness.field-0 c.args.self.now.least
    c.in_ok-witness.ensures.found c.in-None.is
