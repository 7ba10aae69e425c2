use Rattle.commands.proofs.Refused.{least_of_back, race_kept}
use Rattle.commands.proofs.programs.accepted_of.Goals as goal

pub new-requires : goal.new-requires
new-requires g c =
    least_of_back c.in_ok-typed.typed c.in-Err-Race.typed c.in-Err-Race.race c.in-Err-Race.field-0 c.check.result
    c.in-Err-Race.is c.in-Err-Race.field-0-is c.check.ensures.refused

pub returns-in-Err-Race-clause-why : goal.returns-in-Err-Race-clause-why
returns-in-Err-Race-clause-why g c =
    race_kept c.in_ok-typed.typed c.in-Err-Race.typed c.in-Err-Race.race c.in-Err-Race.field-0 c.check.result
    c.in-Err-Race.is c.in-Err-Race.field-0-is c.args.text.now c.new.result c.in_ok-typed.ensures.code
    c.new.ensures.typed c.new.ensures.race c.check.ensures.refused
