use Rattle.std.proofs.Common.{refl}
use Rattle.event_worlds.specs.Replaying.{event}
use Rattle.event_worlds.proofs.Walking.{happened, did_not_happen, was_illegal}
use Rattle.event_worlds.proofs.walk.Walk.happens.Goals as goal

pub returns-in-Ok-clause-happened : goal.returns-in-Ok-clause-happened
returns-in-Ok-clause-happened c =
    happened _ _ c.args.event c.requires c.event.ensures.job c.in-Ok.ensures.legal c.in_ok-push-in-Ok.ensures.items

pub returns-in-Err-Illegal-clause-happened : goal.returns-in-Err-Illegal-clause-happened
returns-in-Err-Illegal-clause-happened c =
    did_not_happen _ _ c.args.event c.requires c.event.ensures.job c.in-Err-Illegal.field-0 c.in-Err-Illegal.field-0-is
    c.in-Err-Illegal.ensures.refused refl

pub returns-in-Err-Illegal-clause-illegal : goal.returns-in-Err-Illegal-clause-illegal
returns-in-Err-Illegal-clause-illegal c e =
    was_illegal _ _ (event c.args.event) c.in-Err-Illegal.field-0 c.in-Err-Illegal.field-0-is c.in-Err-Illegal.ensures.refused
