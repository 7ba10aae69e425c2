use Rattle.effects.specs.Rounds.{needs_of}
use Rattle.event_worlds.proofs.Reached.{passed_is_ended}
use Rattle.event_worlds.proofs.Outcomes.{passed_has_ended}
use Rattle.event_worlds.proofs.laws.passed_scopes_have_ended.Goals as goal

pub returns-clause-any : goal.returns-clause-any
returns-clause-any c w0 least does hands_on root es w leads id s there passed path =
    passed_is_ended w0 does hands_on least root es w leads id s path there passed

pub returns-clause-replayed : goal.returns-clause-replayed
returns-clause-replayed c p w0 least input b es w leads id s there passed path =
    passed_has_ended p (needs_of p) w0 least input b es w leads id s path there passed
