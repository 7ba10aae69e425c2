use Rattle.effects.specs.Rounds.{needs_of}
use Rattle.event_worlds.proofs.Outcomes.{starts_are_given, results_are_own, results_come_once, results_are_handed}
use Rattle.event_worlds.proofs.There.{root_has_all}
use Rattle.event_worlds.proofs.laws.tasks_of_a_world_are_own_runs.Goals as goal

pub returns : goal.returns
returns c = record {
  starts = λ p. starts_are_given p (needs_of p);
  results = λ p. results_are_own p (needs_of p);
  once = λ p w0 least input b es w leads id s there. (results_come_once p (needs_of p) w0 least input b es w leads id s there).0;
  ended = λ p w0 least input b es w leads id s there. (results_come_once p (needs_of p) w0 least input b es w leads id s there).1;
  direct = λ p w0 least input b es w leads id s there. (results_are_handed p (needs_of p) w0 least input b es w leads id s there).0;
  kept = λ p w0 least input b es w leads id s there. (results_are_handed p (needs_of p) w0 least input b es w leads id s there).1;
  all = λ p. root_has_all p (needs_of p);
}
