use Rattle.std.proofs.Common.{◌≡◌, ◌++◌, List, map, vec_len}
use Rattle.task_run.specs.Lists.{Each}
use Rattle.event_worlds.specs.Replaying.{event}
use Rattle.event_worlds.specs.Walks.{IsAsBefore, IsIllegal}
use Rattle.events.specs.declared.event.Event.{Event}
use Rattle.event_worlds.proofs.walk.Walk.one_of.Given as goal

-- none of the events so far is legal
abbrev pub invariant-events : goal.invariant-events
invariant-events l = record {
  before : IsAsBefore l.fn.self l.self;
  tried : List Event;
  are : l.fn.events.items ≡ l.events.items ++ tried;
  none : Each (IsIllegal l.fn.self.world) (map event tried);
}

abbrev pub decreases-events : goal.decreases-events
decreases-events l = vec_len l.events
