use Rattle.std.proofs.Common.{map, take}
use Rattle.task_run.specs.Lists.{Each}
use Rattle.event_worlds.specs.Shown.{turns_of}
use Rattle.event_worlds.specs.Walks.{IsAsBefore, IsIdle}
use Rattle.event_worlds.proofs.walk.Walk.anywhere.Given as goal

-- none of the tasks so far has a legal event
abbrev pub invariant-paths : goal.invariant-paths
invariant-paths l = record {
  before : IsAsBefore l.fn.self l.self;
  none : Each (IsIdle l.fn.self.world 0) (map turns_of (take l.path-index l.path-items));
}
