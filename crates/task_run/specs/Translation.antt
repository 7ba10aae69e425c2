-- The Rust types as plain records, without their locations in memory.
use Rattle.std.specs.Prelude.{map, is_some}
use Rattle.sections.specs.Translation.{window}
use Rattle.types.specs.Contents.{Contents}
use Rattle.types.specs.Translation.{codes, environment, fault}
use Rattle.holdings.specs.Held.{numbers, owned}
use Rattle.holdings.specs.Holdings.{held}
use Rattle.holdings.specs.declared.holdings.Holdings.{Holdings}
use Rattle.task_run.specs.Places.{Places}
use Rattle.task_run.specs.OwnRun.{Start}
use Rattle.task_run.specs.Results.{Listed, TaskResult, Settled}
use Rattle.task_run.specs.declared.result.Listed.{Listed as rListed}
use Rattle.task_run.specs.declared.result.TaskResult.{TaskResult as rTaskResult}
use Rattle.task_run.specs.declared.result.Settled.{Settled as rSettled}
use Rattle.task_run.specs.declared.start.Start.{Start as rStart}

-- the numbers that are held, owned or copied
abbrev pub contents_of : Holdings → Contents
contents_of h = numbers (held h)

-- the places that are owned
abbrev pub owned_by : Holdings → Places
owned_by h q = is_some (owned (held h) q)

-- what is known of a task that was spawned
abbrev pub listed : rListed → Listed
listed c = record {
  path = c.path.turns.items;
  windows = map window c.windows.items;
  lines = map (λ v. v.items) c.lines.items;
  faults = map fault c.faults.items;
}

-- what a task has at its end
abbrev pub task_result : rTaskResult → TaskResult
task_result r = record {
  path = r.path.turns.items;
  stopped = r.stopped;
  contents = contents_of r.holdings;
  owned = owned_by r.holdings;
  lines = map (λ v. v.items) r.lines.items;
  faults = map fault r.faults.items;
  children = map listed r.children.items;
}

-- the settled result of a task
abbrev pub settled : rSettled → Settled
settled s = record {
  stopped = s.stopped;
  contents = contents_of s.holdings;
  lines = map (λ v. v.items) s.lines.items;
  faults = map fault s.faults.items;
}

-- what a task starts with
abbrev pub start : rStart → Start
start s = record {
  body = codes s.body.now;
  environment = environment s.environment;
  contents = contents_of s.holdings;
  owned = owned_by s.holdings;
  nest = s.nest;
  path = s.path.turns.items;
}
