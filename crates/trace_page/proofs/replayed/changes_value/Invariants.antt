use Rattle.std.proofs.Common.{◌≡◌, drop, map}
use Rattle.effects.specs.Rounds.{needs_of}
use Rattle.task_run.specs.Jobs.{program_of, lists_of, budget_of}
use Rattle.event_worlds.specs.Jobs.{IsWeightedJob}
use Rattle.event_worlds.specs.Replay.{replay_from, start_of}
use Rattle.event_worlds.specs.Replaying.{comes, event}
use Rattle.event_worlds.specs.Shown.{Shows}
use Rattle.event_worlds.specs.World.{World}
use Rattle.trace_page.proofs.Replays.{ToldFirst}
use Rattle.trace_page.proofs.replayed.changes_value.Given as goal

-- both tables represent a world, from which the rest of the list leads to the same result; and the values so far
abbrev pub invariant-events : goal.invariant-events
invariant-events l =
    let p = program_of l.job.job in
    let b = budget_of l.job.job in
    record {
      ok : IsWeightedJob l.job;
      job_before : l.before.job ≡ l.job;
      job_after : l.after.job ≡ l.job;
      at : World;
      shows_before : Shows l.before at;
      shows_after : Shows l.after at;
      same : comes l.job l.events
          ≡ replay_from p (needs_of p) b.steps l.job.w0 l.number (map event (drop l.number l.events)) at;
      told : ToldFirst p l.job.w0 b (start_of p l.job.w0 (lists_of l.job.job) b) l.events l.number l.all.items at;
    }
