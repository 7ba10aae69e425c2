use Rattle.std.proofs.Common.{◌≡◌, ◌≤◌, length, take}
use Rattle.types.specs.Translation.{environment}
use Rattle.task_run.specs.Jobs.{IsJob}
use Rattle.task_run.specs.declared.job.Job.{Job}
use Rattle.event_worlds.specs.Courses.{Course}
use Rattle.event_worlds.specs.NextKinds.{IsLeft}
use Rattle.event_worlds.proofs.next.kind_of_frames.Given as goal

-- the frames that were passed did nothing
abbrev pub invariant-frames : goal.invariant-frames
invariant-frames l =
    (l.left ≤ length l.fn.frames)
    × ((j : Job) (c : Course) → IsJob j → l.nest ≡ c.start.nest
    → IsLeft j c l.fn.frames (environment l.fn.environment) l.fn.flow l.steps
    → IsLeft j c (take l.left l.fn.frames) (environment l.environment) l.flow l.steps)

abbrev pub decreases-frames : goal.decreases-frames
decreases-frames l = l.left
