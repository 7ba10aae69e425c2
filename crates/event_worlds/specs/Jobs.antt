-- The parameters of a world, as the definitions have them.
use Rattle.std.specs.Prelude.{◌≤◌}
use Rattle.task_run.specs.Jobs.{IsJob}
use Rattle.event_worlds.specs.declared.job.WeightedJob.{WeightedJob}

-- the job is right, and at least weight 1 is issued
pub record IsWeightedJob (j : WeightedJob) : Type 0 where
  pub job : IsJob j.job
  pub least : 1 ≤ j.w0
  pub most : j.w0 ≤ 4294967296
