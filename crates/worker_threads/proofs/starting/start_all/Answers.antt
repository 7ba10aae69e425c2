use Rattle.std.proofs.Common.{rules, ◌+◌}
use Rattle.worker_threads.proofs.starting.start_all.Goals as goal

pub loop-kit-preserved : goal.loop-kit-preserved
loop-kit-preserved g c =
    let was = c.loop-kit.invariant in let step = c.in-Some.ensures.steps in
    (tt, tt, search rules, (λ k d below. let h = was.3 (k + 1) d in grind rules), c.add.ensures.each)
