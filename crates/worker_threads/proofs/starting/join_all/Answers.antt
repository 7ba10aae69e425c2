use Rattle.std.proofs.Common.{rules, ◌+◌}
use Rattle.worker_threads.proofs.starting.join_all.Goals as goal

pub loop-handle-preserved-then-not-keep : goal.loop-handle-preserved-then-not-keep
loop-handle-preserved-then-not-keep g c =
    let was = c.loop-handle.invariant in let step = c.in-Some.ensures.steps in
    (tt, tt, tt, c.keep.ensures.told, λ k d below. let h = was.4 (k + 1) d in grind rules)

pub loop-handle-preserved : goal.loop-handle-preserved
loop-handle-preserved g c =
    let was = c.loop-handle.invariant in let step = c.in-Some.ensures.steps in
    (tt, tt, search rules, c.keep.ensures.told, λ k d below. let h = was.4 (k + 1) d in grind rules)
