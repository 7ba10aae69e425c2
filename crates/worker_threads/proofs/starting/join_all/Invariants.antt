use Rattle.std.proofs.Common.{◌≡◌, ◌+◌, All, OnOk, vec_len}
use Rattle.std.specs.Vec.Iter.{into_iter_len, into_iter_items}
use Rattle.worker_threads.proofs.starting.join_all.Given as goal

abbrev pub invariant-loop-handle : goal.invariant-loop-handle
invariant-loop-handle g l =
    (goal.iterator-loop-handle g).can_next l.handle-iterator ×
    (goal.iterator-loop-handle g).is_finite l.handle-iterator ×
    OnOk l.joined (vec_len l.reports + into_iter_len l.handle-iterator ≡ vec_len l.fn.reports + vec_len l.fn.handles) ×
    All (g.C.Crew.told l.crew) l.reports.items ×
    All (λ h. h.promise.0.value ≡ l.crew) (into_iter_items l.handle-iterator)
