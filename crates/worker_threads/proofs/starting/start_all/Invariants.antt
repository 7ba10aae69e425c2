use Rattle.std.proofs.Common.{◌≡◌, ◌+◌, All, vec_len}
use Rattle.std.specs.Vec.Iter.{into_iter_len, into_iter_items}
use Rattle.worker_threads.proofs.starting.start_all.Given as goal

abbrev pub invariant-loop-kit : goal.invariant-loop-kit
invariant-loop-kit g l =
    (goal.iterator-loop-kit g).can_next l.kit-iterator ×
    (goal.iterator-loop-kit g).is_finite l.kit-iterator ×
    (vec_len l.handles + into_iter_len l.kit-iterator ≡ vec_len l.fn.kits) ×
    All (g.C.Crew.fits l.crew) (into_iter_items l.kit-iterator) ×
    All (λ h. h.promise.0.value ≡ l.crew) l.handles.items
