use Rattle.std.proofs.Common.{rules, arith, ◌≡◌, ◌+◌, All, vec_len, subst, sym}
use Rattle.std.proofs.lemmas.List.Elements.{All-push, All-rest}
use Rattle.std.specs.Vec.Iter.{into_iter_len}
use Rattle.workers.specs.WorkerStates.{HasSeat}
use Rattle.workers.specs.Words.{IsFresh}
use Rattle.workers.specs.declared.worker.WorkerParts.{WorkerParts}
use Rattle.workers.proofs.opening.make_all_parts.Goals as goal

pub loop-seat-preserved : goal.loop-seat-preserved
loop-seat-preserved g c =
    let was = c.loop-seat.invariant in let step = c.in-Some.ensures.steps in
    let long : into_iter_len c.loop-seat.seat-iterator ≡ into_iter_len c.next.new.self + 1 = search rules in
    let more : vec_len c.push.new.self ≡ vec_len c.loop-seat.all_parts + 1 = search rules in
    let Fits = λ (k : WorkerParts _). HasSeat c.args.tickets.now c.args.settings.tasks k.state.seat in (
      tt,
      tt,
      All-rest (IsFresh c.args.tickets.now) c.in-Some.seat _ _ step.0 was.2,
      subst (All Fits) (sym c.in_ok-push.ensures.items) (All-push Fits c.loop-seat.all_parts.items _ was.3 c.state_at-state.ensures),
      omega (arith, was.4, long, more),
    )
