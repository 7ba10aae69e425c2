use Rattle.std.proofs.Common.{◌+◌, length, ap, refl, ◌∙◌, arith}
use Rattle.std.proofs.lemmas.List.{length_push}
use Rattle.std.proofs.lemmas.Option.{slice_get_read}
use Rattle.trace_layout.proofs.Handled.{all_spells}
use Rattle.trace_layout.proofs.hands.spells_of.Goals as goal

pub loop-number-preserved : goal.loop-number-preserved
loop-number-preserved c =
    let es = c.args.events.now in
    let at = slice_get_read es (length es) c.loop-number.number c.index-events-number.result refl (omega arith) c.index-events-number.is in
    record {
      hands = c.in_ok-place.ensures es at c.loop-number.invariant.hands;
      places = ap length c.in_ok-push.ensures.items ∙ length_push c.loop-number.places.items c.in_ok-place.place
          ∙ ap (λ n. n + 1) c.loop-number.invariant.places;
    }

pub returns : goal.returns
returns c =
    all_spells c.args.events.now c.loop-number.number c.loop-number.hands _ (omega arith) refl c.loop-number.invariant.places c.loop-number.invariant.hands
