use Rattle.std.proofs.Common.{List, subst}
use Rattle.std.proofs.lemmas.Result.{IfOk-weaker}
use Rattle.events.specs.declared.event.Event.{Event}
use Rattle.trace_numbers.specs.Summary.{IsSummary}
use Rattle.viewing.proofs.objects.object_of.Goals as goal

pub returns : goal.returns
returns c =
    let numbers = c.in_ok-numbers.numbers in
    IfOk-weaker c.summary_object.result _ _ (λ told is. record {
      numbers = numbers;
      are = subst (λ (es : List Event). IsSummary es numbers) c.deref.ensures.value c.in_ok-numbers.ensures;
      told_is = is;
    }) c.summary_object.ensures.text
