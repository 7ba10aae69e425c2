use Rattle.std.proofs.Common.{refl}
use Rattle.viewing.proofs.objects.summary_told.Goals as goal

pub returns-in-Ok-clause-object : goal.returns-in-Ok-clause-object
returns-in-Ok-clause-object g c =
    let trace = c.in_ok-judged.judged.trace in
    record {
      header = trace.header;
      events = trace.events.items;
      trace = c.in_ok-judged.ensures.judged.trace;
      tells = c.in-Ok.ensures;
      status_is = refl;
    }
