use Rattle.std.proofs.Common.{List, string_bytes, subst}
use Rattle.events.specs.declared.event.Event.{Event}
use Rattle.trace_page.specs.Pages.{IsPage}
use Rattle.viewing.specs.Views.{traced_of}
use Rattle.viewing.proofs.drawing.page_of.Goals as goal

pub returns-in-Ok : goal.returns-in-Ok
returns-in-Ok c =
    let run = traced_of c.args.judged.now c.args.program.now c.args.text.now c.args.name.now c.args.labels.now in
    subst (λ (es : List Event). IsPage (record run { events = es }) (string_bytes c.in-Ok.page)) c.deref.ensures.value c.in-Ok.ensures.page
