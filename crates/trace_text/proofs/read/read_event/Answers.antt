use Rattle.std.proofs.Common.{◌≡◌, ◌++◌, List, ℕ, ap, sym, ◌∙◌}
use Rattle.std.specs.Prelude.{option_map}
use Rattle.events.specs.Events.{event}
use Rattle.trace_text.specs.Lines.{event_line, event_object}
use Rattle.trace_text.specs.Spelled.{IsSpelled}
use Rattle.trace_text.proofs.Found.{if_let_go, misspelled, not_told}
use Rattle.trace_text.proofs.read.read_event.Goals as goal

pub returns-in_default-clause-other : goal.returns-in_default-clause-other
returns-in_default-clause-other c =
    not_told (IsSpelled c.args.format) event_object c.args.line.now _ c.in_ok-event.ensures.told
    (ap (option_map event) c.in_default.is)

pub returns-clause-other : goal.returns-clause-other
returns-clause-other c =
    let found = event c.in-Some.event in
    let again : c.as_str.result.now ≡ event_line found =
    c.as_str.ensures.value ∙ c.in_ok-push_event.ensures ∙ ap (λ (l : List ℕ). l ++ event_line found) c.clear.ensures.bytes in
    if_let_go c.is_line-same.result c.in-Some.event c.then_some.result c.then_some.ensures
    (misspelled (IsSpelled c.args.format) event_object c.args.line.now _ c.in_ok-event.ensures.told
    found c.is_line-same.result (ap (option_map event) c.in-Some.is)
    (λ same. c.is_line-same.ensures.1 (same ∙ sym again)))
