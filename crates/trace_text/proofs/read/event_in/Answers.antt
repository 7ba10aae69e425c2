use Rattle.std.proofs.Common.{sym, ◌∙◌}
use Rattle.shared_lemmas.proofs.Results.{if_ok_then}
use Rattle.trace_text.specs.Fields.{fields}
use Rattle.trace_text.specs.Kinds.{kind_name, kind_of}
use Rattle.trace_text.proofs.Arms.{kind_then_quote, same_kind, text_of_event}
use Rattle.trace_text.proofs.read.event_in.Goals as goal

pub returns-in_default-clause-told : goal.returns-in_default-clause-told
returns-in_default-clause-told c = λ e h same.
    absurd (c.in_default.ensures (kind_name (kind_of e)) (fields e) (kind_then_quote (kind_of e)) (same ∙ text_of_event e))

pub returns-in_default-named-clause-told : goal.returns-in_default-named-clause-told
returns-in_default-named-clause-told c = λ e h same.
    let cut = c.in-Some.ensures (kind_name (kind_of e)) (fields e) (kind_then_quote (kind_of e)) (same ∙ text_of_event e) in
    absurd (c.in_default-named.ensures (kind_of e) cut.0)

pub returns-clause-told : goal.returns-clause-told
returns-clause-told c =
    if_ok_then c.event_behind.result c.event_behind.ensures.told (λ o found e h same.
    let cut = c.in-Some.ensures (kind_name (kind_of e)) (fields e) (kind_then_quote (kind_of e)) (same ∙ text_of_event e) in
    found e h (same_kind c.in-Some-named.kind (kind_of e) (sym c.in-Some-named.ensures ∙ cut.0)) cut.1)
