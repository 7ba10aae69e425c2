use Rattle.std.proofs.Common.{List, ℕ, ap, ◌∙◌, map}
use Rattle.std.proofs.lemmas.Result.{IfOk-weaker}
use Rattle.std.specs.Str.Lines.{lines}
use Rattle.events.specs.Events.{event as event_of}
use Rattle.events.specs.declared.event.Event.{Event}
use Rattle.trace_text.specs.Table.{table_text}
use Rattle.viewing.specs.Views.{remark_at, remarked}
use Rattle.viewing.proofs.tables.table_by_line.Goals as goal

pub returns : goal.returns
returns c =
    let remarks = c.in_ok-remarks.remarks in
    IfOk-weaker c.with_remarks.result _ _ (λ told is. record {
      remark = remark_at remarks;
      told_is = is ∙ ap (λ (t : List ℕ). remarked (remark_at remarks) 0 (lines t))
          (c.as_str.ensures.value ∙ c.in_ok-table.ensures
          ∙ ap (λ (es : List Event). table_text (map event_of es)) c.deref.ensures.value);
    }) c.with_remarks.ensures
