use Rattle.std.proofs.Common.{◌∙◌, List, ap, map, take_all}
use Rattle.std.specs.Prelude.{max}
use Rattle.std.proofs.lemmas.Result.{IfOk-weaker}
use Rattle.trace_layout.specs.Rows.{rows_of}
use Rattle.trace_layout.specs.declared.finishes.Finish.{Finish}
use Rattle.trace_layout.specs.declared.stretch.Stretch.{Stretch}
use Rattle.trace_page.specs.Pieces.{list_by, natural}
use Rattle.trace_page.proofs.layouts.finish_rows_value.Goals as goal

pub returns : goal.returns
returns c =
    let all = take_all c.loop-finish.finish-index c.args.all.now c.loop-finish-test.false in
    IfOk-weaker c.rows_value.result _ _ (λ v is. record {
      stretches = c.loop-finish.stretches.items;
      firsts = c.loop-finish.invariant.firsts ∙ ap (map (λ (f : Finish). f.first)) all;
      lasts = c.loop-finish.invariant.lasts ∙ ap (map (λ (f : Finish). max f.first f.last)) all;
      rows = is ∙ ap (λ (ss : List Stretch). list_by natural (rows_of ss)) c.deref.ensures.value;
    }) c.rows_value.ensures
