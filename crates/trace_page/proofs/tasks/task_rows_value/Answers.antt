use Rattle.std.proofs.Common.{◌∙◌, ◌∷◌, List, ap, map, take_all}
use Rattle.std.proofs.lemmas.Result.{IfOk-weaker}
use Rattle.trace_layout.specs.Rows.{rows_of}
use Rattle.trace_layout.specs.declared.stretch.Stretch.{Stretch}
use Rattle.trace_page.specs.Births.{Born, birth, root}
use Rattle.trace_page.specs.Pieces.{list_by, natural}
use Rattle.trace_page.specs.Tasks.{last_of}
use Rattle.trace_page.specs.declared.births.Birth.{Birth}
use Rattle.trace_page.proofs.tasks.task_rows_value.Goals as goal

pub returns : goal.returns
returns c =
    let all = take_all c.loop-birth.birth-index c.args.births.now c.loop-birth-test.false in
    IfOk-weaker c.rows_value.result _ _ (λ v is. record {
      stretches = c.loop-birth.stretches.items;
      firsts = c.loop-birth.invariant.firsts ∙ ap (λ (bs : List Birth). map (λ (b : Born). b.at) (root ∷ map birth bs)) all;
      lasts = c.loop-birth.invariant.lasts ∙ ap (λ (bs : List Birth). map (last_of c.args.events.now) (root ∷ map birth bs)) all;
      rows = is ∙ ap (λ (ss : List Stretch). list_by natural (rows_of ss)) c.deref.ensures.value;
    }) c.rows_value.ensures
