use Rattle.std.proofs.Common.{◌∙◌, ap, sym}
use Rattle.std.proofs.lemmas.Result.{IfOk-weaker}
use Rattle.trace_page.specs.Pieces.{list_by}
use Rattle.trace_page.specs.Programs.{initial_json}
use Rattle.trace_page.proofs.Seen.{list_by-map}
use Rattle.trace_page.proofs.programs.initial_value.Goals as goal

pub returns : goal.returns
returns c =
    IfOk-weaker c.list.result _ _ (λ v is. is
    ∙ ap (list_by (λ numbers. initial_json numbers.items)) c.deref.ensures.value
    ∙ sym (list_by-map initial_json (λ numbers. numbers.items) c.args.input.now.arrays.items))
    c.list.ensures
