use Rattle.std.proofs.Common.{◌∙◌, sym}
use Rattle.std.proofs.lemmas.Result.{IfOk-weaker}
use Rattle.types.specs.Translation.{array}
use Rattle.trace_page.specs.Programs.{array_json}
use Rattle.trace_page.proofs.Seen.{list_by-map}
use Rattle.trace_page.proofs.programs.arrays_value.Goals as goal

pub returns : goal.returns
returns c =
    IfOk-weaker c.list.result _ _ (λ v is. is ∙ sym (list_by-map array_json array c.args.arrays.now)) c.list.ensures
