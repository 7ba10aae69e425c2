use Rattle.std.proofs.Common.{ap, ◌∙◌, sym, map, length, ℕ}
use Rattle.std.proofs.lemmas.List.{length-map}
use Rattle.std.proofs.lemmas.Result.{IfOk-weaker}
use Rattle.types.specs.Translation.{procedure}
use Rattle.printing.specs.Labels.{accepted_by}
use Rattle.printing.proofs.labels.accepted_line.Goals as goal

pub returns : goal.returns
returns c =
    let all = c.args.code.now.procedures.items in
    let numbers =
    ap (λ (n : ℕ). accepted_by n c.in-Some.labels)
    (c.len-procedures.ensures ∙ c.args.code.now.procedures.ok.0 ∙ sym (length-map all procedure))
    ∙ ap (accepted_by (length (map procedure all))) c.in-Some.ensures in
    IfOk-weaker c.format.result _ _ (λ text told. told ∙ numbers) c.format.ensures.ok
