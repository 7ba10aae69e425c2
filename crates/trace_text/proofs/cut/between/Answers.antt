use Rattle.std.proofs.Common.{◌++◌, ◌∷◌, Some}
use Rattle.trace_text.proofs.Cuts.{cut_given, front_stripped}
use Rattle.trace_text.proofs.cut.between.Goals as goal

pub returns : goal.returns
returns c = λ piece behind lacks same.
    let mark = c.args.mark in
    let left = front_stripped c.args.front.now c.args.text.now (Some c.in_ok-strip_prefix.field-0)
    c.in_ok-strip_prefix.ensures.cases (piece ++ (mark ∷ behind)) same in
    cut_given mark c.in_ok-strip_prefix.field-0.now c.cut_at.result c.cut_at.ensures piece behind lacks left
