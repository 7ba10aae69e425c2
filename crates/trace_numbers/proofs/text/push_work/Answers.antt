use Rattle.std.proofs.Common.{◌++◌, List, ℕ, ap, ◌∙◌, append_assoc, codes}
use Rattle.shared_lemmas.proofs.Results.{ok_then}
use Rattle.trace_numbers.specs.Text.{parallelism}
use Rattle.trace_numbers.proofs.text.push_work.Goals as goal

pub returns : goal.returns
returns c =
    let s = c.args.summary.now in
    let last = parallelism s.steps s.span ++ codes "\n" in
    ok_then c.push_parallelism.result c.push_parallelism.ensures
    (λ more. more ∙ ap (λ (l : List ℕ). l ++ last) c.in_ok-write.ensures.bytes ∙ simp append_assoc)
