use Rattle.std.proofs.Common.{◌∙◌, append_assoc}
use Rattle.shared_lemmas.proofs.Results.{ok_then}
use Rattle.cost.proofs.text.push_steps.Goals as goal

pub returns : goal.returns
returns c =
    ok_then c.push_parallelism.result c.push_parallelism.ensures (λ more. more ∙ rw c.in_ok-push_str.ensures.bytes (simp append_assoc))
