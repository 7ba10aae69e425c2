use Rattle.shared_lemmas.proofs.Results.{ok_then}
use Rattle.cost.proofs.text.push_small.Goals as goal

pub returns : goal.returns
returns c = ok_then c.write.result c.write.ensures.bytes (λ more. more)
