use Rattle.effects.specs.Effects.{accesses}
use Rattle.parallel_relation.proofs.MeetingsExact.{together_added, added_together}
use Rattle.parallel_relation.proofs.laws.statements_add_the_pairs.Goals as goal

pub returns : goal.returns
returns c = λ p b x y. (
  λ h. let r = together_added p accesses h in (r.label, r.pair),
  λ h. added_together p accesses h.1,
)
