use Rattle.std.proofs.Common.{arith}
use Rattle.effects.specs.UseSets.{HasUse}
use Rattle.effects.proofs.UseLemmas.{stands_within}
use Rattle.effects.proofs.uses.Uses.end.Goals as goal

pub returns : goal.returns
unfolding HasUse
returns c = λ s l h. let k = stands_within c.args.self.now.sets.items s l h in omega (arith, k)
