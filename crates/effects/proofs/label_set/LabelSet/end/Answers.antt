use Rattle.std.proofs.Common.{arith}
use Rattle.effects.specs.LabelSets.{HasLabel}
use Rattle.effects.proofs.LabelSetLemmas.{bits_end}
use Rattle.effects.proofs.label_set.LabelSet.end.Goals as goal

pub returns-clause-behind : goal.returns-clause-behind
unfolding HasLabel
returns-clause-behind c = λ l h. let k = bits_end c.args.self.now.words.items l h in omega (arith, k)
