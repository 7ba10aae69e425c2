use Rattle.std.proofs.lemmas.Result.{on_ok_weaker}
use Rattle.effects.specs.LabelSets.{HasLabel}
use Rattle.parallel_relation.specs.Around.{at}
use Rattle.parallel_relation.proofs.FoundLemmas.{found_label}
use Rattle.parallel_relation.proofs.found.FoundPairs.add_label.Goals as goal

pub returns : goal.returns
returns c =
    on_ok_weaker c.add.result (λ h p. found_label p c.args.self.now c.add.new.self (at c.args.label (HasLabel c.args.those.now)) h) c.add.ensures
