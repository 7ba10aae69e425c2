use Rattle.std.proofs.lemmas.Result.{on_ok_weaker}
use Rattle.effects.specs.LabelSets.{HasLabel}
use Rattle.parallel_relation.proofs.FoundLemmas.{found_both}
use Rattle.parallel_relation.proofs.found.FoundPairs.add_call.Goals as goal

pub returns : goal.returns
returns c =
    on_ok_weaker c.add-2.result (λ h p. found_both p c.args.self.now c.add.new.self c.add-2.new.self c.args.procedure.number
    (HasLabel c.args.everything.now) (HasLabel c.args.later.now) c.in_ok-add.ensures h) c.add-2.ensures
