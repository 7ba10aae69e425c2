use Rattle.std.proofs.Common.{◌<◌, length, arith, rules}
use Rattle.std.proofs.lemmas.List.{length-map}
use Rattle.types.specs.Translation.{program}
use Rattle.effects.specs.LabelSets.{HasLabel}
use Rattle.parallel_relation.proofs.LabelsLemmas.{gains_callee}
use Rattle.parallel_relation.proofs.labels.add_labels_of_call.Goals as goal

pub returns : goal.returns
returns c =
    let p = program c.args.code.now in
    let f = c.args.procedure.number in
    let within : f < length p.procedures = first_of (search (rules, length-map), grind (arith, length-map)) in
    gains_callee p f (HasLabel c.args.set.now) (HasLabel c.of.result.now.labels) (HasLabel c.unite.new.self) within
    c.in_ok-unite.ensures.both (c.of.ensures.exact p c.requires).labels
