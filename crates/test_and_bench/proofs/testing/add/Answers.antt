use Rattle.std.proofs.Common.{◌∷◌, [], ap, map, ◌∙◌}
use Rattle.std.proofs.lemmas.List.{map-append}
use Rattle.test_and_bench.specs.Trials.{judged}
use Rattle.test_and_bench.proofs.testing.add.Goals as goal

pub returns : goal.returns
returns c =
    ap (map judged) c.in_ok-push.ensures.items ∙ map-append judged c.args.found.now.items (c.args.one ∷ [])
