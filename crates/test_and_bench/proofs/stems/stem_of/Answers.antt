use Rattle.test_and_bench.proofs.Endings.{stem_stripped}
use Rattle.test_and_bench.proofs.stems.stem_of.Goals as goal

pub returns : goal.returns
returns c = stem_stripped c.args.name.now c.strip_suffix.result c.strip_suffix.ensures.cases
