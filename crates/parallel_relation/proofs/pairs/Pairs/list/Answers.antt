use Rattle.std.proofs.Common.{◌^◌}
use Rattle.parallel_relation.specs.Rows.{rows_of}
use Rattle.parallel_relation.proofs.ListLemmas.{listed, labels_within}
use Rattle.parallel_relation.proofs.pairs.Pairs.list.Goals as goal

pub returns : goal.returns
returns c = let pairs = c.args.self.now in listed (2 ^ 32) pairs (labels_within (rows_of pairs.rows))
