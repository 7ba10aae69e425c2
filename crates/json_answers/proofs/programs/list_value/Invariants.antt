use Rattle.std.proofs.Common.{length}
use Rattle.parallel_relation.specs.Pairs.{pairs_left}
use Rattle.json_answers.specs.Programs.{pair_json}
use Rattle.json_answers.proofs.Seen.{SeenFirst}
use Rattle.json_answers.proofs.programs.list_value.Given as goal

-- the values so far represent the first pairs
abbrev pub invariant-loop-one : goal.invariant-loop-one
invariant-loop-one l = SeenFirst pair_json (pairs_left l.fn.pairs) (length l.yielded) l.list.items
