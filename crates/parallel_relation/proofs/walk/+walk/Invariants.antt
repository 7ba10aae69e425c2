use Rattle.std.proofs.Common.{◌+◌, ◌*◌, drop}
use Rattle.types.specs.Translation.{program, code, codes}
use Rattle.effects.specs.Effects.{labels, All}
use Rattle.effects.specs.LabelSets.{HasLabel}
use Rattle.parallel_relation.specs.Around.{Adds, Gains, BlockMeets}
use Rattle.parallel_relation.specs.Found.{FoundMeets}
use Rattle.effects.proofs.Statements.{size, size_in}
use Rattle.parallel_relation.proofs.walk.+walk.Given as goal

-- the pairs of the later statements are found
abbrev pub invariant-walk-loop-k : goal.invariant-walk-loop-k
invariant-walk-loop-k l =
    let p = program l.guide.code.now in
    let done = codes (drop l.k l.block) in
    record {
      behind : Gains (HasLabel l.later) (All p labels done) (HasLabel l.behind);
      found : Adds (FoundMeets p l.initial.found) (BlockMeets p (HasLabel l.everything) (HasLabel l.later) done)
          (FoundMeets p l.found);
    }

abbrev pub decreases-walk : goal.decreases-walk
decreases-walk l = 2 * size (codes l.block.now)

abbrev pub decreases-walk_inside : goal.decreases-walk_inside
decreases-walk_inside l = 2 * size_in (code l.statement.now.kind) + 1
