use Rattle.std.proofs.Common.{◌≤◌, ◌+◌, ◌*◌, drop}
use Rattle.types.specs.Translation.{program, code, codes}
use Rattle.effects.specs.Effects.{labels, All}
use Rattle.effects.specs.LabelSets.{HasLabel}
use Rattle.parallel_relation.specs.Around.{Gains, both}
use Rattle.effects.proofs.Statements.{size, size_in}
use Rattle.parallel_relation.proofs.labels.+labels.Given as goal

-- with those of the remaining statements, all are there
abbrev pub invariant-add_labels-loop-statement : goal.invariant-add_labels-loop-statement
invariant-add_labels-loop-statement l =
    let left = codes (drop l.statement-index l.block) in
    record {
      small : size left ≤ size (codes l.block);
      all : Gains (HasLabel l.set) (All (program l.code) labels left)
          (both (HasLabel l.initial.set) (All (program l.code) labels (codes l.block)));
    }

abbrev pub decreases-add_labels : goal.decreases-add_labels
decreases-add_labels l = 2 * size (codes l.block.now)

abbrev pub decreases-add_labels_of : goal.decreases-add_labels_of
decreases-add_labels_of l = 2 * size_in (code l.statement.now.kind) + 1
