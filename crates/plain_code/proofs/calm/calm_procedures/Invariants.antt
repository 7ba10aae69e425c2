use Rattle.std.proofs.Common.{◌≡◌, length}
use Rattle.types.specs.Translation.{program}
use Rattle.plain_code.specs.Calm.{AreMarked, calm_count}
use Rattle.plain_code.proofs.calm.calm_procedures.Given as goal

abbrev pub invariant-rounds : goal.invariant-rounds
invariant-rounds l = record {
  count : length l.calm.items ≡ length l.program.procedures.items;
  marked : AreMarked (program l.program) l.calm.items;
}

abbrev pub decreases-rounds : goal.decreases-rounds
decreases-rounds l = calm_count l.calm.items
