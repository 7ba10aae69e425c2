use Rattle.std.proofs.Common.{◌<◌, ◌≤◌, take}
use Rattle.std.specs.Prelude.{All}
use Rattle.trace_layout.proofs.layout.Layout.lanes.Given as goal

abbrev pub invariant-loop-spell : goal.invariant-loop-spell
invariant-loop-spell l = record {
  few : l.most ≤ 64;
  run : l.workers ≤ 64 → l.workers ≤ l.most;
  spells : All (λ s. s.worker < l.most) (take l.spell-index l.self.spells.all.items);
}

abbrev pub invariant-loop-steal : goal.invariant-loop-steal
invariant-loop-steal l = record {
  few : l.most ≤ 64;
  run : l.workers ≤ 64 → l.workers ≤ l.most;
  spells : All (λ s. s.worker < l.most) l.self.spells.all.items;
  steals : All (λ s. (s.worker < l.most) × (s.from < l.most)) (take l.steal-index l.self.moves.steals.items);
}
