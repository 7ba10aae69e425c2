use Rattle.std.proofs.Common.{◌≡◌, ℕ, vec_len}
use Rattle.std.specs.Prelude.{◌↔◌}
use Rattle.effects.specs.UseSets.{HasUse}
use Rattle.effects.proofs.uses.Uses.reserve.Given as goal

-- only empty sets were put in so far
abbrev pub invariant-loop : goal.invariant-loop
invariant-loop l = record {
  same : (s k : ℕ) → HasUse l.self s k ↔ HasUse l.initial.self s k;
  length : vec_len l.self.sets ≡ l.counter;
}
