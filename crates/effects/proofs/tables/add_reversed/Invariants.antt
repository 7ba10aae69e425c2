use Rattle.std.proofs.Common.{◌≤◌, vec_len}
use Rattle.std.specs.Prelude.{◌↔◌}
use Rattle.sections.specs.Member.{Member}
use Rattle.effects.specs.declared.flows.CallFlow.{CallFlow}
use Rattle.effects.proofs.tables.add_reversed.Given as goal

-- no flow is new, and none is removed
abbrev pub invariant-loop-place : goal.invariant-loop-place
invariant-loop-place l = record {
  same : (x : CallFlow) → Member x l.flows.items ↔ Member x l.initial.flows.items;
  longer : vec_len l.initial.flows ≤ vec_len l.flows;
}
