use Rattle.std.proofs.Common.{◌≡◌, ◌++◌, map, drop}
use Rattle.sections.specs.Translation.{section}
use Rattle.effects.specs.Flows.{flows_of_sections}
use Rattle.effects.specs.Roots.{root_in}
use Rattle.effects.proofs.flows.Call.flow_sections.Given as goal

-- with those of the remaining sections, all are there
abbrev pub invariant-loop-number : goal.invariant-loop-number
invariant-loop-number l =
    l.into.items ++ flows_of_sections l.self.caller (root_in l.roots) l.self.standing l.self.callee l.number (map section (drop l.number l.sections))
    ≡ l.initial.into.items ++ flows_of_sections l.self.caller (root_in l.roots) l.self.standing l.self.callee 0 (map section l.sections)
