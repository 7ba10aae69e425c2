use Rattle.std.proofs.Common.{◌≡◌, ◌∷◌, map, take}
use Rattle.trace_layout.specs.declared.stretch.Stretch.{Stretch}
use Rattle.trace_page.specs.Births.{Born, birth, root}
use Rattle.trace_page.specs.Tasks.{last_of}
use Rattle.trace_page.proofs.tasks.task_rows_value.Given as goal

-- the stretches of the root and of the tasks so far
abbrev pub invariant-loop-birth : goal.invariant-loop-birth
invariant-loop-birth l = record {
  firsts : map (λ (s : Stretch). s.first) l.stretches.items
      ≡ map (λ (b : Born). b.at) (root ∷ map birth (take l.birth-index l.births));
  lasts : map (λ (s : Stretch). s.last) l.stretches.items
      ≡ map (last_of l.events) (root ∷ map birth (take l.birth-index l.births));
}
