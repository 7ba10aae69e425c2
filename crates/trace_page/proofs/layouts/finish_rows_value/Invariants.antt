use Rattle.std.proofs.Common.{◌≡◌, map, take}
use Rattle.std.specs.Prelude.{max}
use Rattle.trace_layout.specs.declared.finishes.Finish.{Finish}
use Rattle.trace_layout.specs.declared.stretch.Stretch.{Stretch}
use Rattle.trace_page.proofs.layouts.finish_rows_value.Given as goal

-- the stretches of the finishes so far
abbrev pub invariant-loop-finish : goal.invariant-loop-finish
invariant-loop-finish l = record {
  firsts : map (λ (s : Stretch). s.first) l.stretches.items ≡ map (λ (f : Finish). f.first) (take l.finish-index l.all);
  lasts : map (λ (s : Stretch). s.last) l.stretches.items
      ≡ map (λ (f : Finish). max f.first f.last) (take l.finish-index l.all);
}
