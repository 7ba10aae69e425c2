use Rattle.std.proofs.Common.{◌≡◌, take}
use Rattle.std.specs.Prelude.{map}
use Rattle.types.specs.Run.{window_at}
use Rattle.sections.specs.Translation.{section, window}
use Rattle.statement_steps.specs.Standing.{state_by}
use Rattle.statement_steps.proofs.thread.Thread.entry.Given as goal

-- the windows so far are those of the first sections
abbrev pub invariant-loop-section : goal.invariant-loop-section
invariant-loop-section g l = map window l.windows.items ≡ map (window_at (state_by g.S.Memory.contents l.self)) (map section (take l.section-index l.sections))
