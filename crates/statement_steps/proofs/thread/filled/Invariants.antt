use Rattle.std.proofs.Common.{◌≡◌}
use Rattle.std.specs.Prelude.{map, pos}
use Rattle.sections.specs.Place.{nowhere}
use Rattle.types.specs.Run.{by_number}
use Rattle.sections.specs.Translation.{window}
use Rattle.statement_steps.proofs.thread.filled.Given as goal

-- so far, only the values that positions past the end have anyway were added
abbrev pub invariant-loop : goal.invariant-loop
invariant-loop l = by_number (pos 0) l.scalars.items ≡ by_number (pos 0) l.initial.scalars.items

abbrev pub invariant-loop-2 : goal.invariant-loop-2
invariant-loop-2 l = by_number nowhere (map window l.windows.items) ≡ by_number nowhere (map window l.initial.windows.items)
