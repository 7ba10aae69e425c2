use Rattle.std.proofs.Common.{ℕ, ◌<◌}
use Rattle.std.specs.Prelude.{slice_index_or}
use Rattle.effects.proofs.needs.place_of.Given as goal

-- those so far are numbered below
abbrev pub invariant-loop-place : goal.invariant-loop-place
invariant-loop-place l =
    (k : ℕ) → k < l.place → (slice_index_or l.sections k l.section).number < l.section.number
