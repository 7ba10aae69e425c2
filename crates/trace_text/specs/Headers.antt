-- The settings of a run, in the first line of a trace.
use Rattle.std.specs.Prelude.{ℕ, ◌≤◌}
use Rattle.trace_text.specs.declared.format.Format.{Format}
use Rattle.trace_text.specs.declared.format.Format.TheVariants.{One, Two}
use Rattle.trace_text.specs.declared.header.Header.{Header}

-- the number of a format
abbrev pub format_number : Format → ℕ
format_number One = 1
format_number Two = 2

pub record TraceHeader : Type 0 where
  pub format : Format
  pub steps : ℕ
  pub nest : ℕ
  pub w0 : ℕ
  pub workers : ℕ

-- each number is in its range
pub record IsHeader (h : TraceHeader) : Type 0 where
  pub some_steps : 1 ≤ h.steps
  pub most_steps : h.steps ≤ 1000000000
  pub most_nest : h.nest ≤ 1000
  pub some_weight : 1 ≤ h.w0
  pub most_weight : h.w0 ≤ 4294967296
  pub some_workers : 1 ≤ h.workers
  pub most_workers : h.workers ≤ 64

abbrev pub header_of : Header → TraceHeader
header_of h = record {
  format = h.format;
  steps = h.budget.steps;
  nest = h.budget.nest;
  w0 = h.w0;
  workers = h.workers;
}
