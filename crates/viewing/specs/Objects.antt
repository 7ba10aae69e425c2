-- The object of the numbers of a trace.
use Rattle.std.specs.Prelude.{ℕ, ◌≡◌, List}
use Rattle.events.specs.declared.event.Event.{Event}
use Rattle.trace_numbers.specs.Summary.{IsSummary}
use Rattle.trace_numbers.specs.declared.summary.TraceSummary.{TraceSummary as SummaryOf}
use Rattle.trace_text.specs.declared.header.Header.{Header}
use Rattle.command_line.specs.Requests.{Settings}
use Rattle.files.specs.Held.{Held}
use Rattle.json_answers.specs.Pieces.{line}
use Rattle.json_answers.specs.Summaries.{summary_json}
use Rattle.viewing.specs.Views.{HasTrace}

-- this is the line of the numbers of events, in a run on so many workers
pub record IsSummaryObject (workers : ℕ) (es : List Event) (told : List ℕ) : Type 0 where
  pub numbers : SummaryOf
  pub are : IsSummary es numbers
  pub told_is : told ≡ line (summary_json workers numbers)

-- `view --summary`: the numbers of the trace
pub record ObjectOfSummary (s : Settings) (held : Held) (text told : List ℕ) (status : ℕ) : Type 0 where
  pub header : Header
  pub events : List Event
  pub trace : HasTrace s held text header events
  pub tells : IsSummaryObject header.workers events told
  pub status_is : status ≡ 0
