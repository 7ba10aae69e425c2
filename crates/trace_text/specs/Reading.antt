-- Which text is a trace, and which line of another text is the first wrong one.
use Rattle.std.specs.Prelude.{ℕ, ◌≡◌, ◌≢◌, ◌+◌, ◌⊎◌, List, [], ◌++◌, length, All, codes}
use Rattle.std.specs.Fmt.{decimal}
use Rattle.std.specs.List.{flat_map}
use Rattle.events.specs.Events.{Event}
use Rattle.trace_text.specs.Headers.{TraceHeader, IsHeader}
use Rattle.trace_text.specs.Lines.{event_line, header_line, trace_text}
use Rattle.trace_text.specs.Spelled.{IsSpelled}
use Rattle.trace_text.specs.declared.format.Format.{Format}
use Rattle.trace_text.specs.declared.error.TraceError.{TraceError}
use Rattle.trace_text.specs.declared.error.TraceError.TheVariants.{NotALine, NoMemory}

-- a text is the lines of events, in a format
pub record AreEvents (f : Format) (es : List Event) (text : List ℕ) : Type 0 where
  pub spelled : All (IsSpelled f) es
  pub lines : text ≡ flat_map event_line es

-- a text is the lines of a header and of events
pub record IsTrace (h : TraceHeader) (es : List Event) (text : List ℕ) : Type 0 where
  pub fits : IsHeader h
  pub spelled : All (IsSpelled h.format) es
  pub lines : text ≡ trace_text h es

-- a text is the trace of at most one header and one list of events
abbrev pub SpellsOneTrace : Type 0
SpellsOneTrace =
    (text : List ℕ) (h g : TraceHeader) (es fs : List Event) → IsTrace h es text → IsTrace g fs text
    → (h ≡ g) × (es ≡ fs)

-- a text starts with a header's line
pub record BeginsWithHeader (text : List ℕ) : Type 0 where
  pub header : TraceHeader
  pub behind : List ℕ
  pub fits : IsHeader header
  pub parts : text ≡ header_line header ++ behind

-- a text starts with an event's line, in a format
pub record BeginsWithEvent (f : Format) (text : List ℕ) : Type 0 where
  pub event : Event
  pub behind : List ℕ
  pub spelled : IsSpelled f event
  pub parts : text ≡ event_line event ++ behind

-- there is more text after the lines of events, and it doesn't start with an event's line; n is the number
-- of its first line, if the lines of events are counted from 2
pub record IsBadEvent (f : Format) (n : ℕ) (text : List ℕ) : Type 0 where
  pub events : List Event
  pub before : List ℕ
  pub rest : List ℕ
  pub good : AreEvents f events before
  pub parts : text ≡ before ++ rest
  pub number : n ≡ length events + 2
  pub some : rest ≢ []
  pub bad : ¬ BeginsWithEvent f rest

-- there is such a line after a header's line
pub record IsBadBehind (n : ℕ) (text : List ℕ) : Type 0 where
  pub first : BeginsWithHeader text
  pub later : IsBadEvent first.header.format n first.behind

-- the line with this number, counted from 1, is the first wrong one
abbrev pub IsFirstBad : ℕ → List ℕ → Type 0
IsFirstBad n text = ((n ≡ 1) × ¬ BeginsWithHeader text) ⊎ IsBadBehind n text

-- why lines of events aren't parsed; out of memory isn't limited
abbrev pub IsEventRefusal : Format → List ℕ → TraceError → Type 0
IsEventRefusal f text (NotALine n) = IsBadEvent f n text
IsEventRefusal f text NoMemory = Unit {0}

-- why a text isn't parsed
abbrev pub IsRefusal : List ℕ → TraceError → Type 0
IsRefusal text (NotALine n) = IsFirstBad n text
IsRefusal text NoMemory = Unit {0}

-- `J1 line 1`, `J2`
abbrev pub trace_error_text : TraceError → List ℕ
trace_error_text (NotALine n) = codes "J1 line " ++ decimal n
trace_error_text NoMemory = codes "J2"
