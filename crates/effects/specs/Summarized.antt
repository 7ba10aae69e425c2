-- Summaries: what each procedure may do and leaves pending.
use Rattle.std.specs.Prelude.{ℕ, ◌≡◌, ◌+◌, ◌↔◌, List, length, Some, slice_get, if◌then◌else◌, nat_eq}
use Rattle.types.specs.Code.{Codes, Program}
use Rattle.types.specs.Run.{procedure_of}
use Rattle.effects.specs.Accesses.{Access}
use Rattle.effects.specs.Effects.{accesses, labels as by_label, All, Pending}
use Rattle.effects.specs.LabelSets.{HasLabel}
use Rattle.effects.specs.AccessSets.{HasAccess}
use Rattle.effects.specs.AsyncNeeds.{IsNeedAt, needs_at}
use Rattle.effects.specs.declared.summary.Summary.{Summary}
use Rattle.effects.specs.declared.summaries.Summaries.{Summaries}

-- the procedures' summaries in the order of the text, and after them that of `main`
abbrev pub summaries_of : Summaries → List Summary
summaries_of s = s.procedures.items

-- the body of the procedure with this number; `main` is numbered after the others
abbrev pub body_of : Program → ℕ → Codes
body_of p f = if nat_eq f (length p.procedures) then p.main.body else (procedure_of p f).body

-- the summary contains what these statements may do and leave pending, and nothing else
pub record IsSummary (p : Program) (b : Codes) (s : Summary) : Type 0 where
  pub all : (x : Access) → HasAccess s.all x ↔ All p accesses b x
  pub pending : (x : Access) → HasAccess s.pending x ↔ Pending p accesses b x
  pub labels : (l : ℕ) → HasLabel s.labels l ↔ All p by_label b l
  pub pending_labels : (l : ℕ) → HasLabel s.pending_labels l ↔ Pending p by_label b l

-- a list has the summary of each procedure, and of `main`
pub record AreOfProcedures (p : Program) (table : List Summary) : Type 0 where
  pub number : length table ≡ length p.procedures + 1
  pub each : (f : ℕ) (x : Summary) → slice_get table f ≡ Some x → IsSummary p (body_of p f) x

-- there is a summary for each procedure, and the needs of each async
pub record AreSummaries (p : Program) (s : Summaries) : Type 0 where
  pub procedures : AreOfProcedures p (summaries_of s)
  pub asyncs : (l : ℕ) → IsNeedAt p l (needs_at s.asyncs l)
