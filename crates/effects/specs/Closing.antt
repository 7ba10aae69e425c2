-- The rows of a table of summaries, and what flows bring into them.
use Rattle.std.specs.Prelude.{ℕ, ◌≡◌, ◌<◌, length, List, Option, None, Some, slice_get}
use Rattle.sections.specs.Member.{Member}
use Rattle.effects.specs.SummaryRows.{HasRow}
use Rattle.effects.specs.declared.flows.CallFlow.{CallFlow}
use Rattle.effects.specs.declared.summary.SummaryRow.{SummaryRow}
use Rattle.effects.specs.declared.summary.Summary.{Summary}

-- there is a summary, and one of its rows has the label
abbrev pub HasSome : Option Summary → SummaryRow → (label : ℕ) → Type 0
HasSome None r l = ⊥
HasSome (Some x) r l = HasRow x r l

-- a row of the summary with this number has the label
abbrev pub HasIn : List Summary → ℕ → SummaryRow → (label : ℕ) → Type 0
HasIn table f r l = HasSome (slice_get table f) r l

module _ (flows : List CallFlow) (table : List Summary) where
  -- a label is in a row from the start, or a flow brings it there
  pub data Reached : ℕ → SummaryRow → (label : ℕ) → Type 0 where
    start : {f : ℕ} {r : SummaryRow} {l : ℕ} → HasIn table f r l → Reached f r l
    flow : {l : ℕ} → (x : CallFlow) → Member x flows → x.caller.number < length table
        → Reached x.callee.number x.from l → Reached x.caller.number x.to l

-- the labels that one flow brings if the caller has a summary
pub record Brings (x : CallFlow) (table : List Summary) (f : ℕ) (r : SummaryRow) (l : ℕ) : Type 0 where
  pub there : x.caller.number < length table
  pub caller : f ≡ x.caller.number
  pub to : r ≡ x.to
  pub label : HasIn table x.callee.number x.from l

-- a flow has brought a label that wasn't there before
pub record BringsNew (flows : List CallFlow) (before after : List Summary) : Type 0 where
  pub flow : CallFlow
  pub member : Member flow flows
  pub label : ℕ
  pub now : HasIn after flow.caller.number flow.to label
  pub missing : HasIn before flow.caller.number flow.to label → ⊥

-- what flows bring is already there
abbrev pub IsClosed : List CallFlow → List Summary → Type 0
IsClosed flows table = (x : CallFlow) → Member x flows → (f : ℕ) (r : SummaryRow) (l : ℕ)
    → Brings x table f r l → HasIn table f r l
