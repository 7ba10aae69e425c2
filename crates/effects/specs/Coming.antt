-- The labels that enter the rows of a program's procedures: from statements, and by calls.
use Rattle.std.specs.Prelude.{ℕ, ◌<◌, length}
use Rattle.sections.specs.Member.{Member}
use Rattle.types.specs.Code.{Program}
use Rattle.effects.specs.Outlines.{StartsAt, flows_in_all, numbered}
use Rattle.effects.specs.declared.flows.CallFlow.{CallFlow}
use Rattle.effects.specs.declared.summary.SummaryRow.{SummaryRow}

module _ (p : Program) where
  -- a statement puts the label in the row, or a call brings it there
  pub data Comes : ℕ → SummaryRow → (label : ℕ) → Type 0 where
    start : {f : ℕ} {r : SummaryRow} {l : ℕ} → StartsAt (numbered p) f r l → Comes f r l
    flow : {l : ℕ} → (x : CallFlow) → Member x (flows_in_all (length p.procedures) 0 (numbered p))
        → x.caller.number < length (numbered p)
        → Comes x.callee.number x.from l → Comes x.caller.number x.to l
