use Rattle.std.proofs.Common.{◌≡◌, ℕ, length}
use Rattle.effects.specs.Closing.{HasIn, Reached}
use Rattle.effects.specs.declared.summary.SummaryRow.{SummaryRow}
use Rattle.effects.proofs.StillMissing.{missing}
use Rattle.effects.proofs.closing.close.Given as goal

-- what was there is there, and what is there is reached
abbrev pub invariant-loop : goal.invariant-loop
invariant-loop l = record {
  number : length l.table.items ≡ length l.initial.table.items;
  more : (f : ℕ) (r : SummaryRow) (k : ℕ) → HasIn l.initial.table.items f r k → HasIn l.table.items f r k;
  reached : (f : ℕ) (r : SummaryRow) (k : ℕ) → HasIn l.table.items f r k → Reached l.flows l.initial.table.items f r k;
}

-- each further round adds a label
abbrev pub decreases-loop : goal.decreases-loop
decreases-loop l = missing l.flows l.table.items
