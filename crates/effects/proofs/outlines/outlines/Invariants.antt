use Rattle.std.proofs.Common.{◌≡◌, ◌++◌, ℕ, length, map, take, drop}
use Rattle.std.specs.Prelude.{◌↔◌}
use Rattle.types.specs.Translation.{procedure}
use Rattle.effects.specs.Closing.{HasIn}
use Rattle.effects.specs.Outlines.{StartsAt, flows_in_all}
use Rattle.effects.specs.declared.summary.SummaryRow.{SummaryRow}
use Rattle.effects.proofs.outlines.outlines.Given as goal

-- the procedures so far are outlined
abbrev pub invariant-loop-number : goal.invariant-loop-number
invariant-loop-number l =
    let n = length l.code.procedures.items in
    record {
      length : length l.table.items ≡ l.number;
      rows : (f : ℕ) (r : SummaryRow) (k : ℕ) → HasIn l.table.items f r k ↔ StartsAt (map procedure (take l.number l.code.procedures.items)) f r k;
      flows : l.flows.items ++ flows_in_all n l.number (map procedure (drop l.number l.code.procedures.items))
          ≡ l.initial.flows.items ++ flows_in_all n 0 (map procedure l.code.procedures.items);
    }
