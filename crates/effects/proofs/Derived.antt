-- What the rows of a body represent: what it may do, and what it leaves pending.
use Rattle.std.specs.Prelude.{ℕ}
use Rattle.types.specs.Code.{Codes, Program}
use Rattle.effects.specs.Effects.{accesses, labels as by_label, All as AllIn, Pending as PendingIn}
use Rattle.effects.specs.declared.summary.SummaryRow.{SummaryRow}
use Rattle.effects.specs.declared.summary.SummaryRow.TheVariants.{All, Pending, Labels, PendingLabels}

-- the label is that of an access, or of a statement, which the body may do or leave pending
abbrev pub Derived : Program → Codes → SummaryRow → (label : ℕ) → Type 0
Derived p b (All s w) l = AllIn p accesses b (record { label = l; section = s.number; write = w })
Derived p b (Pending s w) l =
    PendingIn p accesses b (record { label = l; section = s.number; write = w })
Derived p b Labels l = AllIn p by_label b l
Derived p b PendingLabels l = PendingIn p by_label b l
