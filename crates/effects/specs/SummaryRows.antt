-- The rows of a summary: one set of labels for each kind of access to a section, and the sets of
-- statement labels.
use Rattle.std.specs.Prelude.{ℕ}
use Rattle.effects.specs.LabelSets.{HasLabel}
use Rattle.effects.specs.AccessSets.{HasAccess}
use Rattle.effects.specs.declared.summary.SummaryRow.{SummaryRow}
use Rattle.effects.specs.declared.summary.SummaryRow.TheVariants.{All, Pending, Labels, PendingLabels}
use Rattle.effects.specs.declared.summary.Summary.{Summary}

-- a row of a summary has a label
abbrev pub HasRow : Summary → SummaryRow → (label : ℕ) → Type 0
HasRow x (All s w) l = HasAccess x.all (record { label = l; section = s.number; write = w })
HasRow x (Pending s w) l = HasAccess x.pending (record { label = l; section = s.number; write = w })
HasRow x Labels l = HasLabel x.labels l
HasRow x PendingLabels l = HasLabel x.pending_labels l
