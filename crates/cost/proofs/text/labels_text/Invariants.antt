use Rattle.std.proofs.Common.{◌≡◌, ◌++◌, drop}
use Rattle.std.specs.String.{string_bytes}
use Rattle.cost.specs.Text.{label_lines, labels_text}
use Rattle.cost.proofs.text.labels_text.Given as goal

-- what was written, and the lines that are left
abbrev pub invariant-loop-label : goal.invariant-loop-label
invariant-loop-label l =
    string_bytes l.text ++ label_lines l.label (drop l.label l.work) l.span ≡ labels_text l.work l.span
