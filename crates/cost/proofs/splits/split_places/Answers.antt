use Rattle.std.proofs.Common.{ℕ, ◌+◌, ◌-◌, ◌*◌, ◌/◌, refl, ap, ◌∙◌, arith}
use Rattle.sections.specs.Translation.{window}
use Rattle.cost.proofs.Splitting.{AreWhole, split_places-whole}
use Rattle.cost.proofs.splits.split_places.Goals as goal
use Rattle.cost.proofs.splits.split_places.Goals.{then-length-end, else-length-end}

pub returns : goal.returns
returns c =
    let w = c.args.window in let n = c.args.length in
    let from = (w.at + 255) / 256 * 256 in
    let whole : AreWhole n (window w) from c.if-length-end.to = elim c.if-length-end.branch [
      | then-length-end b ↦ record { first = refl; last = λ h. b.to-is; inner = λ h. absurd (omega (arith, h, b.if-length-end)) }
      | else-length-end b ↦ record { first = refl; last = λ h. absurd (omega (arith, h, b.if-length-end)); inner = λ h. b.to-is }
    ] in
    ap (λ (k : ℕ). w.len - k) c.saturating_sub.ensures ∙ split_places-whole n (window w) from c.if-length-end.to whole
