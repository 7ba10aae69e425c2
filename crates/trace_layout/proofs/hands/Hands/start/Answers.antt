use Rattle.std.proofs.Common.{◌-◌, ap, sym, ◌∙◌, refl}
use Rattle.trace_layout.proofs.Handled.{hands_at_first}
use Rattle.trace_layout.proofs.hands.Hands.start.Goals as goal

pub returns : goal.returns
returns c =
    λ es is. hands_at_first es _ (c.saturating_sub.ensures ∙ ap (λ n. n - 1) (sym is)) c.new.ensures.items c.new-2.ensures.empty refl
