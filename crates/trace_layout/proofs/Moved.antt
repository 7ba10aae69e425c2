-- Steals after one more event.
use Rattle.std.proofs.Common.{◌≡◌, ℕ, ◌+◌, ◌<◌, List, ◌++◌, length, drop, get_or, ap, sym, ◌∙◌, append_assoc}
use Rattle.std.proofs.lemmas.List.{drop_more}
use Rattle.events.specs.declared.event.Event.{Event}
use Rattle.trace_layout.specs.Moves.{steal_of, steals_from}
use Rattle.trace_layout.specs.declared.moves.Steal.{Steal}

-- those so far, and those to come
abbrev pub AreStolen : List Event → ℕ → List Steal → Type 0
AreStolen es n steals = steals ++ steals_from n (drop n es) ≡ steals_from 0 es

pub stolen_more : (es : List Event) (i : ℕ) (e d : Event) (old new : List Steal) → i < length es → e ≡ get_or es i d
    → AreStolen es i old → new ≡ old ++ steal_of i e → AreStolen es (i + 1) new
stolen_more es i e d old new there is was more =
    let rest = steals_from (i + 1) (drop (i + 1) es) in
    ap (λ (l : List Steal). l ++ rest) more
    ∙ append_assoc old (steal_of i e) rest
    ∙ ap (λ (l : List Steal). old ++ l)
    (sym (ap (steals_from i) (drop_more es i d there) ∙ ap (λ (x : Event). steal_of i x ++ rest) (sym is)))
    ∙ was
