-- Tables of costs that are the same.
use Rattle.std.proofs.Common.{◌≡◌, ℕ, List, ap, ◌∙◌}
use Rattle.serde_json.specs.Data.{Data}
use Rattle.types.specs.Outcome.{Outcome}
use Rattle.trace_page.specs.Costs.{if_ended, tables_json}

pub same_tables : (d : Data) (o p : Outcome) (s t w x : List ℕ) → d ≡ if_ended o (tables_json s w) → o ≡ p → s ≡ t → w ≡ x
    → d ≡ if_ended p (tables_json t x)
same_tables d o p s t w x is outcome span work =
    is ∙ ap (λ (q : Outcome). if_ended q (tables_json s w)) outcome
    ∙ ap (λ (l : List ℕ). if_ended p (tables_json l w)) span
    ∙ ap (λ (l : List ℕ). if_ended p (tables_json t l)) work
