-- A table that has exactly what arrives in its rows is the summary of each procedure.
use Rattle.std.proofs.Common.{◌≡◌, ◌∙◌, ◌∷◌, [], ℕ, List, length, ◌<◌, ◌+◌, ap, subst, arith}
use Rattle.std.proofs.lemmas.List.{length-append}
use Rattle.std.specs.Prelude.{◌↔◌, Some, slice_get}
use Rattle.std.proofs.lemmas.Option.{slice_get_within}
use Rattle.types.specs.Code.{Program}
use Rattle.effects.specs.Closing.{HasIn}
use Rattle.effects.specs.Coming.{Comes}
use Rattle.effects.proofs.Derived.{Derived}
use Rattle.effects.specs.SummaryRows.{HasRow}
use Rattle.effects.specs.Outlines.{numbered}
use Rattle.effects.specs.Sound.{IsSound}
use Rattle.effects.specs.Summarized.{AreOfProcedures, body_of, IsSummary}
use Rattle.effects.specs.declared.summary.SummaryRow.{SummaryRow}
use Rattle.effects.specs.declared.summary.SummaryRow.TheVariants.{All, Pending, Labels, PendingLabels}
use Rattle.effects.specs.declared.summary.Summary.{Summary}
use Rattle.effects.proofs.ClosingLemmas.{has_some}
use Rattle.effects.proofs.ComesComplete.{comes_complete}
use Rattle.effects.proofs.ComesSound.{comes_sound}

module _ (p : Program)
    (comes_sound : (f : ℕ) (r : SummaryRow) (l : ℕ) → Comes p f r l → Derived p (body_of p f) r l)
    (comes_complete : (f : ℕ) (r : SummaryRow) (l : ℕ) → f < length p.procedures + 1 → Derived p (body_of p f) r l → Comes p f r l)
    (table : List Summary) (exact : (f : ℕ) (r : SummaryRow) (l : ℕ) → HasIn table f r l ↔ Comes p f r l) where
  pub summary_of : (number : length table ≡ length p.procedures + 1) → (f : ℕ) (x : Summary) → slice_get table f ≡ Some x
      → IsSummary p (body_of p f) x
  summary_of number f x e =
      let there : f < length p.procedures + 1 = omega (arith, slice_get_within table f x e, number) in
      let row : (r : SummaryRow) (l : ℕ) → HasRow x r l ↔ Derived p (body_of p f) r l = λ r l. (
        λ h. comes_sound f r l ((exact f r l).0 ((has_some (slice_get table f) x r l e).0 h)),
        λ d. (has_some (slice_get table f) x r l e).1 ((exact f r l).1 (comes_complete f r l there d)),
      ) in record {
        all = λ y. row (All (record { number = y.section }) y.write) y.label;
        pending = λ y. row (Pending (record { number = y.section }) y.write) y.label;
        labels = λ l. row Labels l;
        pending_labels = λ l. row PendingLabels l;
      }

pub are_of_procedures : (p : Program) → IsSound p → (table : List Summary) (q : Program) → q ≡ p
    → ((f : ℕ) (r : SummaryRow) (l : ℕ) → HasIn table f r l ↔ Comes q f r l) → length table ≡ length (numbered q) → AreOfProcedures p table
are_of_procedures p sound table q same exact number =
    let exact_here : (f : ℕ) (r : SummaryRow) (l : ℕ) → HasIn table f r l ↔ Comes p f r l =
    subst (λ (q : Program). (f : ℕ) (r : SummaryRow) (l : ℕ) → HasIn table f r l ↔ Comes q f r l) same exact in
    let number_here : length table ≡ length p.procedures + 1 =
    number ∙ ap (λ (q : Program). length (numbered q)) same ∙ length-append p.procedures (p.main ∷ []) in
    record {
      number = number_here;
      each = summary_of p (λ f r l. comes_sound p sound) (λ f r l. comes_complete p sound f r l) table exact_here number_here;
    }
