-- What is reached from what the statements do without their calls is what arrives.
use Rattle.std.proofs.Common.{◌≡◌, ℕ, List, length, ◌<◌, [], ◌∷◌, ◌++◌, get_or, inl, inr, ◌∙◌, sym, subst, arith}
use Rattle.std.specs.Prelude.{◌↔◌}
use Rattle.std.proofs.lemmas.Option.{slice_get-get_or}
use Rattle.sections.specs.Member.{Member}
use Rattle.types.specs.Code.{Program}
use Rattle.effects.specs.Closing.{HasIn, Reached, start, flow}
use Rattle.effects.specs.Coming.{Comes}
use Rattle.effects.specs.Outlines.{StartsAt, flows_in_all, numbered}
use Rattle.effects.specs.declared.flows.CallFlow.{CallFlow}
use Rattle.effects.specs.declared.summary.SummaryRow.{SummaryRow}
use Rattle.effects.specs.declared.summary.Summary.{Summary}
use Rattle.effects.proofs.StatementLemmas.{of_one}
use Rattle.effects.proofs.ClosingLemmas.{got_member}
use Rattle.effects.proofs.Members.{in_left, in_parts}

module _ (p : Program) (flows : List CallFlow) (table : List Summary) (rows : (f : ℕ) (r : SummaryRow) (l : ℕ) → HasIn table f r l ↔ StartsAt (numbered p) f r l)
    (all : (x : CallFlow) → Member x flows ↔ Member x (flows_in_all (length p.procedures) 0 (numbered p)))
    (number : length table ≡ length (numbered p)) where
  reached_comes : {f : ℕ} {r : SummaryRow} {l : ℕ} → Reached flows table f r l → Comes p f r l
  reached_comes (start {f = f} {r = r} {l = l} h) = Comes.start ((rows f r l).0 h)
  reached_comes (flow x m there h) =
      Comes.flow x ((all x).0 m) (omega (arith, there, number)) (reached_comes h)

  comes_reached : {f : ℕ} {r : SummaryRow} {l : ℕ} → Comes p f r l → Reached flows table f r l
  comes_reached (Comes.start {f = f} {r = r} {l = l} h) = start ((rows f r l).1 h)
  comes_reached (Comes.flow x m there h) =
      flow x ((all x).1 m) (omega (arith, there, number)) (comes_reached h)

  pub comes_exactly : (closed : List Summary)
      → ((f : ℕ) (r : SummaryRow) (l : ℕ) → HasIn closed f r l ↔ Reached flows table f r l) → (f : ℕ) (r : SummaryRow) (l : ℕ)
      → HasIn closed f r l ↔ Comes p f r l
  comes_exactly closed exact f r l = (λ h. reached_comes ((exact f r l).0 h), λ h. (exact f r l).1 (comes_reached h))

-- what is in a list, added once more at its end
pub pushed_again : (xs : List CallFlow) (k : ℕ) (v : CallFlow) → k < length xs → v ≡ get_or xs k v → (x : CallFlow)
    → Member x (xs ++ v ∷ []) ↔ Member x xs
pushed_again xs k v h at x = (
  λ m. elim (in_parts xs m) [
    | inl a ↦ a
    | inr b ↦ subst (λ (y : CallFlow). Member y xs) (at_last ∙ sym (of_one b)) (got_member xs k (get_or xs k v) (slice_get-get_or xs k v h))
  ],
  λ m. in_left (v ∷ []) m,
)
  where
    at_last : get_or xs k v ≡ v
    at_last = sym at
