-- If summaries are known to be those of a program as a mere fact, they are; the facts can be
-- recovered from them.
use Rattle.std.proofs.Common.{◌≡◌, ℕ, refl, sym, subst, Some, None, Option}
use Rattle.std.proofs.Math.Logic.{∥∥₁_elim, ∥∥₁_map}
use Rattle.std.proofs.lemmas.Bool.{eq-eqb, eqb-true}
use Rattle.std.specs.Coded.{Coded-set, coded_ℕ}
use Rattle.std.specs.Prelude.{◌↔◌, nat_eq, slice_get}
use Rattle.effects.proofs.Stability.{same_access-equal, same_access-refl}
use Rattle.types.specs.Code.{Codes, Program}
use Rattle.effects.specs.Accesses.{Access}
use Rattle.effects.specs.AccessSets.{HasAccess, uses_of}
use Rattle.effects.specs.AsyncNeeds.{IsNeedAt, needs_at}
use Rattle.effects.specs.Effects.{accesses, labels as by_label, All, Pending}
use Rattle.effects.specs.LabelSets.{HasLabel}
use Rattle.effects.specs.Needs.{Needs}
use Rattle.effects.specs.Rounds.{needs_of, same_access}
use Rattle.effects.specs.Summarized.{AreSummaries, IsSummary, body_of}
use Rattle.effects.specs.UseSets.{HasIn, HasUse}
use Rattle.effects.specs.declared.label_set.LabelSet.{LabelSet}
use Rattle.effects.specs.declared.summaries.Summaries.{Summaries}
use Rattle.effects.specs.declared.summary.Summary.{Summary}
use Rattle.parallel_relation.proofs.ReachedRounds.{all_found, pending_found}
use denote.Struct.Props.{props}

-- ---- membership in a set has at most one proof
HasLabel-prop : (s : LabelSet) (l : ℕ) → IsProp (HasLabel s l)
unfolding HasLabel
HasLabel-prop s l = hlevel props

HasIn-prop : (o : Option LabelSet) (l : ℕ) → IsProp (HasIn o l)
HasIn-prop None l = hlevel props
HasIn-prop (Some s) l = HasLabel-prop s l

HasAccess-prop : (s : _) (x : Access) → IsProp (HasAccess s x)
unfolding HasAccess HasUse
HasAccess-prop s x = HasIn-prop (slice_get (uses_of s x.write).sets.items x.section) x.label

-- a set that is known to contain exactly these items contains them, if each of them can be
-- recovered
exactly : {Has Does : Type 0} → (∥ Does ∥₁ → Does) → IsProp Has → ∥ Has ↔ Does ∥₁ → Has ↔ Does
exactly does prop is = (λ h. does (∥∥₁_map is (λ i. i.0 h)), λ d. ∥∥₁_elim is prop (λ i. i.1 d))

module _ (p : Program) where
  module _ (b : Codes) where
    all_accesses : (x : Access) → ∥ All p accesses b x ∥₁ → All p accesses b x
    all_accesses = all_found p accesses same_access same_access-refl same_access-equal b

    pending_accesses : (x : Access) → ∥ Pending p accesses b x ∥₁ → Pending p accesses b x
    pending_accesses = pending_found p accesses same_access same_access-refl same_access-equal b

    all_labels : (l : ℕ) → ∥ All p by_label b l ∥₁ → All p by_label b l
    all_labels = all_found p by_label nat_eq (λ x. eq-eqb x x refl) eqb-true b

    pending_labels : (l : ℕ) → ∥ Pending p by_label b l ∥₁ → Pending p by_label b l
    pending_labels = pending_found p by_label nat_eq (λ x. eq-eqb x x refl) eqb-true b

    exact_summary : (s : Summary) → ∥ IsSummary p b s ∥₁ → IsSummary p b s
    exact_summary s is = record {
      all = λ x. exactly (all_accesses x) (HasAccess-prop s.all x) (∥∥₁_map is (λ i. i.all x));
      pending =
          λ x. exactly (pending_accesses x) (HasAccess-prop s.pending x) (∥∥₁_map is (λ i. i.pending x));
      labels = λ l. exactly (all_labels l) (HasLabel-prop s.labels l) (∥∥₁_map is (λ i. i.labels l));
      pending_labels =
          λ l. exactly (pending_labels l) (HasLabel-prop s.pending_labels l)
          (∥∥₁_map is (λ i. i.pending_labels l));
    }

  -- ---- needs
  Needs-set : IsSet (Option Needs)
  Needs-set = hlevel props

  exact_need : (l : ℕ) (found : Option Needs) → ∥ IsNeedAt p l found ∥₁ → IsNeedAt p l found
  exact_need l found is = record {
    of_async = λ b stands. ∥∥₁_elim is (Needs-set found (Some (needs_of p b))) (λ i. i.of_async b stands);
    of_another = λ none. ∥∥₁_elim is (Needs-set found None) (λ i. i.of_another none);
  }

  pub exact_summaries : (s : Summaries) → ∥ AreSummaries p s ∥₁ → AreSummaries p s
  exact_summaries s are = record {
    procedures = record {
      number = ∥∥₁_elim are (Coded-set coded_ℕ _ _) (λ a. a.procedures.number);
      each = λ f x at. exact_summary (body_of p f) x (∥∥₁_map are (λ a. a.procedures.each f x at));
    };
    asyncs = λ l. exact_need l (needs_at s.asyncs l) (∥∥₁_map are (λ a. a.asyncs l));
  }

-- of the same program read from elsewhere too
pub exact_of : (p q : Program) (s : Summaries) → q ≡ p → ∥ AreSummaries p s ∥₁ → AreSummaries q s
exact_of p q s same are = subst (λ r. AreSummaries r s) (sym same) (exact_summaries p s are)
