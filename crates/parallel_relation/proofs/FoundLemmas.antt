-- The pairs found, if more pairs of one kind are found.
use Rattle.std.proofs.Common.{◌⊎◌, inl, inr, ℕ, refl, subst}
use Rattle.types.specs.Code.{Program}
use Rattle.types.specs.Run.{procedure_of}
use Rattle.effects.specs.Effects.{labels, All, Pending}
use Rattle.parallel_relation.specs.Around.{Adds, at, CallMeets}
use Rattle.parallel_relation.specs.Rows.{HasAt}
use Rattle.parallel_relation.specs.Found.{FoundMeets}
use Rattle.parallel_relation.specs.declared.rows.Rows.{Rows}
use Rattle.parallel_relation.specs.declared.found.FoundPairs.{FoundPairs}
use Rattle.parallel_relation.proofs.Sums.{adds_joined}

module _ (p : Program) (found : FoundPairs) (rows : Rows) where
  pub found_label : (m : ℕ → ℕ → Type 0) → Adds (HasAt found.labels) m (HasAt rows)
      → Adds (FoundMeets p found) m (FoundMeets p (record { labels = rows; calls = found.calls; ends = found.ends }))
  found_label m h = record { keeps = keeps; has = λ x y k. FoundMeets.label (h.has x y k); only = only }
    where
      keeps : (x y : ℕ) → FoundMeets p found x y → FoundMeets p (record { labels = rows; calls = found.calls; ends = found.ends }) x y
      keeps x y (FoundMeets.label k) = FoundMeets.label (h.keeps x y k)
      keeps x y (FoundMeets.call f a k) = FoundMeets.call f a k
      keeps x y (FoundMeets.end f a k) = FoundMeets.end f a k

      only : (x y : ℕ) → FoundMeets p (record { labels = rows; calls = found.calls; ends = found.ends }) x y → FoundMeets p found x y ⊎ m x y
      only x y (FoundMeets.label k) = elim (h.only x y k) [ inl o ↦ inl (FoundMeets.label o) | inr n ↦ inr n ]
      only x y (FoundMeets.call f a k) = inl (FoundMeets.call f a k)
      only x y (FoundMeets.end f a k) = inl (FoundMeets.end f a k)

  module _ (f : ℕ) (those : ℕ → Type 0) where
    abbrev AllMeets : ℕ → ℕ → Type 0
    AllMeets x y = All p labels (procedure_of p f).body x × those y

    abbrev PendingMeets : ℕ → ℕ → Type 0
    PendingMeets x y = Pending p labels (procedure_of p f).body x × those y

    found_call : Adds (HasAt found.calls) (at f those) (HasAt rows)
        → Adds (FoundMeets p found) AllMeets (FoundMeets p (record { labels = found.labels; calls = rows; ends = found.ends }))
    found_call h = record { keeps = keeps; has = λ x y k. FoundMeets.call f k.0 (h.has f y (refl, k.1)); only = only }
      where
        keeps : (x y : ℕ) → FoundMeets p found x y → FoundMeets p (record { labels = found.labels; calls = rows; ends = found.ends }) x y
        keeps x y (FoundMeets.label k) = FoundMeets.label k
        keeps x y (FoundMeets.call g a k) = FoundMeets.call g a (h.keeps g y k)
        keeps x y (FoundMeets.end g a k) = FoundMeets.end g a k

        only : (x y : ℕ) → FoundMeets p (record { labels = found.labels; calls = rows; ends = found.ends }) x y
            → FoundMeets p found x y ⊎ AllMeets x y
        only x y (FoundMeets.label k) = inl (FoundMeets.label k)
        only x y (FoundMeets.call g a k) = elim (h.only g y k) [
          | inl o ↦ inl (FoundMeets.call g a o)
          | inr n ↦ inr (subst (λ g. All p labels (procedure_of p g).body x) n.0 a, n.1)
        ]
        only x y (FoundMeets.end g a k) = inl (FoundMeets.end g a k)

    found_end : Adds (HasAt found.ends) (at f those) (HasAt rows)
        → Adds (FoundMeets p found) PendingMeets (FoundMeets p (record { labels = found.labels; calls = found.calls; ends = rows }))
    found_end h = record { keeps = keeps; has = λ x y k. FoundMeets.end f k.0 (h.has f y (refl, k.1)); only = only }
      where
        keeps : (x y : ℕ) → FoundMeets p found x y → FoundMeets p (record { labels = found.labels; calls = found.calls; ends = rows }) x y
        keeps x y (FoundMeets.label k) = FoundMeets.label k
        keeps x y (FoundMeets.call g a k) = FoundMeets.call g a k
        keeps x y (FoundMeets.end g a k) = FoundMeets.end g a (h.keeps g y k)

        only : (x y : ℕ) → FoundMeets p (record { labels = found.labels; calls = found.calls; ends = rows }) x y
            → FoundMeets p found x y ⊎ PendingMeets x y
        only x y (FoundMeets.label k) = inl (FoundMeets.label k)
        only x y (FoundMeets.call g a k) = inl (FoundMeets.call g a k)
        only x y (FoundMeets.end g a k) = elim (h.only g y k) [
          | inl o ↦ inl (FoundMeets.end g a o)
          | inr n ↦ inr (subst (λ g. Pending p labels (procedure_of p g).body x) n.0 a, n.1)
        ]

-- a call meets those with all that it does, and these with what it leaves pending
pub found_both : (p : Program) (found : FoundPairs) (calls ends : Rows) (f : ℕ) (those these : ℕ → Type 0)
    → Adds (HasAt found.calls) (at f those) (HasAt calls) → Adds (HasAt found.ends) (at f these) (HasAt ends)
    → Adds (FoundMeets p found) (CallMeets p f those these) (FoundMeets p (record { labels = found.labels; calls = calls; ends = ends }))
found_both p found calls ends f those these g h =
    adds_joined (CallMeets p f those these) (found_call p found calls f those g)
    (found_end p (record { labels = found.labels; calls = calls; ends = found.ends }) ends f these h)
    (λ x y k. elim k [ inl a ↦ CallMeets.all a.0 a.1 | inr a ↦ CallMeets.pending a.0 a.1 ])
    (λ x y k. from_call x y k)
  where
    from_call : (x y : ℕ) → CallMeets p f those these x y
        → (All p labels (procedure_of p f).body x × those y) ⊎ (Pending p labels (procedure_of p f).body x × these y)
    from_call x y (CallMeets.all a k) = inl (a, k)
    from_call x y (CallMeets.pending a k) = inr (a, k)
