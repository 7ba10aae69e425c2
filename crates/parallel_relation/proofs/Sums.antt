-- Sets and pairs that are added up.
use Rattle.std.proofs.Common.{◌⊎◌, inl, inr, ℕ}
use Rattle.std.specs.Prelude.{◌↔◌}
use Rattle.parallel_relation.specs.Around.{Adds, Gains}

pub gains_union : {A : Type 0} (before more after : A → Type 0) → ((x : A) → after x ↔ (before x ⊎ more x)) → Gains before more after
gains_union before more after h = record { keeps = λ x k. (h x).1 (inl k); has = λ x k. (h x).1 (inr k); only = λ x k. (h x).0 k }

-- some and then some more, if the two together are known
pub gains_joined : {A : Type 0} {a b c d e : A → Type 0} (m : A → Type 0) → Gains a b c → Gains c d e
    → ((x : A) → b x ⊎ d x → m x) → ((x : A) → m x → b x ⊎ d x) → Gains a m e
gains_joined m g h to from = record {
  keeps = λ x k. h.keeps x (g.keeps x k);
  has = λ x k. elim (from x k) [ inl l ↦ h.keeps x (g.has x l) | inr r ↦ h.has x r ];
  only = λ x k. elim (h.only x k) [
    | inl l ↦ elim (g.only x l) [ inl o ↦ inl o | inr n ↦ inr (to x (inl n)) ]
    | inr r ↦ inr (to x (inr r))
  ];
}

-- nothing is added
pub gains_nothing : {A : Type 0} (a m : A → Type 0) → ((x : A) → m x → ⊥) → Gains a m a
gains_nothing a m empty = record { keeps = λ x k. k; has = λ x k. absurd (empty x k); only = λ x k. inl k }

pub adds_nothing : (a m : ℕ → ℕ → Type 0) → ((x y : ℕ) → m x y → ⊥) → Adds a m a
adds_nothing a m empty = record { keeps = λ x y k. k; has = λ x y k. absurd (empty x y k); only = λ x y k. inl k }

-- the same pairs, defined differently
pub adds_same : {a b c : ℕ → ℕ → Type 0} (m : ℕ → ℕ → Type 0) → Adds a b c
    → ((x y : ℕ) → b x y → m x y) → ((x y : ℕ) → m x y → b x y) → Adds a m c
adds_same m g to from = record {
  keeps = g.keeps;
  has = λ x y k. g.has x y (from x y k);
  only = λ x y k. elim (g.only x y k) [ inl o ↦ inl o | inr n ↦ inr (to x y n) ];
}

-- some and then some more, if the two together are known
pub adds_joined : {a b c d e : ℕ → ℕ → Type 0} (m : ℕ → ℕ → Type 0) → Adds a b c → Adds c d e
    → ((x y : ℕ) → b x y ⊎ d x y → m x y) → ((x y : ℕ) → m x y → b x y ⊎ d x y) → Adds a m e
adds_joined m g h to from = record {
  keeps = λ x y k. h.keeps x y (g.keeps x y k);
  has = λ x y k. elim (from x y k) [ inl l ↦ h.keeps x y (g.has x y l) | inr r ↦ h.has x y r ];
  only = λ x y k. elim (h.only x y k) [
    | inl l ↦ elim (g.only x y l) [ inl o ↦ inl o | inr n ↦ inr (to x y (inl n)) ]
    | inr r ↦ inr (to x y (inr r))
  ];
}
