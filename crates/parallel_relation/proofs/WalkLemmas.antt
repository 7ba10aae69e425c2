-- The pairs of blocks and statements, added up.
use Rattle.std.proofs.Common.{inl, inr, ℕ}
use Rattle.types.specs.Code.{Code, Codes, End, Then, Program}
use Rattle.effects.specs.Effects.{labels, All}
use Rattle.parallel_relation.specs.Around.{Adds, Gains, none, both, at, one, BlockMeets, InsideMeets}
use Rattle.parallel_relation.proofs.StatementParts.{from_one, label_in_one, inside_one, from_list, in_later, in_first}
use Rattle.parallel_relation.proofs.Sums.{adds_same, adds_joined}

-- a copy that gained some
pub gains_copied : {a b c d : ℕ → Type 0} → Gains none a b → Gains b c d → Gains a c d
gains_copied g h = record {
  keeps = λ x k. h.keeps x (g.has x k);
  has = λ x k. h.has x k;
  only = λ x k. elim (h.only x k) [ inl o ↦ elim (g.only x o) [ inl n ↦ absurd n | inr m ↦ inl m ] | inr n ↦ inr n ];
}

-- all is there
all_gained : {k m c : ℕ → Type 0} → Gains k m c → (y : ℕ) → both k m y → c y
all_gained gained y (inl o) = gained.keeps y o
all_gained gained y (inr n) = gained.has y n

module _ (p : Program) where
  block_of : (e e' l l' : ℕ → Type 0) (b : Codes) (x y : ℕ) → (e y → e' y) → (l y → l' y)
      → BlockMeets p e l b x y → BlockMeets p e' l' b x y
  block_of e e' l l' b x y f g (BlockMeets.all h k) = BlockMeets.all h (f k)
  block_of e e' l l' b x y f g (BlockMeets.pending h k) = BlockMeets.pending h (g k)
  block_of e e' l l' b x y f g (BlockMeets.within h) = BlockMeets.within h

  -- the same sets, defined differently
  pub adds_block : {f g : ℕ → ℕ → Type 0} (e e' l l' : ℕ → Type 0) (b : Codes) → Adds f (BlockMeets p e l b) g
      → ((y : ℕ) → e y → e' y) → ((y : ℕ) → e' y → e y) → ((y : ℕ) → l y → l' y) → ((y : ℕ) → l' y → l y)
      → Adds f (BlockMeets p e' l' b) g
  adds_block e e' l l' b h to_e from_e to_l from_l = adds_same (BlockMeets p e' l' b) h
      (λ x y k. block_of e e' l l' b x y (to_e y) (to_l y) k) (λ x y k. block_of e' e l' l b x y (from_e y) (from_l y) k)

  pub no_block : (e l : ℕ → Type 0) (x y : ℕ) → BlockMeets p e l End x y → ⊥
  no_block e l x y (BlockMeets.all h k) = elim h [ ]
  no_block e l x y (BlockMeets.pending h k) = elim h [ ]
  no_block e l x y (BlockMeets.within h) = elim h [ ]

  -- what is left pending meets these and then those
  pub adds_later : {f g : ℕ → ℕ → Type 0} (e : ℕ → Type 0) {k m again : ℕ → Type 0} (b : Codes) → Gains k m again
      → Adds f (BlockMeets p e again b) g → Adds f (BlockMeets p e (both k m) b) g
  adds_later e {k} {m} {again} b gained h =
      adds_block e e again (both k m) b h (λ y o. o) (λ y o. o) gained.only (all_gained gained)

  pub adds_async : {f g : ℕ → ℕ → Type 0} {e k beside empty : ℕ → Type 0} (b : Codes) → Gains e k beside
      → ((y : ℕ) → empty y → ⊥) → Adds f (BlockMeets p beside empty b) g → Adds f (BlockMeets p (both e k) none b) g
  adds_async {e} {k} {beside} {empty} b gained nothing h =
      adds_block beside (both e k) empty none b h gained.only (all_gained gained) nothing (λ y o. absurd o)

  pub adds_finish : {f g : ℕ → ℕ → Type 0} (e empty : ℕ → Type 0) (b : Codes) → ((y : ℕ) → empty y → ⊥)
      → Adds f (BlockMeets p e empty b) g → Adds f (BlockMeets p e none b) g
  adds_finish e empty b nothing h = adds_block e e empty none b h (λ y o. o) (λ y o. o) nothing (λ y o. absurd o)

  -- a label's own pairs and those inside are those of the statement
  pub adds_statement : {f g h : ℕ → ℕ → Type 0} (e k : ℕ → Type 0) (l : ℕ) (s : Code) → Adds f (at l e) g
      → Adds g (InsideMeets p e k l s) h → Adds f (BlockMeets p e k (one l s)) h
  adds_statement e k l s own inner = adds_joined (BlockMeets p e k (one l s)) own inner
      (λ x y m. elim m [ inl o ↦ label_in_one p e k l s x y o | inr n ↦ inside_one p e k l s x y n ])
      (λ x y m. from_one p e k l s x y m)

  -- the pairs after a statement, and then its own
  pub adds_before : {f g h : ℕ → ℕ → Type 0} (e k behind : ℕ → Type 0) (l : ℕ) (s : Code) (rest : Codes)
      → Gains k (All p labels rest) behind → Adds f (BlockMeets p e k rest) g → Adds g (BlockMeets p e behind (one l s)) h
      → Adds f (BlockMeets p e k (Then l s rest)) h
  adds_before e k behind l s rest gained others first = adds_joined (BlockMeets p e k (Then l s rest)) others
      (adds_later e (one l s) gained first)
      (λ x y m. elim m [ inl o ↦ in_later p e k l s rest x y o | inr n ↦ in_first p e k l s rest x y n ])
      (λ x y m. from_list p e k l s rest x y m)
