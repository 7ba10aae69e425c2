-- The labels of statements, added up.
use Rattle.std.proofs.Common.{◌≡◌, ◌⊎◌, inl, inr, ℕ, ◌<◌, length, sym, subst}
use Rattle.std.specs.Prelude.{◌↔◌}
use Rattle.types.specs.Code.{Code, Codes, End, Then, Program}
use Rattle.types.specs.Run.{procedure_of}
use Rattle.effects.specs.Effects.{labels, All}
use Rattle.effects.specs.Summarized.{body_of}
use Rattle.effects.proofs.ComesSound.{body_of-other}
use Rattle.parallel_relation.specs.Around.{Gains, none, both, one}
use Rattle.parallel_relation.proofs.StatementParts.{Done, all_one, none_at_end, of_label, of_done}
use Rattle.parallel_relation.proofs.Sums.{gains_joined, gains_union}

module _ (p : Program) where
  -- a statement's own label and those inside
  pub gains_statement : {a c e : ℕ → Type 0} (l : ℕ) {s t : Code} → s ≡ t → ((x : ℕ) → c x ↔ (a x ⊎ (x ≡ l))) → Gains c (Done p t) e
      → Gains a (All p labels (one l s)) e
  gains_statement {a} {c} {e} l {s} {t} same g h = subst (λ s. Gains a (All p labels (one l s)) e) (sym same)
      (gains_joined (All p labels (one l t)) (gains_union a (λ x. x ≡ l) c g) h
      (λ x k. elim k [ inl own ↦ All.here (of_label p l t x own) | inr d ↦ All.here (of_done p l t x d) ])
      (all_one p l t))

  only_first : (l : ℕ) (s : Code) (rest : Codes) (x : ℕ) → All p labels (one l s) x → All p labels (Then l s rest) x
  only_first l s rest x (All.here k) = All.here k
  only_first l s rest x (All.later k) = none_at_end p k

  either : (l : ℕ) (s : Code) (rest : Codes) (x : ℕ) → All p labels (Then l s rest) x → All p labels (one l s) x ⊎ All p labels rest x
  either l s rest x (All.here k) = inl (All.here k)
  either l s rest x (All.later k) = inr k

  -- with those of the remaining statements, all are there: after one more statement
  pub one_less_left : {a c w : ℕ → Type 0} (l : ℕ) (s : Code) (rest : Codes) → Gains a (All p labels (Then l s rest)) w
      → Gains a (All p labels (one l s)) c → Gains c (All p labels rest) w
  one_less_left l s rest g h = record {
    keeps = λ x k. elim (h.only x k) [ inl o ↦ g.keeps x o | inr n ↦ g.has x (only_first l s rest x n) ];
    has = λ x k. g.has x (All.later k);
    only = λ x k. elim (g.only x k) [
      | inl o ↦ inl (h.keeps x o)
      | inr n ↦ elim (either l s rest x n) [ inl m ↦ inl (h.has x m) | inr m ↦ inr m ]
    ];
  }

  in_first : (c : ℕ → Type 0) (x : ℕ) → c x ⊎ All p labels End x → c x
  in_first c x (inl k) = k
  in_first c x (inr k) = none_at_end p k

  -- and in the end
  pub none_is_left : {a b c : ℕ → Type 0} → Gains c (All p labels End) (both a b) → Gains a b c
  none_is_left {a} {b} {c} g = record {
    keeps = λ x k. in_first c x (g.only x (inl k));
    has = λ x k. in_first c x (g.only x (inr k));
    only = λ x k. g.keeps x k;
  }

  -- after the last statement
  pub nothing_behind : {a c : ℕ → Type 0} → Gains none a c → Gains a (All p labels End) c
  nothing_behind g = record {
    keeps = λ x k. g.has x k;
    has = λ x k. none_at_end p k;
    only = λ x k. elim (g.only x k) [ inl n ↦ absurd n | inr o ↦ inl o ];
  }

  -- those after a statement, and then its own
  pub one_more : {a c e : ℕ → Type 0} (l : ℕ) (s : Code) (rest : Codes) → Gains a (All p labels rest) c
      → Gains c (All p labels (one l s)) e → Gains a (All p labels (Then l s rest)) e
  one_more l s rest g h = gains_joined (All p labels (Then l s rest)) g h
      (λ x k. elim k [ inl r ↦ All.later r | inr f ↦ only_first l s rest x f ])
      (λ x k. elim (either l s rest x k) [ inl f ↦ inr f | inr r ↦ inl r ])

  pub gains_callee : (f : ℕ) (a s e : ℕ → Type 0) → f < length p.procedures → ((l : ℕ) → e l ↔ (a l ⊎ s l))
      → ((l : ℕ) → s l ↔ All p labels (body_of p f) l) → Gains a (All p labels (procedure_of p f).body) e
  gains_callee f a s e within h same = subst (λ b. Gains a (All p labels b) e) (body_of-other p f within) (record {
    keeps = λ x k. (h x).1 (inl k);
    has = λ x k. (h x).1 (inr ((same x).1 k));
    only = λ x k. elim ((h x).0 k) [ inl o ↦ inl o | inr n ↦ inr ((same x).0 n) ];
  })
