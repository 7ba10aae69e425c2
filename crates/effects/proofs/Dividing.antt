-- A section is divided by a split, or by a `parts`, whose piece is both of its sides.
use Rattle.std.proofs.Common.{◌≡◌, ℕ, List, sym, ap, ◌∙◌}
use Rattle.std.proofs.lemmas.Bool.{cases_eq}
use Rattle.std.proofs.Common.{inl, inr}
use Rattle.sections.specs.Origins.{left, right, piece}
use Rattle.sections.specs.Overlap.{root_of}
use Rattle.sections.proofs.Lines.{root_of-side}
use Rattle.types.specs.Code.{Procedure, Program}
use Rattle.effects.specs.Effects.{past_parts, past_split}
use Rattle.effects.specs.Sound.{CutsWell, SplitsWell, IsSoundIn}
use Rattle.effects.proofs.AccessesInScope.{past_split-left, past_split-right, past_split-other}

pub data Divides (g : Procedure) (scope : List ℕ) : (s l r : ℕ) → Type 0 where
  split : {s l r : ℕ} → SplitsWell g scope s l r → Divides g scope s l r
  parts : {s q i : ℕ} → CutsWell g scope s q i → Divides g scope s q q

-- at the root, the sides are their parent
module _ (p : Program) (g : Procedure) (here : IsSoundIn p g) where
  past_sides : (scope : List ℕ) (s l r : ℕ) → SplitsWell g scope s l r → (x : ℕ)
      → root_of g.sections (past_split s l r x) ≡ root_of g.sections x
  past_sides scope s l r well x = elim (cases_eq l x) [
    | inl e ↦
        ap (λ (y : ℕ). root_of g.sections (past_split s l r y)) (sym e) ∙ ap (root_of g.sections) (past_split-left s l r)
        ∙ sym (root_of-side g.sections here.numbered l s (left well.left)) ∙ ap (root_of g.sections) e
    | inr n ↦ elim (cases_eq r x) [
      | inl e ↦
          ap (λ (y : ℕ). root_of g.sections (past_split s l r y)) (sym e) ∙ ap (root_of g.sections) (past_split-right s l r)
          ∙ sym (root_of-side g.sections here.numbered r s (right well.right)) ∙ ap (root_of g.sections) e
      | inr m ↦ ap (root_of g.sections) (past_split-other s l r x n m)
    ]
  ]

  past_piece : (scope : List ℕ) (s q i : ℕ) → CutsWell g scope s q i → (x : ℕ)
      → root_of g.sections (past_parts s q x) ≡ root_of g.sections x
  past_piece scope s q i well x = elim (cases_eq q x) [
    | inl e ↦
        ap (λ (y : ℕ). root_of g.sections (past_parts s q y)) (sym e) ∙ ap (root_of g.sections) (past_split-left s q q)
        ∙ sym (root_of-side g.sections here.numbered q s (piece well.piece)) ∙ ap (root_of g.sections) e
    | inr n ↦ ap (root_of g.sections) (past_split-other s q q x n n)
  ]

  pub past_root : (scope : List ℕ) (s l r : ℕ) → Divides g scope s l r → (x : ℕ)
      → root_of g.sections (past_split s l r x) ≡ root_of g.sections x
  past_root scope s l r (split well) x = past_sides scope s l r well x
  past_root scope s l r (parts {q = q} {i = i} well) x = past_piece scope s q i well x
