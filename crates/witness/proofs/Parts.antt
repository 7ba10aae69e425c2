-- Parts of sections, through the sections whose sides or pieces they are.
use Rattle.std.proofs.Common.{◌≡◌, ◌⊎◌, inl, inr, ℕ, ◌+◌, ◌<◌, ◌≤◌, List, length, refl, sym, ◌∙◌, subst, true≢false, arith}
use Rattle.std.proofs.lemmas.Bool.{cases_lt, cases_eq}
use Rattle.std.proofs.lemmas.List.{get_or_past}
use Rattle.std.specs.Prelude.{◌↔◌, Bool, IsTrue, true, false}
use Rattle.sections.specs.Origins.{Origin, Root, Left, Right, Piece, origin_of, IsNumbered, IsChildOf}
use Rattle.sections.specs.Overlap.{overlap}
use Rattle.sections.proofs.Climbing.{above_root, above_left, above_piece, above_beside, above_right}
use Rattle.sections.proofs.Overlapping.{overlap-sym, root-disjoint}
use Rattle.witness.specs.Sharing.{LiesIn}

module _ (origins : List Origin) where
  -- a part is a side of something that lies there
  pub record SideThere (a b : ℕ) : Type 0 where
    pub parent : ℕ
    pub is_side : IsChildOf origins parent a
    pub lies : LiesIn origins parent b

  pub lies_cases : {a b : ℕ} → LiesIn origins a b → (a ≡ b) ⊎ SideThere a b
  lies_cases LiesIn.itself = inl refl
  lies_cases (LiesIn.side {a} {s} {b} i h) = inr (record { parent = s; is_side = i; lies = h })

  same_left : {a s p : ℕ} → origin_of origins a ≡ Left p → IsChildOf origins s a → s ≡ p
  same_left {a} {s} {p} o (IsChildOf.left e) = let k : Left s ≡ Left p = sym e ∙ o in cc
  same_left {a} {s} {p} o (IsChildOf.right e) = let k : Right s ≡ Left p = sym e ∙ o in absurd cc
  same_left {a} {s} {p} o (IsChildOf.piece e) = let k : Piece s ≡ Left p = sym e ∙ o in absurd cc

  same_right : {a s p : ℕ} → origin_of origins a ≡ Right p → IsChildOf origins s a → s ≡ p
  same_right {a} {s} {p} o (IsChildOf.left e) = let k : Left s ≡ Right p = sym e ∙ o in absurd cc
  same_right {a} {s} {p} o (IsChildOf.right e) = let k : Right s ≡ Right p = sym e ∙ o in cc
  same_right {a} {s} {p} o (IsChildOf.piece e) = let k : Piece s ≡ Right p = sym e ∙ o in absurd cc

  same_piece : {a s p : ℕ} → origin_of origins a ≡ Piece p → IsChildOf origins s a → s ≡ p
  same_piece {a} {s} {p} o (IsChildOf.left e) = let k : Left s ≡ Piece p = sym e ∙ o in absurd cc
  same_piece {a} {s} {p} o (IsChildOf.right e) = let k : Right s ≡ Piece p = sym e ∙ o in absurd cc
  same_piece {a} {s} {p} o (IsChildOf.piece e) = let k : Piece s ≡ Piece p = sym e ∙ o in cc

  pub itself_lies : (a b : ℕ) → a ≡ b → LiesIn origins a b
  itself_lies a b e = subst (LiesIn origins a) e LiesIn.itself

  -- a side is a part of another section if the section that was split is one
  pub by_left : (a b p : ℕ) (t : Bool) → origin_of origins a ≡ Left p → (a ≡ b → ⊥) → (IsTrue t ↔ LiesIn origins p b) → IsTrue t ↔ LiesIn origins a b
  by_left a b p t o apart h = (
    λ k. LiesIn.side (IsChildOf.left o) (h.0 k),
    λ k. elim (lies_cases k) [ inl e ↦ absurd (apart e) | inr s ↦ h.1 (subst (λ q. LiesIn origins q b) (same_left o s.is_side) s.lies) ],
  )

  pub by_right : (a b p : ℕ) (t : Bool) → origin_of origins a ≡ Right p → (a ≡ b → ⊥) → (IsTrue t ↔ LiesIn origins p b) → IsTrue t ↔ LiesIn origins a b
  by_right a b p t o apart h = (
    λ k. LiesIn.side (IsChildOf.right o) (h.0 k),
    λ k. elim (lies_cases k) [ inl e ↦ absurd (apart e) | inr s ↦ h.1 (subst (λ q. LiesIn origins q b) (same_right o s.is_side) s.lies) ],
  )

  pub by_piece : (a b p : ℕ) (t : Bool) → origin_of origins a ≡ Piece p → (a ≡ b → ⊥) → (IsTrue t ↔ LiesIn origins p b) → IsTrue t ↔ LiesIn origins a b
  by_piece a b p t o apart h = (
    λ k. LiesIn.side (IsChildOf.piece o) (h.0 k),
    λ k. elim (lies_cases k) [ inl e ↦ absurd (apart e) | inr s ↦ h.1 (subst (λ q. LiesIn origins q b) (same_piece o s.is_side) s.lies) ],
  )

pub false_is_not : (b : Bool) → b ≡ false → IsTrue b → ⊥
false_is_not b e h = true≢false (sym h ∙ e)

module _ (origins : List Origin) (numbered : IsNumbered origins) where
  -- sections that overlap exist, if they differ
  ordered_past : (low high : ℕ) → low < high → length origins ≤ high → overlap origins low high ≡ true → ⊥
  ordered_past low high order past h =
      true≢false (sym h ∙ root-disjoint origins numbered low high order (get_or_past origins high Root past))

  pub overlap_there : (a b : ℕ) → (a ≡ b → ⊥) → overlap origins a b ≡ true → (a < length origins) × (b < length origins)
  overlap_there a b apart h = elim (cases_lt a b) [
    | inl less ↦ elim (cases_lt b (length origins)) [
      | inl there ↦ (omega (arith, less, there), there)
      | inr past ↦ absurd (ordered_past a b less past h)
    ]
    | inr more ↦ elim (cases_lt a (length origins)) [
      | inl there ↦ (there, let k : (a ≡ b → ⊥) = apart in omega (arith, more, there))
      | inr past ↦ (let less : b < a = omega (arith, apart, more) in absurd (ordered_past b a less past (overlap-sym origins b a ∙ h)))
    ]
  ]

  module _ (low high : ℕ) (order : low < high) where
    -- a walk up stops at a section in which both lie
    pub met_root : origin_of origins high ≡ Root → overlap origins low high ≡ true → ⊥
    met_root e h = true≢false (sym h ∙ above_root origins numbered low high order e)

    left_overlap : (s : ℕ) → origin_of origins high ≡ Left s → overlap origins low high ≡ true → overlap origins s low ≡ true
    left_overlap s e h = overlap-sym origins s low ∙ sym (above_left origins numbered low high order s e) ∙ h

    right_overlap : (s : ℕ) → origin_of origins high ≡ Right s → overlap origins low high ≡ true → overlap origins s low ≡ true
    right_overlap s e h = elim (cases_eq (low + 1) high) [
      | inl beside ↦ absurd (true≢false (sym h ∙ above_beside origins numbered low high order s e beside))
      | inr apart ↦ overlap-sym origins s low ∙ sym (above_right origins numbered low high order s e apart) ∙ h
    ]

    piece_overlap : (s : ℕ) → origin_of origins high ≡ Piece s → overlap origins low high ≡ true → overlap origins s low ≡ true
    piece_overlap s e h = overlap-sym origins s low ∙ sym (above_piece origins numbered low high order s e) ∙ h

    pub side_overlap : (s : ℕ) → IsChildOf origins s high → overlap origins low high ≡ true
        → overlap origins s low ≡ true
    side_overlap s (IsChildOf.left e) h = left_overlap s e h
    side_overlap s (IsChildOf.right e) h = right_overlap s e h
    side_overlap s (IsChildOf.piece e) h = piece_overlap s e h
