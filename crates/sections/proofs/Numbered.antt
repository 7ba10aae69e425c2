-- Numbered origins stay numbered as sections are added.
use Rattle.std.proofs.Common.{◌≡◌, ◌⊎◌, inl, inr, ℕ, zero, suc, ◌+◌, ◌-◌, ◌<◌, ◌≤◌, List, [], ◌∷◌, ◌++◌, length, refl}
use Rattle.std.proofs.Common.{sym, ap, ◌∙◌, subst, arith}
use Rattle.std.proofs.Math.ListN.{get_or-append}
use Rattle.std.proofs.lemmas.Bool.{ltb-true, ltb-false}
use Rattle.std.proofs.lemmas.List.{get_or-append-add, map-append}
use Rattle.std.specs.Prelude.{Bool, true, false, nat_lt, map, if◌then◌else◌}
use Rattle.sections.specs.Origins.{Origin, Root, Left, Right, Piece, origin_of, IsNumbered}
use Rattle.sections.specs.Translation.{origin}
use Rattle.sections.specs.declared.origin.Origin.{Origin as rOrigin}

-- a section that comes from a split exists
pub left_is_there : (os : List Origin) (a s : ℕ) → origin_of os a ≡ Left s → a < length os
left_is_there [] a s e = cc
left_is_there (o ∷ os) zero s e = omega arith
left_is_there (o ∷ os) (suc a) s e = let h = left_is_there os a s e in omega (arith, h)

pub right_is_there : (os : List Origin) (a s : ℕ) → origin_of os a ≡ Right s → a < length os
right_is_there [] a s e = cc
right_is_there (o ∷ os) zero s e = omega arith
right_is_there (o ∷ os) (suc a) s e = let h = right_is_there os a s e in omega (arith, h)

-- a piece exists
pub piece_is_there : (os : List Origin) (a s : ℕ) → origin_of os a ≡ Piece s → a < length os
piece_is_there [] a s e = cc
piece_is_there (o ∷ os) zero s e = omega arith
piece_is_there (o ∷ os) (suc a) s e = let h = piece_is_there os a s e in omega (arith, h)

-- origins that can come after n numbered ones
pub record Continues (n : ℕ) (ps : List Origin) : Type 0 where
  pub left : (b s : ℕ) → origin_of ps b ≡ Left s → s < n + b
  pub right : (b s : ℕ) → origin_of ps b ≡ Right s → s < n + b
  pub piece : (b s : ℕ) → origin_of ps b ≡ Piece s → s < n + b
  pub right_behind : (b s : ℕ) → origin_of ps b ≡ Left s → origin_of ps (b + 1) ≡ Right s
  pub left_before : (b s : ℕ) → origin_of ps b ≡ Right s → (c : ℕ) × (b ≡ c + 1) × (origin_of ps c ≡ Left s)

below_or_behind : (n a : ℕ) → (a < n) ⊎ ((b : ℕ) × (a ≡ n + b))
below_or_behind n a = go (nat_lt a n) refl
  where
    go : (b : Bool) → nat_lt a n ≡ b → (a < n) ⊎ ((b : ℕ) × (a ≡ n + b))
    go true e = inl (ltb-true a n e)
    go false e = inr (a - n, (let h : n ≤ a = ltb-false a n e in omega arith))

-- the origin of a section stays the same as others are added after it
pub origin-prefix : (os ps : List Origin) (a : ℕ) → a < length os → origin_of (os ++ ps) a ≡ origin_of os a
origin-prefix os ps a h = get_or-append os ps Root a h

module _ (os ps : List Origin) (numbered : IsNumbered os) (more : Continues (length os) ps) where
  behind : (a b : ℕ) → a ≡ length os + b → origin_of (os ++ ps) a ≡ origin_of ps b
  behind a b e = ap (origin_of (os ++ ps)) e ∙ get_or-append-add os ps b Root

  left_in : (a s : ℕ) → origin_of (os ++ ps) a ≡ Left s → s < a
  left_in a s e = elim (below_or_behind (length os) a) [
    | inl h ↦ numbered.left a s (sym (origin-prefix os ps a h) ∙ e)
    | inr (b, h) ↦ (let k = more.left b s (sym (behind a b h) ∙ e) in omega (arith, k, h))
  ]

  right_in : (a s : ℕ) → origin_of (os ++ ps) a ≡ Right s → s < a
  right_in a s e = elim (below_or_behind (length os) a) [
    | inl h ↦ numbered.right a s (sym (origin-prefix os ps a h) ∙ e)
    | inr (b, h) ↦ (let k = more.right b s (sym (behind a b h) ∙ e) in omega (arith, k, h))
  ]

  piece_in : (a s : ℕ) → origin_of (os ++ ps) a ≡ Piece s → s < a
  piece_in a s e = elim (below_or_behind (length os) a) [
    | inl h ↦ numbered.piece a s (sym (origin-prefix os ps a h) ∙ e)
    | inr (b, h) ↦ (let k = more.piece b s (sym (behind a b h) ∙ e) in omega (arith, k, h))
  ]

  right_behind_in : (a s : ℕ) → origin_of (os ++ ps) a ≡ Left s → origin_of (os ++ ps) (a + 1) ≡ Right s
  right_behind_in a s e = elim (below_or_behind (length os) a) [
    | inl h ↦
        (let k = numbered.right_behind a s (sym (origin-prefix os ps a h) ∙ e) in
        origin-prefix os ps (a + 1) (right_is_there os (a + 1) s k) ∙ k)
    | inr (b, h) ↦
        (let k = more.right_behind b s (sym (behind a b h) ∙ e) in
        behind (a + 1) (b + 1) (omega (arith, h)) ∙ k)
  ]

  left_before_in : (a s : ℕ) → origin_of (os ++ ps) a ≡ Right s → origin_of (os ++ ps) (a - 1) ≡ Left s
  left_before_in a s e = elim (below_or_behind (length os) a) [
    | inl h ↦
        (let k = numbered.left_before a s (sym (origin-prefix os ps a h) ∙ e) in
        origin-prefix os ps (a - 1) (left_is_there os (a - 1) s k) ∙ k)
    | inr (b, h) ↦
        (let k = more.left_before b s (sym (behind a b h) ∙ e) in
        behind (a - 1) k.0 (omega (arith, h, k.1)) ∙ k.2)
  ]

  -- what can come after numbered origins leaves them numbered
  pub continued : IsNumbered (os ++ ps)
  continued = record {
    left = left_in;
    right = right_in;
    piece = piece_in;
    right_behind = right_behind_in;
    left_before = left_before_in;
  }

no_left_root : (b s : ℕ) → origin_of (Root ∷ []) b ≡ Left s → ⊥
no_left_root zero s e = cc
no_left_root (suc b) s e = cc

no_right_root : (b s : ℕ) → origin_of (Root ∷ []) b ≡ Right s → ⊥
no_right_root zero s e = cc
no_right_root (suc b) s e = cc

no_piece_root : (b s : ℕ) → origin_of (Root ∷ []) b ≡ Piece s → ⊥
no_piece_root zero s e = cc
no_piece_root (suc b) s e = cc

pub root_continues : (n : ℕ) → Continues n (Root ∷ [])
root_continues n = record {
  left = λ b s e. absurd (no_left_root b s e);
  right = λ b s e. absurd (no_right_root b s e);
  piece = λ b s e. absurd (no_piece_root b s e);
  right_behind = λ b s e. absurd (no_left_root b s e);
  left_before = λ b s e. absurd (no_right_root b s e);
}

pub sides_continue : (n p : ℕ) → p < n → Continues n (Left p ∷ Right p ∷ [])
sides_continue n p below = record {
  left = go_left;
  right = go_right;
  piece = go_piece;
  right_behind = go_behind;
  left_before = go_before;
}
  where
    go_left : (b s : ℕ) → origin_of (Left p ∷ Right p ∷ []) b ≡ Left s → s < n + b
    go_left zero s e = let h : p ≡ s = cc in omega arith
    go_left (suc zero) s e = absurd cc
    go_left (suc (suc b)) s e = absurd cc

    go_right : (b s : ℕ) → origin_of (Left p ∷ Right p ∷ []) b ≡ Right s → s < n + b
    go_right zero s e = absurd cc
    go_right (suc zero) s e = let h : p ≡ s = cc in omega arith
    go_right (suc (suc b)) s e = absurd cc

    go_piece : (b s : ℕ) → origin_of (Left p ∷ Right p ∷ []) b ≡ Piece s → s < n + b
    go_piece zero s e = absurd cc
    go_piece (suc zero) s e = absurd cc
    go_piece (suc (suc b)) s e = absurd cc

    go_behind : (b s : ℕ) → origin_of (Left p ∷ Right p ∷ []) b ≡ Left s
        → origin_of (Left p ∷ Right p ∷ []) (b + 1) ≡ Right s
    go_behind zero s e = let h : p ≡ s = cc in ap Right h
    go_behind (suc zero) s e = absurd cc
    go_behind (suc (suc b)) s e = absurd cc

    go_before : (b s : ℕ) → origin_of (Left p ∷ Right p ∷ []) b ≡ Right s
        → (c : ℕ) × (b ≡ c + 1) × (origin_of (Left p ∷ Right p ∷ []) c ≡ Left s)
    go_before zero s e = absurd cc
    go_before (suc zero) s e = let h : p ≡ s = cc in (0, refl, ap Left h)
    go_before (suc (suc b)) s e = absurd cc

pub piece_continues : (n p : ℕ) → p < n → Continues n (Piece p ∷ [])
piece_continues n p below = record {
  left = λ b s e. absurd (no_left b s e);
  right = λ b s e. absurd (no_right b s e);
  piece = go;
  right_behind = λ b s e. absurd (no_left b s e);
  left_before = λ b s e. absurd (no_right b s e);
}
  where
    no_left : (b s : ℕ) → origin_of (Piece p ∷ []) b ≡ Left s → ⊥
    no_left zero s e = cc
    no_left (suc b) s e = cc

    no_right : (b s : ℕ) → origin_of (Piece p ∷ []) b ≡ Right s → ⊥
    no_right zero s e = cc
    no_right (suc b) s e = cc

    go : (b s : ℕ) → origin_of (Piece p ∷ []) b ≡ Piece s → s < n + b
    go zero s e = let h : p ≡ s = cc in omega arith
    go (suc b) s e = absurd cc

-- a list that gets more items, if there is memory
pub kept_or_continued : (items more : List rOrigin) (b : Bool) → IsNumbered (map origin items)
    → Continues (length (map origin items)) (map origin more)
    → IsNumbered (map origin (if b then items ++ more else items))
kept_or_continued items more true numbered continues =
    subst IsNumbered (sym (map-append origin items more)) (continued (map origin items) (map origin more) numbered continues)
kept_or_continued items more false numbered continues = numbered
