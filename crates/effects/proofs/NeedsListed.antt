-- Sections in ascending order, and what accesses need, as they are listed.
use Rattle.std.proofs.Common.{◌≡◌, ◌⊎◌, inl, inr, ℕ, zero, suc, ◌-◌, ◌<◌, ◌≤◌, List, [], ◌∷◌, ◌++◌, length, map, drop, get_or, refl, sym, ap, ◌∙◌, subst, arith}
use Rattle.std.proofs.Math.Seq.{drop-cons}
use Rattle.std.proofs.lemmas.Bool.{eqb-true, eqb-false, ltb-true, ltb-false, eq-eqb, ne_eqb, lt-ltb, le-ltb}
use Rattle.std.proofs.lemmas.List.{drop_all}
use Rattle.std.proofs.lemmas.List.Edits.{insert_end}
use Rattle.std.specs.Prelude.{Bool, true, false, nat_eq, nat_lt, if◌then◌else◌, slice_index_or, insert}
use Rattle.sections.specs.Member.{Member, first, next}
use Rattle.sections.specs.Translation.{section}
use Rattle.sections.specs.declared.id.SectionId.{SectionId}
use Rattle.effects.specs.Needs.{among, also, written_by, others_by}
use Rattle.effects.specs.Translation.{access}
use Rattle.effects.specs.declared.access.Access.{Access as rAccess}

-- ---- one more at its position
pub has_also : (s : ℕ) (ss : List ℕ) → Member s (also s ss)
has_also s [] = first
has_also s (t ∷ ss) = by_test (nat_lt s t) (nat_eq s t) refl (has_also s ss)
  where
    by_test : (b e : Bool) → nat_eq s t ≡ e → Member s (also s ss)
        → Member s (if b then s ∷ t ∷ ss else (if e then t ∷ ss else t ∷ also s ss))
    by_test true e same m = first
    by_test false true same m = subst (λ n. Member s (n ∷ ss)) (eqb-true s t same) first
    by_test false false same m = next m

first_or_later : {x t : ℕ} {ss : List ℕ} → Member x (t ∷ ss) → (x ≡ t) ⊎ Member x ss
first_or_later first = inl refl
first_or_later (next m) = inr m

pub keeps_also : (s x : ℕ) (ss : List ℕ) → Member x ss → Member x (also s ss)
keeps_also s x [] m = elim m [ ]
keeps_also s x (t ∷ ss) m = by_test (nat_lt s t) (nat_eq s t) m (λ k. keeps_also s x ss k)
  where
    deeper : Member x (t ∷ ss) → (Member x ss → Member x (also s ss)) → Member x (t ∷ also s ss)
    deeper k go = elim (first_or_later k) [
      | inl e ↦ subst (λ n. Member x (n ∷ also s ss)) e first
      | inr n ↦ next (go n)
    ]

    by_test : (b e : Bool) → Member x (t ∷ ss) → (Member x ss → Member x (also s ss))
        → Member x (if b then s ∷ t ∷ ss else (if e then t ∷ ss else t ∷ also s ss))
    by_test true e k go = next k
    by_test false true k go = k
    by_test false false k go = deeper k go

pub from_also : (s x : ℕ) (ss : List ℕ) → Member x (also s ss) → (x ≡ s) ⊎ Member x ss
from_also s x [] m = first_or_later m
from_also s x (t ∷ ss) m = by_test (nat_lt s t) (nat_eq s t) m (from_also s x ss)
  where
    by_test : (b e : Bool) → Member x (if b then s ∷ t ∷ ss else (if e then t ∷ ss else t ∷ also s ss))
        → (Member x (also s ss) → (x ≡ s) ⊎ Member x ss) → (x ≡ s) ⊎ Member x (t ∷ ss)
    by_test true e k deeper = first_or_later k
    by_test false true k deeper = inr k
    by_test false false k deeper = elim (first_or_later k) [
      | inl e ↦ inr (subst (λ n. Member x (n ∷ ss)) e first)
      | inr n ↦ elim (deeper n) [ inl e ↦ inl e | inr o ↦ inr (next o) ]
    ]

-- ---- ascending lists
abbrev pub Ascends : List ℕ → Type 0
Ascends [] = Unit {0}
Ascends (x ∷ xs) = ((y : ℕ) → Member y xs → x < y) × Ascends xs

pub also_ascends : (s : ℕ) (ss : List ℕ) → Ascends ss → Ascends (also s ss)
also_ascends s [] h = ((λ y m. elim m [ ]), tt)
also_ascends s (t ∷ ss) h = by_test (nat_lt s t) (nat_eq s t) refl refl (also_ascends s ss h.1)
  where
    below : s < t → (y : ℕ) → Member y (t ∷ ss) → s < y
    below lt y m = elim (first_or_later m) [ inl e ↦ omega arith | inr n ↦ let k : t < y = h.0 y n in omega arith ]

    above : t < s → (y : ℕ) → Member y (also s ss) → t < y
    above lt y m = elim (from_also s y ss m) [ inl e ↦ omega arith | inr n ↦ h.0 y n ]

    by_test : (b e : Bool) → nat_lt s t ≡ b → nat_eq s t ≡ e → Ascends (also s ss)
        → Ascends (if b then s ∷ t ∷ ss else (if e then t ∷ ss else t ∷ also s ss))
    by_test true e lt same deeper = (below (ltb-true s t lt), h)
    by_test false true lt same deeper = h
    by_test false false lt same deeper =
        let le : t ≤ s = ltb-false s t lt in
        let apart : s ≡ t → ⊥ = eqb-false s t same in
        (above (omega arith), deeper)

-- two ascending lists with the same members are equal
pub same_members : (xs ys : List ℕ) → Ascends xs → Ascends ys → ((s : ℕ) → Member s xs → Member s ys)
    → ((s : ℕ) → Member s ys → Member s xs) → xs ≡ ys
same_members [] [] h g out back = refl
same_members [] (y ∷ ys) h g out back = elim (back y first) [ ]
same_members (x ∷ xs) [] h g out back = elim (out x first) [ ]
same_members (x ∷ xs) (y ∷ ys) h g out back =
    ap (λ n. n ∷ xs) same ∙ ap (λ zs. y ∷ zs) (same_members xs ys h.1 g.1 out_later back_later)
  where
    same : x ≡ y
    same = elim (first_or_later (out x first)) [
      | inl e ↦ e
      | inr m ↦ elim (first_or_later (back y first)) [
        | inl e ↦ sym e
        | inr n ↦ let a : y < x = g.0 x m in let b : x < y = h.0 y n in absurd (omega arith)
      ]
    ]

    out_later : (s : ℕ) → Member s xs → Member s ys
    out_later s m = elim (first_or_later (out s (next m))) [
      | inl e ↦ let a : x < s = h.0 s m in let b : x ≡ y = same in absurd (omega arith)
      | inr n ↦ n
    ]

    back_later : (s : ℕ) → Member s ys → Member s xs
    back_later s m = elim (first_or_later (back s (next m))) [
      | inl e ↦ let a : y < s = g.0 s m in let b : x ≡ y = same in absurd (omega arith)
      | inr n ↦ n
    ]

-- ---- in the code
-- an access in front
access_before : (xs : List rAccess) (n : ℕ) (d : rAccess) → 0 < n → n ≤ length xs
    → map access (drop (n - 1) xs) ≡ access (get_or xs (n - 1) d) ∷ map access (drop n xs)
access_before xs n d h g =
    let lt : n - 1 < length xs = omega arith in
    let e : suc (n - 1) ≡ n = omega arith in
    ap (map access) (drop-cons xs (n - 1) d lt) ∙ ap (λ m. access (get_or xs (n - 1) d) ∷ map access (drop m xs)) e

pub written_step : (xs : List rAccess) (n : ℕ) (d : rAccess) (b : Bool) → 0 < n → n ≤ length xs → (get_or xs (n - 1) d).write ≡ b
    → written_by (map access (drop (n - 1) xs))
    ≡ (if b then also (get_or xs (n - 1) d).section.number (written_by (map access (drop n xs))) else written_by (map access (drop n xs)))
written_step xs n d b h g e =
    let before = written_by (map access (drop n xs)) in
    ap written_by (access_before xs n d h g)
    ∙ ap (λ w. if w then also (get_or xs (n - 1) d).section.number before else before) e

pub others_step : (ws : List ℕ) (xs : List rAccess) (n : ℕ) (d : rAccess) (b : Bool) → 0 < n → n ≤ length xs
    → among ws (get_or xs (n - 1) d).section.number ≡ b → others_by ws (map access (drop (n - 1) xs))
    ≡ (if b then others_by ws (map access (drop n xs)) else also (get_or xs (n - 1) d).section.number (others_by ws (map access (drop n xs))))
others_step ws xs n d b h g e =
    let before = others_by ws (map access (drop n xs)) in
    ap (others_by ws) (access_before xs n d h g)
    ∙ ap (λ w. if w then before else also (get_or xs (n - 1) d).section.number before) e

pub nothing_left : (xs : List rAccess) → map access (drop (length xs) xs) ≡ []
nothing_left xs = ap (map access) (drop_all (length xs) xs (omega arith))

-- a section that is already at its position, and one that is inserted there
module _ (s : SectionId) where
  pub also_there : (xs : List SectionId) (k : ℕ)
      → ((i : ℕ) → i < k → (slice_index_or xs i s).number < s.number) → k < length xs
      → (slice_index_or xs k s).number ≡ s.number → map section xs ≡ also s.number (map section xs)
  also_there [] k below h e = absurd (omega arith)
  also_there (x ∷ xs) zero below h e =
      sym (ap (λ b. if b then s.number ∷ x.number ∷ map section xs else (if nat_eq s.number x.number then x.number ∷ map section xs else x.number ∷ also s.number (map section xs)))
      (le-ltb s.number x.number (omega arith))
      ∙ ap (λ b. if b then x.number ∷ map section xs else x.number ∷ also s.number (map section xs)) (eq-eqb s.number x.number (sym e)))
  also_there (x ∷ xs) (suc k) below h e =
      let lt : x.number < s.number = below 0 (omega arith) in
      ap (λ ys. x.number ∷ ys) (also_there xs k (λ i g. below (suc i) (omega arith)) (omega arith) e)
      ∙ sym (ap (λ b. if b then s.number ∷ x.number ∷ map section xs else (if nat_eq s.number x.number then x.number ∷ map section xs else x.number ∷ also s.number (map section xs)))
      (le-ltb s.number x.number (omega arith))
      ∙ ap (λ b. if b then x.number ∷ map section xs else x.number ∷ also s.number (map section xs))
      (ne_eqb s.number x.number (λ q. omega arith)))

  pub also_put : (xs : List SectionId) (k : ℕ)
      → ((i : ℕ) → i < k → (slice_index_or xs i s).number < s.number) → k ≤ length xs
      → (k < length xs → s.number < (slice_index_or xs k s).number)
      → map section (insert xs k s) ≡ also s.number (map section xs)
  also_put [] zero below h above = refl
  also_put [] (suc k) below h above = absurd (omega arith)
  also_put (x ∷ xs) zero below h above =
      let lt : s.number < x.number = above (omega arith) in
      sym (ap (λ b. if b then s.number ∷ x.number ∷ map section xs else (if nat_eq s.number x.number then x.number ∷ map section xs else x.number ∷ also s.number (map section xs)))
      (lt-ltb s.number x.number lt))
  also_put (x ∷ xs) (suc k) below h above =
      let lt : x.number < s.number = below 0 (omega arith) in
      ap (λ ys. x.number ∷ ys) (also_put xs k (λ i g. below (suc i) (omega arith)) (omega arith) (λ g. above (omega arith)))
      ∙ sym (ap (λ b. if b then s.number ∷ x.number ∷ map section xs else (if nat_eq s.number x.number then x.number ∷ map section xs else x.number ∷ also s.number (map section xs)))
      (le-ltb s.number x.number (omega arith))
      ∙ ap (λ b. if b then x.number ∷ map section xs else x.number ∷ also s.number (map section xs))
      (ne_eqb s.number x.number (λ q. omega arith)))

  get_any : (xs : List SectionId) (k : ℕ) (d e : SectionId) → k < length xs → get_or xs k d ≡ get_or xs k e
  get_any [] k d e h = absurd (omega arith)
  get_any (x ∷ xs) zero d e h = refl
  get_any (x ∷ xs) (suc k) d e h = get_any xs k d e (omega arith)

  -- if the list was read twice
  module _ (xs ys zs : List SectionId) (same : ys ≡ xs) (too : zs ≡ xs) (k : ℕ)
      (below : (i : ℕ) → i < k → (slice_index_or ys i s).number < s.number) where
    below_it : (i : ℕ) → i < k → (slice_index_or xs i s).number < s.number
    below_it i h = subst (λ (vs : List SectionId). (slice_index_or vs i s).number < s.number) same (below i h)

    read_too : (x : SectionId) → k < length zs → x ≡ get_or zs k x → (slice_index_or xs k s) ≡ x
    read_too x lt at = ap (λ (vs : List SectionId). get_or vs k s) (sym too) ∙ get_any zs k s x lt ∙ sym at

    pub stays_there : (x : SectionId) → k < length zs → x ≡ get_or zs k x → x.number ≡ s.number
        → map section xs ≡ also s.number (map section xs)
    stays_there x lt at e =
        also_there xs k below_it (subst (λ (vs : List SectionId). k < length vs) too lt)
        (ap (λ (v : SectionId). v.number) (read_too x lt at) ∙ e)

    module _ (within : k ≤ length ys) (behind : s.number ≤ (slice_index_or ys k s).number) where
      within_it : k ≤ length xs
      within_it = subst (λ (vs : List SectionId). k ≤ length vs) same within

      pub put_between : (x : SectionId) → k < length zs → x ≡ get_or zs k x → (x.number ≡ s.number → ⊥)
          → map section (insert xs k s) ≡ also s.number (map section xs)
      put_between x lt at apart = also_put xs k below_it within_it (λ h.
          let e : (slice_index_or xs k s).number ≡ x.number = ap (λ (v : SectionId). v.number) (read_too x lt at) in
          let le : s.number ≤ (slice_index_or xs k s).number =
          subst (λ (vs : List SectionId). s.number ≤ (slice_index_or vs k s).number) same behind in
          omega (arith, e, le, apart))

      pub put_behind_all : length zs ≤ k → map section (xs ++ s ∷ []) ≡ also s.number (map section xs)
      put_behind_all past =
          let le : length xs ≤ k = subst (λ (vs : List SectionId). length vs ≤ k) too past in
          let within_here : k ≤ length xs = within_it in
          let e : k ≡ length xs = omega arith in
          ap (map section) (sym (insert_end xs s)) ∙ ap (λ n. map section (insert xs n s)) (sym e)
          ∙ also_put xs k below_it within_it (λ h. absurd (omega arith))
