-- Roots of sections, found one after another.
use Rattle.std.proofs.Common.{◌≡◌, inl, inr, ℕ, zero, suc, ◌+◌, ◌<◌, ◌≤◌, List, [], ◌∷◌, ◌++◌, map, length, refl, sym, ap, ◌∙◌, arith, below_more}
use Rattle.std.proofs.lemmas.Bool.{ltb-true, ltb-false}
use Rattle.std.proofs.lemmas.List.{get_or_past, length-map}
use Rattle.std.specs.Prelude.{Bool, true, false, nat_lt, slice_index_or}
use Rattle.sections.specs.Origins.{Origin, Root, origin_of, IsNumbered}
use Rattle.sections.specs.Overlap.{beyond, root_of}
use Rattle.sections.specs.Translation.{section}
use Rattle.sections.specs.declared.id.SectionId.{SectionId}
use Rattle.sections.proofs.Lines.{root_or_side, parent_below, root_of-root, root_of-side}
use Rattle.effects.specs.ListedRoots.{listed_root}
use Rattle.sections.proofs.Lines.{beyond-side}

listed_before : (xs : List SectionId) (x : SectionId) (s d : ℕ) → s < length xs
    → slice_index_or (map section (xs ++ x ∷ [])) s d ≡ slice_index_or (map section xs) s d
listed_before [] x s d h = absurd (omega (arith, h))
listed_before (y ∷ ys) x zero d h = refl
listed_before (y ∷ ys) x (suc s) d h = listed_before ys x s d (omega (arith, h))

listed_last : (xs : List SectionId) (x : SectionId) (d : ℕ) → slice_index_or (map section (xs ++ x ∷ [])) (length xs) d ≡ x.number
listed_last [] x d = refl
listed_last (y ∷ ys) x d = listed_last ys x d

-- a number past the sections is its own root
past_sections : (origins : List Origin) (xs : List SectionId) (s : ℕ) → length xs ≤ s → length origins ≤ s
    → listed_root (map section xs) s ≡ root_of origins s
past_sections origins xs s h k =
    get_or_past (map section xs) s s (omega (arith, length-map xs section, h)) ∙ sym (root_of-root origins s (get_or_past origins s Root k))

all_listed_case : (origins : List Origin) (xs : List SectionId) (n : ℕ) → length xs ≡ n → length origins ≤ n
    → ((s : ℕ) → s < n → listed_root (map section xs) s ≡ root_of origins s) → (s : ℕ) (b : Bool) → nat_lt s n ≡ b
    → listed_root (map section xs) s ≡ root_of origins s
all_listed_case origins xs n len end roots s true e = roots s (ltb-true s n e)
all_listed_case origins xs n len end roots s false e =
    let past : n ≤ s = ltb-false s n e in past_sections origins xs s (omega arith) (omega arith)

-- all roots are listed
pub all_listed : (origins : List Origin) (xs : List SectionId) (n : ℕ) → length xs ≡ n → length origins ≤ n
    → ((s : ℕ) → s < n → listed_root (map section xs) s ≡ root_of origins s) → (s : ℕ)
    → listed_root (map section xs) s ≡ root_of origins s
all_listed origins xs n len end roots s = all_listed_case origins xs n len end roots s (nat_lt s n) refl

module _ (origins : List Origin) (numbered : IsNumbered origins) where
  -- the root of the next section, by those before it
  root_next : (listed : ℕ → ℕ) (n : ℕ) → ((s : ℕ) → s < n → listed s ≡ root_of origins s)
      → beyond n listed (origin_of origins n) ≡ root_of origins n
  root_next listed n before = elim (root_or_side origins n) [
    | inl e ↦ ap (beyond n listed) e ∙ sym (root_of-root origins n e)
    | inr (s, side) ↦
        beyond-side origins n listed n s side ∙ before s (parent_below origins numbered s n side)
        ∙ sym (root_of-side origins numbered n s side)
  ]

  -- one more root is listed
  pub roots_more : (xs ys : List SectionId) (x : SectionId) (n : ℕ) → length xs ≡ n → ys ≡ xs ++ x ∷ []
      → ((s : ℕ) → s < n → listed_root (map section xs) s ≡ root_of origins s)
      → x.number ≡ beyond n (listed_root (map section xs)) (origin_of origins n)
      → (s : ℕ) → s < n + 1 → listed_root (map section ys) s ≡ root_of origins s
  roots_more xs ys x n len e before is =
      below_more (λ s. listed_root (map section ys) s ≡ root_of origins s) n
      (λ s (h : s < n). ap (λ (zs : List SectionId). listed_root (map section zs) s) e
      ∙ listed_before xs x s s (omega arith) ∙ before s h)
      (ap (λ (zs : List SectionId). listed_root (map section zs) n) e
      ∙ ap (λ k. slice_index_or (map section (xs ++ x ∷ [])) k n) (sym len) ∙ listed_last xs x n
      ∙ is ∙ root_next (listed_root (map section xs)) n before)
