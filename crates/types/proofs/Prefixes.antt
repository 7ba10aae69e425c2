-- What is known about sections stays true as more are added.
use Rattle.std.proofs.Common.{◌≡◌, ℕ, zero, suc, ◌+◌, ◌<◌, ◌≤◌, List, [], ◌∷◌, ◌++◌, length, refl, ap, ◌∙◌, arith}
use Rattle.std.specs.Prelude.{Bool, ◌&&◌, ◌||◌, not, nat_eq}
use Rattle.std.specs.List.{list_any}
use Rattle.sections.specs.Member.{Member, first, next}
use Rattle.sections.specs.Origins.{Origin, Root, Left, Right, Piece, origin_of, IsNumbered}
use Rattle.sections.specs.Overlap.{beyond, one_parent, line_within, line, root_within, root_of, are_sides, are_opposite}
use Rattle.sections.specs.Overlap.{under_opposite, overlap}
use Rattle.sections.proofs.Numbered.{origin-prefix}
use Rattle.sections.proofs.Lines.{line-below}

beyond-same : {A : Type 0} (d : A) (f g : ℕ → A) (o : Origin) (n : ℕ) → ((s : ℕ) → o ≡ Left s → s < n)
    → ((s : ℕ) → o ≡ Right s → s < n) → ((s : ℕ) → o ≡ Piece s → s < n) → ((s : ℕ) → s < n → f s ≡ g s)
    → beyond d f o ≡ beyond d g o
beyond-same d f g Root n l r p h = refl
beyond-same d f g (Left s) n l r p h = h s (l s refl)
beyond-same d f g (Right s) n l r p h = h s (r s refl)
beyond-same d f g (Piece s) n l r p h = h s (p s refl)

any-same : (f g : ℕ → Bool) (xs : List ℕ) → ((x : ℕ) → Member x xs → f x ≡ g x) → list_any f xs ≡ list_any g xs
any-same f g [] h = refl
any-same f g (x ∷ xs) h =
    ap (λ b. b || list_any f xs) (h x first) ∙ ap (λ b. g x || b) (any-same f g xs (λ y m. h y (next m)))

module _ (os ps : List Origin) (numbered : IsNumbered os) where
  root_within-prefix : (n a : ℕ) → a < length os → root_within (os ++ ps) n a ≡ root_within os n a
  root_within-prefix zero a h = refl
  root_within-prefix (suc n) a h =
      ap (beyond a (root_within (os ++ ps) n)) (origin-prefix os ps a h)
      ∙ beyond-same a (root_within (os ++ ps) n) (root_within os n) (origin_of os a) a (numbered.left a) (numbered.right a)
      (numbered.piece a) (λ s k. root_within-prefix n s (let below : s < a = k in omega arith))

  line_within-prefix : (n a : ℕ) → a < length os → line_within (os ++ ps) n a ≡ line_within os n a
  line_within-prefix zero a h = refl
  line_within-prefix (suc n) a h =
      ap (λ o. a ∷ beyond [] (line_within (os ++ ps) n) o) (origin-prefix os ps a h)
      ∙ ap (λ l. a ∷ l) (beyond-same [] (line_within (os ++ ps) n) (line_within os n) (origin_of os a) a (numbered.left a)
      (numbered.right a) (numbered.piece a) (λ s k. line_within-prefix n s (let below : s < a = k in omega arith)))

  pub root-prefix : (a : ℕ) → a < length os → root_of (os ++ ps) a ≡ root_of os a
  root-prefix a h = root_within-prefix a a h

  line-prefix : (a : ℕ) → a < length os → line (os ++ ps) a ≡ line os a
  line-prefix a h = line_within-prefix a a h

  sides-prefix : (l r : ℕ) → l < length os → r < length os → are_sides (os ++ ps) l r ≡ are_sides os l r
  sides-prefix l r h k =
      ap (λ o. nat_eq r (l + 1) && one_parent o (origin_of (os ++ ps) r)) (origin-prefix os ps l h)
      ∙ ap (λ o. nat_eq r (l + 1) && one_parent (origin_of os l) o) (origin-prefix os ps r k)

  opposite-prefix : (a b : ℕ) → a < length os → b < length os → are_opposite (os ++ ps) a b ≡ are_opposite os a b
  opposite-prefix a b h k =
      ap (λ t. t || are_sides (os ++ ps) b a) (sides-prefix a b h k) ∙ ap (λ t. are_sides os a b || t) (sides-prefix b a k h)

  in_line : (x a : ℕ) → a < length os → Member x (line os a) → x < length os
  in_line x a h m = let k : x ≤ a = line-below os numbered a x a m in omega arith

  under-prefix : (a b : ℕ) → a < length os → b < length os → under_opposite (os ++ ps) a b ≡ under_opposite os a b
  under-prefix a b h k =
      ap (list_any (λ x. list_any (are_opposite (os ++ ps) x) (line (os ++ ps) b))) (line-prefix a h)
      ∙ any-same (λ x. list_any (are_opposite (os ++ ps) x) (line (os ++ ps) b))
      (λ x. list_any (are_opposite os x) (line os b)) (line os a)
      (λ x m. ap (list_any (are_opposite (os ++ ps) x)) (line-prefix b k)
      ∙ any-same (are_opposite (os ++ ps) x) (are_opposite os x) (line os b)
      (λ y n. opposite-prefix x y (in_line x a h m) (in_line y b k n)))

  pub overlap-prefix : (a b : ℕ) → a < length os → b < length os → overlap (os ++ ps) a b ≡ overlap os a b
  overlap-prefix a b h k =
      ap (λ r. not (not (nat_eq r (root_of (os ++ ps) b)) || under_opposite (os ++ ps) a b)) (root-prefix a h)
      ∙ ap (λ r. not (not (nat_eq (root_of os a) r) || under_opposite (os ++ ps) a b)) (root-prefix b k)
      ∙ ap (λ u. not (not (nat_eq (root_of os a) (root_of os b)) || u)) (under-prefix a b h k)
