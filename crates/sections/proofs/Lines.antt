-- Lines from a section up to its root.
use Rattle.std.proofs.Common.{◌≡◌, ◌⊎◌, inl, inr, ℕ, zero, suc, ◌<◌, ◌≤◌, List, [], refl, sym, ap, ◌∙◌, subst, arith}
use Rattle.std.proofs.Common.{le_refl}
use Rattle.sections.specs.Member.{Member, first, next}
use Rattle.sections.specs.Origins.{Origin, Root, Left, Right, Piece, origin_of, IsNumbered, IsChildOf, left, right, piece}
use Rattle.sections.specs.Overlap.{beyond, line_within, line, root_within, root_of}

module _ (origins : List Origin) where
  pub root_or_side : (a : ℕ) → (origin_of origins a ≡ Root) ⊎ ((s : ℕ) × IsChildOf origins s a)
  root_or_side a = go (origin_of origins a) refl
    where
      go : (o : Origin) → origin_of origins a ≡ o → (origin_of origins a ≡ Root) ⊎ ((s : ℕ) × IsChildOf origins s a)
      go Root e = inl e
      go (Left s) e = inr (s, left e)
      go (Right s) e = inr (s, right e)
      go (Piece s) e = inr (s, piece e)

  pub beyond-side : {A : Type 0} (d : A) (go : ℕ → A) (a s : ℕ) → IsChildOf origins s a → beyond d go (origin_of origins a) ≡ go s
  beyond-side d go a s (left e) = ap (beyond d go) e
  beyond-side d go a s (right e) = ap (beyond d go) e
  beyond-side d go a s (piece e) = ap (beyond d go) e

  -- what is in a line after its first section is in the line of the parent
  pub record Behind (n a x : ℕ) : Type 0 where
    pub parent : ℕ
    pub side : IsChildOf origins parent a
    pub member : Member x (line_within origins n parent)

  pub behind : (n a x : ℕ) → Member x (beyond [] (line_within origins n) (origin_of origins a)) → Behind n a x
  behind n a x h = elim (root_or_side a) [
    | inl e ↦ (let k : Member x [] = subst (Member x) (ap (beyond [] (line_within origins n)) e) h in elim k [ ])
    | inr (s, side) ↦ record {
      parent = s;
      side = side;
      member = subst (Member x) (beyond-side [] (line_within origins n) a s side) h;
    }
  ]

  from_parent : (n a s x : ℕ) → IsChildOf origins s a → Member x (line_within origins n s)
      → Member x (beyond [] (line_within origins n) (origin_of origins a))
  from_parent n a s x side h = subst (Member x) (sym (beyond-side [] (line_within origins n) a s side)) h

  pub in_own_line : (n a : ℕ) → Member a (line_within origins n a)
  in_own_line zero a = first
  in_own_line (suc n) a = first

  root_within-root : (n a : ℕ) → origin_of origins a ≡ Root → root_within origins n a ≡ a
  root_within-root zero a e = refl
  root_within-root (suc n) a e = ap (beyond a (root_within origins n)) e

  root_within-side : (n a s : ℕ) → IsChildOf origins s a → root_within origins (suc n) a ≡ root_within origins n s
  root_within-side n a s side = beyond-side a (root_within origins n) a s side

  -- a root is its own root
  pub root_of-root : (a : ℕ) → origin_of origins a ≡ Root → root_of origins a ≡ a
  root_of-root a e = root_within-root a a e

  -- the root of a line is its last section
  pub root_in_line : (n a : ℕ) → Member (root_within origins n a) (line_within origins n a)
  root_in_line zero a = first
  root_in_line (suc n) a = elim (root_or_side a) [
    | inl e ↦ subst (λ r. Member r (line_within origins (suc n) a)) (sym (root_within-root (suc n) a e)) (in_own_line (suc n) a)
    | inr (s, side) ↦ subst (λ r. Member r (line_within origins (suc n) a)) (sym (root_within-side n a s side))
        (next (from_parent n a s (root_within origins n s) side (root_in_line n s)))
  ]

  module _ (numbered : IsNumbered origins) where
    pub parent_below : (s a : ℕ) → IsChildOf origins s a → s < a
    parent_below s a (left e) = numbered.left a s e
    parent_below s a (right e) = numbered.right a s e
    parent_below s a (piece e) = numbered.piece a s e

    -- a line goes down
    pub line-below : (n x a : ℕ) → Member x (line_within origins n a) → x ≤ a
    line-below zero x a first = omega arith
    line-below zero x a (next h) = elim h [ ]
    line-below (suc n) x a first = omega arith
    line-below (suc n) x a (next h) =
        let r = behind n a x h in
        let k : x ≤ r.parent = line-below n x r.parent r.member in
        let m : r.parent < a = parent_below r.parent a r.side in
        omega (arith, k, m)

    -- a line is complete after as many steps as the section's number
    line-enough : (n m x a : ℕ) → a ≤ m → Member x (line_within origins n a) → Member x (line_within origins m a)
    line-enough zero m x a h first = in_own_line m a
    line-enough zero m x a h (next k) = elim k [ ]
    line-enough (suc n) m x a h first = in_own_line m a
    line-enough (suc n) zero x a h (next k) =
        let r = behind n a x k in
        let below : r.parent < a = parent_below r.parent a r.side in
        absurd (omega (arith, below, h))
    line-enough (suc n) (suc m) x a h (next k) =
        let r = behind n a x k in
        let below : r.parent < a = parent_below r.parent a r.side in
        next (from_parent m a r.parent x r.side (line-enough n m x r.parent (omega (arith, below, h)) r.member))

    -- and so its root is reached
    root-enough : (n m a : ℕ) → a ≤ n → a ≤ m → root_within origins n a ≡ root_within origins m a
    root-enough zero m a h k = elim (root_or_side a) [
      | inl e ↦ sym (root_within-root m a e)
      | inr (s, side) ↦ (let below : s < a = parent_below s a side in absurd (omega (arith, below, h)))
    ]
    root-enough (suc n) zero a h k = elim (root_or_side a) [
      | inl e ↦ root_within-root (suc n) a e
      | inr (s, side) ↦ (let below : s < a = parent_below s a side in absurd (omega (arith, below, k)))
    ]
    root-enough (suc n) (suc m) a h k = elim (root_or_side a) [
      | inl e ↦ root_within-root (suc n) a e ∙ sym (root_within-root (suc m) a e)
      | inr (s, side) ↦
          (let below : s < a = parent_below s a side in
          root_within-side n a s side
          ∙ root-enough n m s (omega (arith, below, h)) (omega (arith, below, k))
          ∙ sym (root_within-side m a s side))
    ]

    root_within_is_root : (n a : ℕ) → a ≤ n → origin_of origins (root_within origins n a) ≡ Root
    root_within_is_root zero a h = elim (root_or_side a) [
      | inl e ↦ e
      | inr (s, side) ↦ (let below : s < a = parent_below s a side in absurd (omega (arith, below, h)))
    ]
    root_within_is_root (suc n) a h = elim (root_or_side a) [
      | inl e ↦ ap (origin_of origins) (root_within-root (suc n) a e) ∙ e
      | inr (s, side) ↦
          (let below : s < a = parent_below s a side in
          ap (origin_of origins) (root_within-side n a s side) ∙ root_within_is_root n s (omega (arith, below, h)))
    ]

    -- the last section of a line is a root
    pub root_is_root : (a : ℕ) → origin_of origins (root_of origins a) ≡ Root
    root_is_root a = root_within_is_root a a (le_refl a)

    pub root-below : (a : ℕ) → root_of origins a ≤ a
    root-below a = line-below a (root_of origins a) a (root_in_line a a)

    -- the line of a side is itself and the line of its parent
    pub up_line : (a s x : ℕ) → IsChildOf origins s a → Member x (line origins s) → Member x (line origins a)
    up_line zero s x side h = let below : s < 0 = parent_below s 0 side in absurd (omega (arith, below))
    up_line (suc a) s x side h =
        let below : s < suc a = parent_below s (suc a) side in
        next (from_parent a (suc a) s x side (line-enough s a x s (omega (arith, below)) h))

    pub line-side : (a s x : ℕ) → IsChildOf origins s a → Member x (line origins a) → (x ≡ a) ⊎ Member x (line origins s)
    line-side zero s x side h = let below : s < 0 = parent_below s 0 side in absurd (omega (arith, below))
    line-side (suc a) s x side first = inl refl
    line-side (suc a) s x side (next h) =
        inr (line-enough a s x s (le_refl s) (subst (Member x) (beyond-side [] (line_within origins a) (suc a) s side) h))

    -- a side has the root of its parent
    pub root_of-side : (a s : ℕ) → IsChildOf origins s a → root_of origins a ≡ root_of origins s
    root_of-side zero s side = let below : s < 0 = parent_below s 0 side in absurd (omega (arith, below))
    root_of-side (suc a) s side =
        let below : s < suc a = parent_below s (suc a) side in
        root_within-side a (suc a) s side ∙ root-enough a s s (omega (arith, below)) (le_refl s)

    -- two sections of one line, one after the other
    pub line_cases : (n x y a : ℕ) → Member x (line_within origins n a) → Member y (line_within origins n a)
        → ((t : ℕ) → IsChildOf origins t x → y ≤ t → ⊥) → ((t : ℕ) → IsChildOf origins t y → x ≤ t → ⊥) → x ≡ y
    line_cases zero x y a first first f g = refl
    line_cases zero x y a (next h) k f g = elim h [ ]
    line_cases zero x y a first (next k) f g = elim k [ ]
    line_cases (suc n) x y a first first f g = refl
    line_cases (suc n) x y a first (next k) f g =
        let r = behind n x y k in absurd (f r.parent r.side (line-below n y r.parent r.member))
    line_cases (suc n) x y a (next h) first f g =
        let r = behind n y x h in absurd (g r.parent r.side (line-below n x r.parent r.member))
    line_cases (suc n) x y a (next h) (next k) f g = elim (root_or_side a) [
      | inl e ↦ (let j : Member x [] = subst (Member x) (ap (beyond [] (line_within origins n)) e) h in elim j [ ])
      | inr (s, side) ↦
          line_cases n x y s (subst (Member x) (beyond-side [] (line_within origins n) a s side) h)
          (subst (Member y) (beyond-side [] (line_within origins n) a s side) k) f g
    ]
