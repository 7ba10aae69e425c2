-- Which sections of one procedure can share places, by their origins.
use Rattle.std.specs.Prelude.{ℕ, zero, suc, ◌+◌, List, [], ◌∷◌, Bool, false, ◌&&◌, ◌||◌, not, nat_eq}
use Rattle.std.specs.List.{list_any}
use Rattle.sections.specs.Origins.{Origin, Root, Left, Right, Piece, origin_of}

-- what an origin refers to: nothing, or the parent
abbrev pub beyond : {A : Type 0} → A → (ℕ → A) → Origin → A
beyond d go Root = d
beyond d go (Left p) = go p
beyond d go (Right p) = go p
beyond d go (Piece p) = go p

-- two origins are the left and the right side of one section
abbrev pub one_parent : Origin → Origin → Bool
one_parent (Left p) (Right q) = nat_eq p q
one_parent _ _ = false

module _ (origins : List Origin) where
  -- the line of a section: the section, its parent, and so on up to its root, in at most this many
  -- steps
  abbrev pub line_within : ℕ → ℕ → List ℕ
  line_within zero a = a ∷ []
  line_within (suc n) a = a ∷ beyond [] (line_within n) (origin_of origins a)

  -- the whole line of a section; a parent has the smaller number
  abbrev pub line : ℕ → List ℕ
  line a = line_within a a

  abbrev pub root_within : ℕ → ℕ → ℕ
  root_within zero a = a
  root_within (suc n) a = beyond a (root_within n) (origin_of origins a)

  -- the array or parameter that contains a section
  abbrev pub root_of : ℕ → ℕ
  root_of a = root_within a a

  -- the first is the left side and the second the right side of one split; their numbers are
  -- consecutive
  abbrev pub are_sides : (left right : ℕ) → Bool
  are_sides l r = nat_eq r (l + 1) && one_parent (origin_of origins l) (origin_of origins r)

  -- they are different sides of one split
  abbrev pub are_opposite : ℕ → ℕ → Bool
  are_opposite a b = are_sides a b || are_sides b a

  -- two sections are under different sides of one split
  abbrev pub under_opposite : ℕ → ℕ → Bool
  under_opposite a b = list_any (λ x. list_any (are_opposite x) (line b)) (line a)

  -- two sections are disjoint if their roots differ, or if they are under different sides of one
  -- split
  abbrev pub are_disjoint : ℕ → ℕ → Bool
  are_disjoint a b = not (nat_eq (root_of a) (root_of b)) || under_opposite a b

  -- all others overlap
  abbrev pub overlap : ℕ → ℕ → Bool
  overlap a b = not (are_disjoint a b)
