-- The theorems about overlap.
use Rattle.std.proofs.Common.{◌≡◌, ◌≢◌, ◌⊎◌, inl, inr, ℕ, ◌+◌, ◌-◌, ◌<◌, ◌≤◌, List, refl, sym, ap, ◌∙◌, subst, arith, true≢false}
use Rattle.std.proofs.lemmas.Bool.{eqb-true, eqb-false, eq-eqb, ne_eqb, and_parts, and_from, or_cases, or_left, or_right}
use Rattle.std.proofs.lemmas.Bool.{not-true, not-false, not_from_false, false_from_ne_true, true_from_ne_false, false≢true, cases_order}
use Rattle.std.proofs.Math.Bool.{or_comm}
use Rattle.std.specs.Prelude.{Bool, true, false, not, nat_eq}
use Rattle.std.specs.List.{list_any}
use Rattle.sections.specs.Member.{Member}
use Rattle.sections.specs.Origins.{Origin, Root, Left, Right, Piece, origin_of, IsNumbered, IsChildOf, left, right, piece}
use Rattle.sections.specs.Overlap.{one_parent, line, root_of, are_sides, are_opposite, under_opposite, are_disjoint, overlap}
use Rattle.sections.proofs.Members.{any_member, member_any}
use Rattle.sections.proofs.Lines.{in_own_line, line-below, root_of-root, root-below, parent_below, up_line, line-side}
use Rattle.sections.proofs.Lines.{root_of-side, line_cases}

module _ (origins : List Origin) where
  -- two sections, and the sides of one split that they are under
  pub record Under (a b : ℕ) : Type 0 where
    pub over_a : ℕ
    pub over_b : ℕ
    pub a_lies : Member over_a (line origins a)
    pub b_lies : Member over_b (line origins b)
    pub opposite : are_opposite origins over_a over_b ≡ true

  pub under : (a b : ℕ) → under_opposite origins a b ≡ true → Under a b
  under a b h =
      let x = any_member (λ x. list_any (are_opposite origins x) (line origins b)) (line origins a) h in
      let y = any_member (are_opposite origins x.item) (line origins b) x.passes in
      record { over_a = x.item; over_b = y.item; a_lies = x.member; b_lies = y.member; opposite = y.passes }

  pub under_opposite-from : (a b : ℕ) → Under a b → under_opposite origins a b ≡ true
  under_opposite-from a b u =
      member_any (λ x. list_any (are_opposite origins x) (line origins b)) (line origins a) u.a_lies
      (member_any (are_opposite origins u.over_a) (line origins b) u.b_lies u.opposite)

  -- what it means that two sections are disjoint
  pub disjoint_cases : (a b : ℕ) → overlap origins a b ≡ false → (root_of origins a ≢ root_of origins b) ⊎ Under a b
  disjoint_cases a b h =
      elim (or_cases (not (nat_eq (root_of origins a) (root_of origins b))) (under_opposite origins a b)
      (not-false (are_disjoint origins a b) h)) [
        | inl k ↦ inl (eqb-false (root_of origins a) (root_of origins b) (not-true (nat_eq (root_of origins a) (root_of origins b)) k))
        | inr k ↦ inr (under a b k)
      ]

  pub roots-disjoint : (a b : ℕ) → root_of origins a ≢ root_of origins b → overlap origins a b ≡ false
  roots-disjoint a b ne = ap not (or_left (not (nat_eq (root_of origins a) (root_of origins b))) (under_opposite origins a b)
      (not_from_false (nat_eq (root_of origins a) (root_of origins b)) (ne_eqb (root_of origins a) (root_of origins b) ne)))

  pub under-disjoint : (a b : ℕ) → Under a b → overlap origins a b ≡ false
  under-disjoint a b u = ap not (or_right (not (nat_eq (root_of origins a) (root_of origins b))) (under_opposite origins a b)
      (under_opposite-from a b u))

  -- two tests of overlap are equal if sections that are disjoint by one are disjoint by the other
  same_overlap : (a b c d : ℕ) → (overlap origins a b ≡ false → overlap origins c d ≡ false)
      → (overlap origins c d ≡ false → overlap origins a b ≡ false) → overlap origins a b ≡ overlap origins c d
  same_overlap a b c d f g = by_falsehood (overlap origins a b) (overlap origins c d) f g
    where
      by_falsehood : (x y : Bool) → (x ≡ false → y ≡ false) → (y ≡ false → x ≡ false) → x ≡ y
      by_falsehood true true f g = refl
      by_falsehood true false f g = g refl
      by_falsehood false y f g = sym (f refl)

  opposite-sym : (a b : ℕ) → are_opposite origins a b ≡ are_opposite origins b a
  opposite-sym a b = or_comm (are_sides origins a b) (are_sides origins b a)

  under-turned : (a b : ℕ) → Under a b → Under b a
  under-turned a b u = record {
    over_a = u.over_b;
    over_b = u.over_a;
    a_lies = u.b_lies;
    b_lies = u.a_lies;
    opposite = opposite-sym u.over_b u.over_a ∙ u.opposite;
  }

  disjoint-turned : (a b : ℕ) → overlap origins a b ≡ false → overlap origins b a ≡ false
  disjoint-turned a b h = elim (disjoint_cases a b h) [
    | inl ne ↦ roots-disjoint b a (λ e. ne (sym e))
    | inr u ↦ under-disjoint b a (under-turned a b u)
  ]

  pub overlap-sym : (a b : ℕ) → overlap origins a b ≡ overlap origins b a
  overlap-sym a b = same_overlap a b b a (disjoint-turned a b) (disjoint-turned b a)

  pub opposite-disjoint : (a b : ℕ) → are_opposite origins a b ≡ true → overlap origins a b ≡ false
  opposite-disjoint a b h = under-disjoint a b (record {
    over_a = a;
    over_b = b;
    a_lies = in_own_line origins a a;
    b_lies = in_own_line origins b b;
    opposite = h;
  })

  pub sides-disjoint : (l r : ℕ) → are_sides origins l r ≡ true → overlap origins l r ≡ false
  sides-disjoint l r h = opposite-disjoint l r (or_left (are_sides origins l r) (are_sides origins r l) h)

  -- what it means to be two sides of one split
  pub record Sides (l r : ℕ) : Type 0 where
    pub turn : r ≡ l + 1
    pub parent : ℕ
    pub left_of : origin_of origins l ≡ Left parent
    pub right_of : origin_of origins r ≡ Right parent

  sides_by : (l r : ℕ) (o u : Origin) → origin_of origins l ≡ o → origin_of origins r ≡ u → r ≡ l + 1
      → one_parent o u ≡ true → Sides l r
  sides_by l r (Left s) (Right t) e f n h =
      record { turn = n; parent = s; left_of = e; right_of = f ∙ ap Right (sym (eqb-true s t h)) }
  sides_by l r Root u e f n h = absurd (false≢true h)
  sides_by l r (Right s) u e f n h = absurd (false≢true h)
  sides_by l r (Piece s) u e f n h = absurd (false≢true h)
  sides_by l r (Left s) Root e f n h = absurd (false≢true h)
  sides_by l r (Left s) (Left t) e f n h = absurd (false≢true h)
  sides_by l r (Left s) (Piece t) e f n h = absurd (false≢true h)

  pub sides : (l r : ℕ) → are_sides origins l r ≡ true → Sides l r
  sides l r h =
      let k = and_parts (nat_eq r (l + 1)) (one_parent (origin_of origins l) (origin_of origins r)) h in
      sides_by l r (origin_of origins l) (origin_of origins r) refl refl (eqb-true r (l + 1) k.0) k.1

  pub are_sides-from : (l r : ℕ) → Sides l r → are_sides origins l r ≡ true
  are_sides-from l r s = and_from (nat_eq r (l + 1)) (one_parent (origin_of origins l) (origin_of origins r))
      (eq-eqb r (l + 1) s.turn) (ap (λ o. one_parent o (origin_of origins r)) s.left_of ∙ ap (one_parent (Left s.parent)) s.right_of
      ∙ eq-eqb s.parent s.parent refl)

  pub opposite_cases : (x y : ℕ) → are_opposite origins x y ≡ true → Sides x y ⊎ Sides y x
  opposite_cases x y h = elim (or_cases (are_sides origins x y) (are_sides origins y x) h) [
    | inl k ↦ inl (sides x y k)
    | inr k ↦ inr (sides y x k)
  ]

  -- a section has one parent
  right_parent : (a s t : ℕ) → origin_of origins a ≡ Right s → IsChildOf origins t a → s ≡ t
  right_parent a s t e (left f) = absurd cc
  right_parent a s t e (right f) = cc
  right_parent a s t e (piece f) = absurd cc

  module _ (numbered : IsNumbered origins) where
    -- each side has the other one of its split next to it
    pub left_has_right : (l s : ℕ) → origin_of origins l ≡ Left s → are_sides origins l (l + 1) ≡ true
    left_has_right l s e = are_sides-from l (l + 1) (record {
      turn = refl;
      parent = s;
      left_of = e;
      right_of = numbered.right_behind l s e;
    })

    pub right_has_left : (r s : ℕ) → origin_of origins r ≡ Right s → are_sides origins (r - 1) r ≡ true
    right_has_left r s e = are_sides-from (r - 1) r (record {
      turn = let below : s < r = numbered.right r s e in omega (arith, below);
      parent = s;
      left_of = numbered.left_before r s e;
      right_of = e;
    })

    -- no line contains both sides of one split
    sides_part : (l r a : ℕ) → Sides l r → Member l (line origins a) → Member r (line origins a) → ⊥
    sides_part l r a s h k =
        let same : l ≡ r =
        line_cases origins numbered a l r a h k
        (λ t side low.
        (let below : t < l = parent_below origins numbered t l side in
        let n : r ≡ l + 1 = s.turn in
        omega (arith, below, low, n)))
        (λ t side low.
        (let parent : s.parent ≡ t = right_parent r s.parent t s.right_of side in
        let below : s.parent < l = numbered.left l s.parent s.left_of in
        omega (arith, below, low, parent)))
        in
        let n : r ≡ l + 1 = s.turn in
        omega (arith, same, n)

    -- a section overlaps itself
    pub overlap-self : (a : ℕ) → overlap origins a a ≡ true
    overlap-self a = true_from_ne_false (overlap origins a a) (λ h. elim (disjoint_cases a a h) [
      | inl ne ↦ ne refl
      | inr u ↦ elim (opposite_cases u.over_a u.over_b u.opposite) [
        | inl s ↦ sides_part u.over_a u.over_b a s u.a_lies u.b_lies
        | inr s ↦ sides_part u.over_b u.over_a a s u.b_lies u.a_lies
      ]
    ])

    under-side : (a s b : ℕ) → IsChildOf origins s a → Under s b → Under a b
    under-side a s b side u = record {
      over_a = u.over_a;
      over_b = u.over_b;
      a_lies = up_line origins numbered a s u.over_a side u.a_lies;
      b_lies = u.b_lies;
      opposite = u.opposite;
    }

    -- what is disjoint from a section is disjoint from its sides
    pub side-disjoint : (a s b : ℕ) → IsChildOf origins s a → overlap origins s b ≡ false → overlap origins a b ≡ false
    side-disjoint a s b side h = elim (disjoint_cases s b h) [
      | inl ne ↦ roots-disjoint a b (λ e. ne (sym (root_of-side origins numbered a s side) ∙ e))
      | inr u ↦ under-disjoint a b (under-side a s b side u)
    ]

    -- a root with the larger number is disjoint
    pub root-disjoint : (a b : ℕ) → a < b → origin_of origins b ≡ Root → overlap origins a b ≡ false
    root-disjoint a b h e = roots-disjoint a b (λ same.
        (let r : root_of origins b ≡ b = root_of-root origins b e in
        let k : root_of origins a ≤ a = root-below origins numbered a in
        omega (arith, same, r, k, h)))

    -- only the smaller one itself can be opposite to the larger one
    opposite_below : (a b x : ℕ) → a < b → x ≤ a → are_opposite origins x b ≡ true → x ≡ a
    opposite_below a b x h k o = elim (opposite_cases x b o) [
      | inl s ↦ (let n : b ≡ x + 1 = s.turn in omega (arith, n, h, k))
      | inr s ↦ (let n : x ≡ b + 1 = s.turn in absurd (omega (arith, n, h, k)))
    ]

    under_parent : (a b s : ℕ) → a < b → IsChildOf origins s b → are_opposite origins a b ≡ false → Under a b → Under a s
    under_parent a b s h side o u = elim (line-side origins numbered b s u.over_b side u.b_lies) [
      | inl e ↦
          (let i : are_opposite origins u.over_a b ≡ true = subst (λ y. are_opposite origins u.over_a y ≡ true) e u.opposite in
          let same : u.over_a ≡ a = opposite_below a b u.over_a h (line-below origins numbered a u.over_a a u.a_lies) i in
          absurd (true≢false (sym (subst (λ x. are_opposite origins x b ≡ true) same i) ∙ o)))
      | inr k ↦ record {
        over_a = u.over_a;
        over_b = u.over_b;
        a_lies = u.a_lies;
        b_lies = k;
        opposite = u.opposite;
      }
    ]

    disjoint_parent : (a b s : ℕ) → a < b → IsChildOf origins s b → are_opposite origins a b ≡ false
        → overlap origins a b ≡ false → overlap origins a s ≡ false
    disjoint_parent a b s h side o d = elim (disjoint_cases a b d) [
      | inl ne ↦ roots-disjoint a s (λ e. ne (e ∙ sym (root_of-side origins numbered b s side)))
      | inr u ↦ under-disjoint a s (under_parent a b s h side o u)
    ]

    -- a side with the larger number overlaps what its parent does, except the other side
    pub overlap-walks : (a b s : ℕ) → a < b → IsChildOf origins s b → are_opposite origins a b ≡ false
        → overlap origins a b ≡ overlap origins a s
    overlap-walks a b s h side o = same_overlap a b a s (disjoint_parent a b s h side o) (λ d.
        disjoint-turned b a (side-disjoint b s a side (disjoint-turned a s d)))

    parent_not_opposite : (s a : ℕ) → IsChildOf origins s a → are_opposite origins s a ≡ false
    parent_not_opposite s a side = false_from_ne_true (are_opposite origins s a) (λ h.
        (let below : s < a = parent_below origins numbered s a side in
        elim (opposite_cases s a h) [
          | inl o ↦
              (let own : o.parent < s = numbered.left s o.parent o.left_of in
              let same : o.parent ≡ s = right_parent a o.parent s o.right_of side in
              omega (arith, own, same))
          | inr o ↦ (let n : s ≡ a + 1 = o.turn in omega (arith, below, n))
        ]))

    -- a section overlaps its sides
    pub overlap-side : (s a : ℕ) → IsChildOf origins s a → overlap origins s a ≡ true
    overlap-side s a side =
        overlap-walks s a s (parent_below origins numbered s a side) side (parent_not_opposite s a side) ∙ overlap-self s

    -- sides of a section overlap if they aren't the sides of one split
    pub two_splits-overlap : (s a b : ℕ) → IsChildOf origins s a → IsChildOf origins s b → are_opposite origins a b ≡ false
        → overlap origins a b ≡ true
    two_splits-overlap s a b f g o = elim (cases_order a b) [
      | inl e ↦ ap (overlap origins a) (sym e) ∙ overlap-self a
      | inr (inl h) ↦ overlap-walks a b s h g o ∙ overlap-sym a s ∙ overlap-side s a f
      | inr (inr h) ↦
          overlap-sym a b ∙ overlap-walks b a s h f (opposite-sym b a ∙ o) ∙ overlap-sym b s ∙ overlap-side s b g
    ]
