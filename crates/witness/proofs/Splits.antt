-- Sections in sides of different splits, and the nearest section of which both are parts.
use Rattle.std.proofs.Common.{◌≡◌, ◌≢◌, ◌⊎◌, inl, inr, ℕ, zero, suc, ◌+◌, ◌<◌, ◌≤◌, List, refl, sym, ◌∙◌, subst, ap, true≢false, arith}
use Rattle.std.proofs.Common.{le_refl}
use Rattle.std.proofs.Math.Bool.{or_comm}
use Rattle.std.proofs.lemmas.Bool.{cases_eq, cases_order, false_from_ne_true, true_from_ne_false}
use Rattle.std.specs.Prelude.{true}
use Rattle.sections.specs.Member.{Member, first, next}
use Rattle.sections.specs.Origins.{Origin, Left, Right, Piece, IsNumbered, IsChildOf, left, right, piece}
use Rattle.sections.specs.Overlap.{line, line_within, root_of, are_sides, are_opposite, overlap}
use Rattle.sections.specs.declared.id.SectionId.{SectionId}
use Rattle.sections.proofs.Lines.{behind, in_own_line, parent_below, root_of-side, root_or_side, up_line}
use Rattle.sections.proofs.Overlapping.{disjoint_cases, under-disjoint, opposite_cases, overlap-self, overlap-sym, overlap-walks}
use Rattle.witness.specs.Sharing.{LiesIn, AreOfTwoSplits, Shares, IsNearest}
use Rattle.witness.specs.declared.sharing.Sharing.{Sharing}
use Rattle.witness.specs.declared.sharing.Sharing.TheVariants.{Same, FirstIsPart, SecondIsPart, OfSplits}
use Rattle.witness.proofs.Parts.{lies_cases, itself_lies, met_root, side_overlap}

module _ (origins : List Origin) where
  pub parts_of_parts : {a s b : ℕ} → LiesIn origins a s → LiesIn origins s b → LiesIn origins a b
  parts_of_parts LiesIn.itself k = k
  parts_of_parts (LiesIn.side i h) k = LiesIn.side i (parts_of_parts h k)

  -- a section has one parent
  pub one_parent : {a s t : ℕ} → IsChildOf origins s a → IsChildOf origins t a → s ≡ t
  one_parent (left e) (left f) = let k : Left _ ≡ Left _ = sym e ∙ f in cc
  one_parent (left e) (right f) = let k : Left _ ≡ Right _ = sym e ∙ f in absurd cc
  one_parent (left e) (piece f) = let k : Left _ ≡ Piece _ = sym e ∙ f in absurd cc
  one_parent (right e) (left f) = let k : Right _ ≡ Left _ = sym e ∙ f in absurd cc
  one_parent (right e) (right f) = let k : Right _ ≡ Right _ = sym e ∙ f in cc
  one_parent (right e) (piece f) = let k : Right _ ≡ Piece _ = sym e ∙ f in absurd cc
  one_parent (piece e) (left f) = let k : Piece _ ≡ Left _ = sym e ∙ f in absurd cc
  one_parent (piece e) (right f) = let k : Piece _ ≡ Right _ = sym e ∙ f in absurd cc
  one_parent (piece e) (piece f) = let k : Piece _ ≡ Piece _ = sym e ∙ f in cc

  -- the side of s in which a part of s lies
  pub record SideAbove (s a : ℕ) : Type 0 where
    pub at : ℕ
    pub is_side : IsChildOf origins s at
    pub lies : LiesIn origins a at

  pub side_above : {a s : ℕ} → LiesIn origins a s → a ≢ s → SideAbove s a
  side_above LiesIn.itself apart = absurd (apart refl)
  side_above (LiesIn.side {a} {s} {b} i h) apart = elim (cases_eq s b) [
    | inl e ↦ record { at = a; is_side = subst (λ q. IsChildOf origins q a) e i; lies = LiesIn.itself }
    | inr other ↦ (let up = side_above h other in record { at = up.at; is_side = up.is_side; lies = LiesIn.side i up.lies })
  ]

  -- of two sections of which one section is a part, one is a part of the other
  pub part_of_both : {a x y : ℕ} → LiesIn origins a x → LiesIn origins a y → LiesIn origins x y ⊎ LiesIn origins y x
  part_of_both LiesIn.itself k = inl k
  part_of_both (LiesIn.side {a} {s} {b = x} i h) k = elim (lies_cases origins k) [
    | inl e ↦ inr (subst (λ q. LiesIn origins q x) e (LiesIn.side i h))
    | inr r ↦ part_of_both h (subst (λ q. LiesIn origins q _) (one_parent r.is_side i) r.lies)
  ]

  pub nearest-turned : {a b s : ℕ} → IsNearest origins a b s → IsNearest origins b a s
  nearest-turned h = record { first = h.second; second = h.first; nearest = λ c k m. h.nearest c m k }

  pub nearest-same : {a b : ℕ} → a ≡ b → IsNearest origins a b a
  nearest-same {a} {b} e = record { first = LiesIn.itself; second = itself_lies origins b a (sym e); nearest = λ c k m. k }

  in_line_lies : (n a x : ℕ) → Member x (line_within origins n a) → LiesIn origins a x
  in_line_lies zero a x first = LiesIn.itself
  in_line_lies zero a x (next h) = elim h [ ]
  in_line_lies (suc n) a x first = LiesIn.itself
  in_line_lies (suc n) a x (next h) = let r = behind origins n a x h in LiesIn.side r.side (in_line_lies n r.parent x r.member)

  module _ (numbered : IsNumbered origins) where
    pub part_above : {a b : ℕ} → LiesIn origins a b → b ≤ a
    part_above LiesIn.itself = omega arith
    part_above (LiesIn.side {a} {s} {b} i h) =
        let up : b ≤ s = part_above h in
        let below : s < a = parent_below origins numbered s a i in
        omega (arith, up, below)

    lies_in_line : {a b : ℕ} → LiesIn origins a b → Member b (line origins a)
    lies_in_line (LiesIn.itself {a}) = in_own_line origins a a
    lies_in_line (LiesIn.side {a} {s} {b} i h) = up_line origins numbered a s b i (lies_in_line h)

    one_root : {a b : ℕ} → LiesIn origins a b → root_of origins a ≡ root_of origins b
    one_root LiesIn.itself = refl
    one_root (LiesIn.side {a} {s} {b} i h) = root_of-side origins numbered a s i ∙ one_root h

    -- no section lies in two sides of one section
    pub one_side : {a s x y : ℕ} → IsChildOf origins s x → IsChildOf origins s y → LiesIn origins a x → LiesIn origins a y → x ≡ y
    one_side {a} {s} {x} {y} i j h k = elim (part_of_both h k) [ inl m ↦ inner x y i j m | inr m ↦ sym (inner y x j i m) ]
      where
        inner : (u v : ℕ) → IsChildOf origins s u → IsChildOf origins s v → LiesIn origins u v → u ≡ v
        inner u v f g m = elim (lies_cases origins m) [
          | inl e ↦ e
          | inr r ↦
              (let up : v ≤ r.parent = part_above r.lies in
              let same : r.parent ≡ s = one_parent r.is_side f in
              let below : s < v = parent_below origins numbered s v g in
              absurd (omega (arith, up, same, below)))
        ]

    -- one step of the walk up, from the section with the larger number
    pub nearest-above : (low high p s : ℕ) → low < high → IsChildOf origins p high → IsNearest origins p low s
        → IsNearest origins low high s
    nearest-above low high p s order i h = record {
      first = h.second;
      second = LiesIn.side i h.first;
      nearest = λ c k m. elim (lies_cases origins m) [
        | inl e ↦ (let up : c ≤ low = part_above k in absurd (omega (arith, order, e, up)))
        | inr r ↦ h.nearest c (subst (λ q. LiesIn origins q c) (one_parent r.is_side i) r.lies) k
      ];
    }

    -- there is a nearest one
    meet_above : (n low high : ℕ) → low < high → low + high ≤ suc n → overlap origins low high ≡ true
        → ((p : ℕ) → p + low ≤ n → overlap origins p low ≡ true → (s : ℕ) × IsNearest origins p low s)
        → (s : ℕ) × IsNearest origins low high s
    meet_above n low high order most h go = elim (root_or_side origins high) [
      | inl e ↦ absurd (met_root origins numbered low high order e h)
      | inr (p, i) ↦
          (let below : p < high = parent_below origins numbered p high i in
          let found = go p (omega (arith, below, most)) (side_overlap origins numbered low high order p i h) in
          (found.0, nearest-above low high p found.0 order i found.1))
    ]

    pub meet : (n a b : ℕ) → a + b ≤ n → overlap origins a b ≡ true → (s : ℕ) × IsNearest origins a b s
    meet zero a b most h = (a, nearest-same (omega (arith, most)))
    meet (suc n) a b most h = elim (cases_order a b) [
      | inl e ↦ (a, nearest-same e)
      | inr (inl order) ↦ meet_above n a b order most h (λ p fewer k. meet n p a fewer k)
      | inr (inr order) ↦
          (let found = meet_above n b a order (omega (arith, most)) (overlap-sym origins b a ∙ h) (λ p fewer k. meet n p b fewer k) in
          (found.0, nearest-turned found.1))
    ]

    -- sections of which neither is a part of the other lie in sides of different splits of the nearest one
    pub apart_at_nearest : (a b s : ℕ) → (LiesIn origins a b → ⊥) → (LiesIn origins b a → ⊥) → overlap origins a b ≡ true
        → IsNearest origins a b s → Shares origins a b (OfSplits (record { number = s }))
    apart_at_nearest a b s f g h near =
        let x = side_above near.first (λ e. g (subst (LiesIn origins b) (sym e) near.second)) in
        let y = side_above near.second (λ e. f (subst (LiesIn origins a) (sym e) near.first)) in
        Shares.of_splits (record {
          first = x.is_side;
          second = y.is_side;
          differ = λ e.
              (let up : x.at ≤ s = part_above (near.nearest x.at x.lies (subst (LiesIn origins b) (sym e) y.lies)) in
              let below : s < x.at = parent_below origins numbered s x.at x.is_side in
              omega (arith, up, below));
          other_split = false_from_ne_true (are_opposite origins x.at y.at) (λ o.
              true≢false (sym h ∙ under-disjoint origins a b (record {
                over_a = x.at;
                over_b = y.at;
                a_lies = lies_in_line x.lies;
                b_lies = lies_in_line y.lies;
                opposite = o;
              })));
        }) x.lies y.lies

    -- the section of whose splits they are is the nearest one
    pub splits_are_nearest : (a b s x y : ℕ) → AreOfTwoSplits origins s x y → LiesIn origins a x → LiesIn origins b y
        → IsNearest origins a b s
    splits_are_nearest a b s x y two h k = record {
      first = parts_of_parts h (LiesIn.side two.first LiesIn.itself);
      second = parts_of_parts k (LiesIn.side two.second LiesIn.itself);
      nearest = λ c m n. elim (part_of_both h m) [
        | inl up ↦ elim (lies_cases origins up) [
          | inl e ↦ absurd (both_sides (subst (LiesIn origins b) (sym e) n))
          | inr r ↦ subst (λ q. LiesIn origins q c) (one_parent r.is_side two.first) r.lies
        ]
        | inr down ↦ absurd (both_sides (parts_of_parts n down))
      ];
    }
      where
        both_sides : LiesIn origins b x → ⊥
        both_sides m = two.differ (one_side two.first two.second m k)

    pub splits_keep_apart : (a b s x y : ℕ) → AreOfTwoSplits origins s x y → LiesIn origins a x → LiesIn origins b y
        → LiesIn origins a b → ⊥
    splits_keep_apart a b s x y two h k m =
        let near = splits_are_nearest a b s x y two h k in
        let up : b ≤ s = part_above (near.nearest b m LiesIn.itself) in
        let down : y ≤ b = part_above k in
        let below : s < y = parent_below origins numbered s y two.second in
        omega (arith, up, down, below)

    opposite_differ : (x y : ℕ) → are_opposite origins x y ≡ true → x ≢ y
    opposite_differ x y o e = elim (opposite_cases origins x y o) [
      | inl t ↦ (let turn : y ≡ x + 1 = t.turn in omega (arith, turn, e))
      | inr t ↦ (let turn : x ≡ y + 1 = t.turn in omega (arith, turn, e))
    ]

    -- two sections don't lie in sides of different splits, and in both sides of one
    one_split : (a b s x y p u v : ℕ) → AreOfTwoSplits origins s x y → LiesIn origins a x → LiesIn origins b y
        → IsChildOf origins p u → IsChildOf origins p v → LiesIn origins a u → LiesIn origins b v → are_opposite origins u v ≡ true → ⊥
    one_split a b s x y p u v two h k i j m n o = elim (cases_eq s p) [
      | inl e ↦
          (let first : x ≡ u = one_side two.first (subst (λ q. IsChildOf origins q u) (sym e) i) h m in
          let second : y ≡ v = one_side two.second (subst (λ q. IsChildOf origins q v) (sym e) j) k n in
          true≢false (sym o ∙ sym (ap (λ q. are_opposite origins q v) first) ∙ sym (ap (are_opposite origins x) second) ∙ two.other_split))
      | inr other ↦
          (let near = splits_are_nearest a b s x y two h k in
          let up = near.nearest p (parts_of_parts m (LiesIn.side i LiesIn.itself)) (parts_of_parts n (LiesIn.side j LiesIn.itself)) in
          let z = side_above up other in
          let first : u ≡ z.at = one_side i z.is_side m (parts_of_parts near.first z.lies) in
          let second : v ≡ z.at = one_side j z.is_side n (parts_of_parts near.second z.lies) in
          opposite_differ u v o (first ∙ sym second))
    ]

    pub splits_overlap : (a b s x y : ℕ) → AreOfTwoSplits origins s x y → LiesIn origins a x → LiesIn origins b y
        → overlap origins a b ≡ true
    splits_overlap a b s x y two h k = true_from_ne_false (overlap origins a b) (λ d. elim (disjoint_cases origins a b d) [
      | inl ne ↦
          ne (one_root h ∙ root_of-side origins numbered x s two.first ∙ sym (root_of-side origins numbered y s two.second)
          ∙ sym (one_root k))
      | inr u ↦
          (let m = in_line_lies a a u.over_a u.a_lies in
          let n = in_line_lies b b u.over_b u.b_lies in
          elim (opposite_cases origins u.over_a u.over_b u.opposite) [
            | inl t ↦ one_split a b s x y t.parent u.over_a u.over_b two h k (left t.left_of) (right t.right_of) m n u.opposite
            | inr t ↦ one_split a b s x y t.parent u.over_a u.over_b two h k (right t.right_of) (left t.left_of) m n u.opposite
          ])
    ])

    -- a section overlaps its parts
    pub part_overlaps : {a b : ℕ} → LiesIn origins a b → overlap origins b a ≡ true
    part_overlaps (LiesIn.itself {a}) = overlap-self origins numbered a
    part_overlaps (LiesIn.side {a} {s} {b} i h) =
        let up : b ≤ s = part_above h in
        let below : s < a = parent_below origins numbered s a i in
        overlap-walks origins numbered b a s (omega (arith, up, below)) i (false_from_ne_true (are_opposite origins b a) (λ o.
        elim (opposite_cases origins b a o) [
          | inl t ↦
              (let own : t.parent < b = parent_below origins numbered t.parent b (left t.left_of) in
              let same : s ≡ t.parent = one_parent i (right t.right_of) in
              omega (arith, own, same, up))
          | inr t ↦ (let turn : b ≡ a + 1 = t.turn in omega (arith, turn, up, below))
        ])) ∙ part_overlaps h

    pub shared_overlap : (a b : ℕ) (why : Sharing) → Shares origins a b why → overlap origins a b ≡ true
    shared_overlap a b why (Shares.same e) = subst (λ q. overlap origins a q ≡ true) e (overlap-self origins numbered a)
    shared_overlap a b why (Shares.first_is_part ne h) = overlap-sym origins a b ∙ part_overlaps h
    shared_overlap a b why (Shares.second_is_part ne h) = part_overlaps h
    shared_overlap a b why (Shares.of_splits {s} {x} {y} two h k) = splits_overlap a b s x y two h k

    -- neither of the two is a part of the other, and the section that was split is the nearest
    pub record AreApart (a b s : ℕ) : Type 0 where
      pub first : LiesIn origins a b → ⊥
      pub second : LiesIn origins b a → ⊥
      pub nearest : IsNearest origins a b s

    two_turned : {s x y : ℕ} → AreOfTwoSplits origins s x y → AreOfTwoSplits origins s y x
    two_turned {s} {x} {y} two = record {
      first = two.second;
      second = two.first;
      differ = λ e. two.differ (sym e);
      other_split = or_comm (are_sides origins y x) (are_sides origins x y) ∙ two.other_split;
    }

    apart_by : (a b : ℕ) (why : Sharing) (s : SectionId) → why ≡ OfSplits s → Shares origins a b why → AreApart a b s.number
    apart_by a b why s e (Shares.same f) = absurd cc
    apart_by a b why s e (Shares.first_is_part ne h) = absurd cc
    apart_by a b why s e (Shares.second_is_part ne h) = absurd cc
    apart_by a b why s e (Shares.of_splits {s = t} {x} {y} two h k) =
        let same : t ≡ s.number = cc in
        record {
          first = splits_keep_apart a b t x y two h k;
          second = splits_keep_apart b a t y x (two_turned two) k h;
          nearest = subst (IsNearest origins a b) same (splits_are_nearest a b t x y two h k);
        }

    pub splits_cases : (a b : ℕ) (s : SectionId) → Shares origins a b (OfSplits s) → AreApart a b s.number
    splits_cases a b s h = apart_by a b (OfSplits s) s refl h

    pub splits_reason : (a b : ℕ) → overlap origins a b ≡ true → (LiesIn origins a b → ⊥) → (LiesIn origins b a → ⊥)
        → (s : SectionId) × Shares origins a b (OfSplits s)
    splits_reason a b h f g =
        let found = meet (a + b) a b (le_refl (a + b)) h in
        (record { number = found.0 }, apart_at_nearest a b found.0 f g h found.1)

    -- what overlaps does so for a reason
    pub shared_reason : (a b : ℕ) → overlap origins a b ≡ true → (why : Sharing) × Shares origins a b why
    shared_reason a b h = elim (cases_eq a b) [
      | inl e ↦ (Same, Shares.same e)
      | inr other ↦
          (let found = meet (a + b) a b (le_refl (a + b)) h in
          let near = found.1 in
          elim (cases_eq a found.0) [
            | inl e ↦ (SecondIsPart, Shares.second_is_part other (subst (LiesIn origins b) (sym e) near.second))
            | inr up ↦ elim (cases_eq b found.0) [
              | inl e ↦ (FirstIsPart, Shares.first_is_part other (subst (LiesIn origins a) (sym e) near.first))
              | inr over ↦ (
                OfSplits (record { number = found.0 }),
                apart_at_nearest a b found.0
                    (λ m. over (one_part (near.nearest b m LiesIn.itself) near.second)) (λ m. up (one_part (near.nearest a LiesIn.itself m) near.first)) h near,
              )
            ]
          ])
    ]
      where
        one_part : {x y : ℕ} → LiesIn origins x y → LiesIn origins y x → y ≡ x
        one_part {x} {y} m n = let one : y ≤ x = part_above m in let other : x ≤ y = part_above n in omega (arith, one, other)
