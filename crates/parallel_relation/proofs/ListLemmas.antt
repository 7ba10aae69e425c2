-- The list of pairs.
use Rattle.std.proofs.Common.{◌≡◌, inl, inr, ℕ, zero, suc, ◌+◌, ◌-◌, ◌<◌, ◌≤◌, ◌^◌, List, [], ◌∷◌, ◌++◌, drop, refl, sym, ap, ◌∙◌, subst, arith}
use Rattle.std.proofs.lemmas.Bool.{cases_Bool, cases_lt}
use Rattle.std.specs.Prelude.{Bool, true, false, if◌then◌else◌, slice_get, Some, None}
use Rattle.shared_lemmas.proofs.Truths.{not_both}
use Rattle.sections.specs.Member.{Member, first, next}
use Rattle.effects.proofs.HasLabels.{has_label-true, from_has_label, label_within}
use Rattle.effects.proofs.Members.{in_left, in_right, in_parts}
use Rattle.effects.specs.LabelSets.{HasLabel, has_label}
use Rattle.effects.specs.declared.label_set.LabelSet.{LabelSet}
use Rattle.parallel_relation.specs.Pairs.{HasPair, AreListed, StandsBefore, Ascend, in_row, in_rows, from_place}
use Rattle.parallel_relation.specs.Rows.{HasIn, HasAt, rows_of}
use Rattle.parallel_relation.specs.declared.pairs.Pairs.{Pairs}

pick_first : (b : Bool) (s t : List (ℕ × ℕ)) → b ≡ true → (if b then s else t) ≡ s
pick_first true s t e = refl
pick_first false s t e = cc

pick_second : (b : Bool) (s t : List (ℕ × ℕ)) → b ≡ false → (if b then s else t) ≡ t
pick_second true s t e = cc
pick_second false s t e = refl

module _ (row : LabelSet) (x : ℕ) where
  -- the next pair of a row
  pub row_next : (n y z : ℕ) → y ≤ z → z < y + n → ((l : ℕ) → y ≤ l → l < z → has_label row l ≡ false) → has_label row z ≡ true
      → in_row row x y n ≡ (x, z) ∷ in_row row x (z + 1) (n - (z + 1 - y))
  row_next zero y z from to others here = absurd (omega arith)
  row_next (suc n) y z from to others here = elim (cases_lt y z) [
    | inl less ↦
        let left : suc n - (z + 1 - y) ≡ n - (z + 1 - (y + 1)) = omega arith in
        pick_second (has_label row y) ((x, y) ∷ in_row row x (y + 1) n) (in_row row x (y + 1) n) (others y (omega arith) less)
        ∙ row_next n (y + 1) z (omega arith) (omega arith) (λ l a b. others l (omega arith) b) here
        ∙ ap (λ k. (x, z) ∷ in_row row x (z + 1) k) (sym left)
    | inr past ↦
        let same : y ≡ z = omega arith in
        let left : suc n - (z + 1 - y) ≡ n = omega arith in
        pick_first (has_label row y) ((x, y) ∷ in_row row x (y + 1) n) (in_row row x (y + 1) n)
        (subst (λ l. has_label row l ≡ true) (sym same) here)
        ∙ ap (λ l. (x, l) ∷ in_row row x (l + 1) n) same
        ∙ ap (λ k. (x, z) ∷ in_row row x (z + 1) k) (sym left)
  ]

  -- a row without further pairs
  pub row_ends : (n y : ℕ) → ((l : ℕ) → y ≤ l → has_label row l ≡ false) → in_row row x y n ≡ []
  row_ends zero y others = refl
  row_ends (suc n) y others =
      pick_second (has_label row y) ((x, y) ∷ in_row row x (y + 1) n) (in_row row x (y + 1) n) (others y (omega arith))
      ∙ row_ends n (y + 1) (λ l h. others l (omega arith))

  -- the pairs of a row
  pub record OfRow (y : ℕ) (m : ℕ × ℕ) : Type 0 where
    pub label : m.0 ≡ x
    pub later : y ≤ m.1
    pub has : HasLabel row m.1

  narrower : (y : ℕ) (m : ℕ × ℕ) → OfRow (y + 1) m → OfRow y m
  narrower y m r = record { label = r.label; later = let l = r.later in omega arith; has = r.has }

  head : (y : ℕ) (ms : List (ℕ × ℕ)) (m : ℕ × ℕ) → has_label row y ≡ true → (Member m ms → OfRow (y + 1) m) → Member m ((x, y) ∷ ms)
      → OfRow y m
  head y ms m e tail first = record { label = refl; later = omega arith; has = from_has_label row y e }
  head y ms m e tail (next k) = narrower y m (tail k)

  pub from_row : (n y : ℕ) (m : ℕ × ℕ) → Member m (in_row row x y n) → OfRow y m
  from_row zero y m h = elim h [ ]
  from_row (suc n) y m h = elim (cases_Bool (has_label row y)) [
    | inl e ↦ head y (in_row row x (y + 1) n) m e (from_row n (y + 1) m)
        (subst (Member m) (pick_first (has_label row y) ((x, y) ∷ in_row row x (y + 1) n) (in_row row x (y + 1) n) e) h)
    | inr e ↦ narrower y m (from_row n (y + 1) m
        (subst (Member m) (pick_second (has_label row y) ((x, y) ∷ in_row row x (y + 1) n) (in_row row x (y + 1) n) e) h))
  ]

  pub in_this_row : (n y b : ℕ) → y ≤ b → b < y + n → HasLabel row b → Member (x, b) (in_row row x y n)
  in_this_row zero y b from to h = absurd (omega arith)
  in_this_row (suc n) y b from to h = elim (cases_Bool (has_label row y)) [
    | inl e ↦ subst (Member (x, b)) (sym (pick_first (has_label row y) ((x, y) ∷ in_row row x (y + 1) n) (in_row row x (y + 1) n) e))
        (elim (cases_lt y b) [
          | inl less ↦ next (in_this_row n (y + 1) b (omega arith) (omega arith) h)
          | inr past ↦ let same : y ≡ b = omega arith in
              subst (λ l. Member (x, b) ((x, l) ∷ in_row row x (y + 1) n)) (sym same) first
        ])
    | inr e ↦ subst (Member (x, b)) (sym (pick_second (has_label row y) ((x, y) ∷ in_row row x (y + 1) n) (in_row row x (y + 1) n) e))
        (elim (cases_lt y b) [
          | inl less ↦ in_this_row n (y + 1) b (omega arith) (omega arith) h
          | inr past ↦ let same : y ≡ b = omega arith in
              not_both (subst (λ l. has_label row l ≡ true) (sym same) (has_label-true row b h)) e
        ])
  ]

  pub row_ascends : (n y : ℕ) → Ascend (in_row row x y n)
  row_ascends zero y = tt
  row_ascends (suc n) y = elim (cases_Bool (has_label row y)) [
    | inl e ↦ subst Ascend (sym (pick_first (has_label row y) ((x, y) ∷ in_row row x (y + 1) n) (in_row row x (y + 1) n) e))
        (λ m k. let r = from_row n (y + 1) m k in inr (sym r.label, (let l = r.later in omega arith)), row_ascends n (y + 1))
    | inr e ↦ subst Ascend (sym (pick_second (has_label row y) ((x, y) ∷ in_row row x (y + 1) n) (in_row row x (y + 1) n) e))
        (row_ascends n (y + 1))
  ]

ascend-append : (ms ns : List (ℕ × ℕ)) → Ascend ms → Ascend ns → ((m n : ℕ × ℕ) → Member m ms → Member n ns → StandsBefore m n)
    → Ascend (ms ++ ns)
ascend-append [] ns a b before = b
ascend-append (m ∷ ms) ns a b before = (
  λ k h. elim (in_parts ms h) [ inl l ↦ a.0 k l | inr r ↦ before m k first r ],
  ascend-append ms ns a.1 b (λ k l h. before k l (next h)),
)

module _ (end : ℕ) where
  -- the pairs of rows, the first of which is that of x
  pub record OfRows (x : ℕ) (rows : List LabelSet) (m : ℕ × ℕ) : Type 0 where
    pub after : x ≤ m.0
    pub later : m.0 ≤ m.1
    pub has : HasIn rows (m.0 - x) m.1

  pub from_rows : (rows : List LabelSet) (x : ℕ) (m : ℕ × ℕ) → Member m (in_rows end x rows) → OfRows x rows m
  from_rows [] x m h = elim h [ ]
  from_rows (row ∷ rows) x m h = elim (in_parts (in_row row x x (end - x)) h) [
    | inl k ↦ here (from_row row x (end - x) x m k)
    | inr k ↦ there (from_rows rows (x + 1) m k)
  ]
    where
      here : OfRow row x x m → OfRows x (row ∷ rows) m
      here r =
          let zeroth : m.0 - x ≡ 0 = let e = r.label in omega arith in
          record {
            after = let e = r.label in omega arith;
            later = let e = r.label in let l = r.later in omega arith;
            has = subst (λ i. HasIn (row ∷ rows) i m.1) (sym zeroth) r.has;
          }

      there : OfRows (x + 1) rows m → OfRows x (row ∷ rows) m
      there r =
          let later : m.0 - x ≡ suc (m.0 - (x + 1)) = let a = r.after in omega arith in
          record {
            after = let a = r.after in omega arith;
            later = r.later;
            has = subst (λ i. HasIn (row ∷ rows) i m.1) (sym later) r.has;
          }

  pub in_these_rows : (rows : List LabelSet) (x a b : ℕ) → x ≤ a → a ≤ b → b < end → HasIn rows (a - x) b
      → Member (a, b) (in_rows end x rows)
  in_these_rows [] x a b from order within h = absurd h
  in_these_rows (row ∷ rows) x a b from order within h = elim (cases_lt x a) [
    | inl less ↦ in_right (in_row row x x (end - x)) (in_these_rows rows (x + 1) a b (omega arith) order within
        (subst (λ i. HasIn (row ∷ rows) i b) (let e : a - x ≡ suc (a - (x + 1)) = omega arith in e) h))
    | inr past ↦
        let same : x ≡ a = omega arith in
        let zeroth : a - x ≡ 0 = omega arith in
        in_left (in_rows end (x + 1) rows) (subst (λ l. Member (l, b) (in_row row x x (end - x))) same
        (in_this_row row x (end - x) x b (omega arith) (omega arith) (subst (λ i. HasIn (row ∷ rows) i b) zeroth h)))
  ]

  pub rows_ascend : (rows : List LabelSet) (x : ℕ) → Ascend (in_rows end x rows)
  rows_ascend [] x = tt
  rows_ascend (row ∷ rows) x = ascend-append (in_row row x x (end - x)) (in_rows end (x + 1) rows) (row_ascends row x (end - x) x)
      (rows_ascend rows (x + 1))
      (λ m n h k. let r = from_row row x (end - x) x m h in let s = from_rows rows (x + 1) n k in
      inl (let e = r.label in let a = s.after in omega arith))

  -- at the start of a row
  pub row_starts : (x : ℕ) (rows : List LabelSet) → from_place end x x rows ≡ in_rows end x rows
  row_starts x [] = refl
  row_starts x (row ∷ rows) = refl

  -- a position in a row
  pub at_row : (rows : List LabelSet) (k x y : ℕ) (row : LabelSet) → slice_get rows k ≡ Some row
      → from_place end x y (drop k rows) ≡ in_row row x y (end - y) ++ in_rows end (x + 1) (drop (suc k) rows)
  at_row [] k x y row e = cc
  at_row (r ∷ rows) zero x y row e =
      let same : r ≡ row = cc in
      ap (λ r. in_row r x y (end - y) ++ in_rows end (x + 1) rows) same
  at_row (r ∷ rows) (suc k) x y row e = at_row rows k x y row e

  -- after the rows
  pub past_rows : (rows : List LabelSet) (k x y : ℕ) → slice_get rows k ≡ None → from_place end x y (drop k rows) ≡ []
  past_rows [] zero x y e = refl
  past_rows [] (suc k) x y e = refl
  past_rows (r ∷ rows) zero x y e = cc
  past_rows (r ∷ rows) (suc k) x y e = past_rows rows k x y e

  -- all pairs
  pub listed : (pairs : Pairs) → ((i y : ℕ) → HasAt pairs.rows i y → y < end)
      → AreListed (HasPair pairs) (from_place end 0 0 (rows_of pairs.rows))
  listed pairs within = subst (AreListed (HasPair pairs)) (sym (row_starts 0 (rows_of pairs.rows))) (record {
    smaller_first = λ a b h. (from_rows (rows_of pairs.rows) 0 (a, b) h).later;
    only = λ a b h. let r = from_rows (rows_of pairs.rows) 0 (a, b) h in inl (r.later, here a b r.has);
    every = λ a b order h. elim h [ inl k ↦ there a b order k.1 | inr k ↦ there a b order (turned a b order k.0 k.1) ];
    ascending = rows_ascend (rows_of pairs.rows) 0;
  })
    where
      there : (a b : ℕ) → a ≤ b → HasIn (rows_of pairs.rows) a b → Member (a, b) (in_rows end 0 (rows_of pairs.rows))
      there a b order h = in_these_rows (rows_of pairs.rows) 0 a b (omega arith) order (within a b h)
          (let same : a ≡ a - 0 = omega arith in subst (λ i. HasIn (rows_of pairs.rows) i b) same h)

      here : (a b : ℕ) → HasIn (rows_of pairs.rows) (a - 0) b → HasIn (rows_of pairs.rows) a b
      here a b h = let same : a - 0 ≡ a = omega arith in subst (λ i. HasIn (rows_of pairs.rows) i b) same h

      turned : (a b : ℕ) → a ≤ b → b ≤ a → HasIn (rows_of pairs.rows) b a → HasIn (rows_of pairs.rows) a b
      turned a b order other h =
          let same : a ≡ b = omega arith in
          subst (λ i. HasIn (rows_of pairs.rows) i b) (sym same) (subst (λ y. HasIn (rows_of pairs.rows) b y) same h)

-- labels are below 2 ^ 32
pub labels_within : (rows : List LabelSet) (i y : ℕ) → HasIn rows i y → y < 2 ^ 32
labels_within [] i y h = absurd h
labels_within (row ∷ rows) zero y h = label_within row y h
labels_within (row ∷ rows) (suc i) y h = labels_within rows i y h

-- a test that fails
pub no_label : (row : LabelSet) (l : ℕ) → (HasLabel row l → ⊥) → has_label row l ≡ false
no_label row l none = elim (cases_Bool (has_label row l)) [ inl e ↦ absurd (none (from_has_label row l e)) | inr e ↦ e ]

-- the list from a position: its next pair
pub place_next : (end : ℕ) (rows : List LabelSet) (x y z : ℕ) (row : LabelSet) → slice_get rows x ≡ Some row → y ≤ z → z < end
    → HasLabel row z → ((l : ℕ) → y ≤ l → HasLabel row l → z ≤ l)
    → from_place end x y (drop x rows) ≡ (x, z) ∷ from_place end x (z + 1) (drop x rows)
place_next end rows x y z row e from to here least =
    let others : (l : ℕ) → y ≤ l → l < z → has_label row l ≡ false =
    λ l a b. no_label row l (λ h. let k = least l a h in omega arith) in
    let left : end - y - (z + 1 - y) ≡ end - (z + 1) = omega arith in
    at_row end rows x x y row e
    ∙ ap (λ ms. ms ++ in_rows end (x + 1) (drop (suc x) rows))
    (row_next row x (end - y) y z from (omega arith) others (has_label-true row z here)
    ∙ ap (λ n. (x, z) ∷ in_row row x (z + 1) n) left)
    ∙ ap (λ ms. (x, z) ∷ ms) (sym (at_row end rows x x (z + 1) row e))

-- a row without further pairs, and the next row
pub place_ends : (end : ℕ) (rows : List LabelSet) (x y : ℕ) (row : LabelSet) → slice_get rows x ≡ Some row
    → ((l : ℕ) → y ≤ l → HasLabel row l → ⊥)
    → from_place end x y (drop x rows) ≡ from_place end (x + 1) (x + 1) (drop (x + 1) rows)
place_ends end rows x y row e none =
    let next_row : suc x ≡ x + 1 = omega arith in
    at_row end rows x x y row e
    ∙ ap (λ ms. ms ++ in_rows end (x + 1) (drop (suc x) rows)) (row_ends row x (end - y) y (λ l h. no_label row l (none l h)))
    ∙ ap (λ n. in_rows end (x + 1) (drop n rows)) next_row
    ∙ sym (row_starts end (x + 1) (drop (x + 1) rows))
