-- Windows of a cover without the places of another cover.
use Rattle.std.proofs.Common.{◌≡◌, ◌⊎◌, inl, inr, ℕ, ◌+◌, ◌-◌, ◌<◌, ◌≤◌, min, max, List, [], ◌∷◌, ◌++◌, refl, sym, ap, ◌∙◌, subst}
use Rattle.std.proofs.Common.{arith, zero, suc, length, get_or, map, drop, append_assoc}
use Rattle.std.proofs.lemmas.List.{drop_more, drop_all}
use Rattle.std.proofs.lemmas.Bool.{eqb-true, eq-eqb, ne_eqb, ltb-true, ltb-false, lt-ltb, le-ltb, leb-true, leb-false}
use Rattle.std.proofs.lemmas.Bool.{and_parts, and_from, or_cases, or_left, or_right, or_parts, cases_order}
use Rattle.std.proofs.lemmas.Bool.{false_from_ne_true, not_from_false, not-true, false≢true, true≢false}
use Rattle.std.specs.Prelude.{Bool, true, false, not, ◌&&◌, ◌||◌, nat_eq, nat_lt, nat_le, if◌then◌else◌}
use Rattle.std.specs.List.{list_all}
use Rattle.shared_lemmas.proofs.Truths.{same_truth}
use Rattle.sections.specs.Place.{Place, Window, In}
use Rattle.sections.specs.Covers.{is_in, has, has_places, ends_before, is_cover}
use Rattle.sections.specs.Joining.{end_of, begins_no_later}
use Rattle.sections.specs.Cutting.{unless_empty, ends_no_later, before, behind}
use Rattle.sections.specs.Translation.{window}
use Rattle.sections.specs.declared.window.Window.{Window as rWindow}
use Rattle.sections.proofs.Covering.{in_window, is_in-from, begins-at, ends_cases, ends-array, ends-at, ends-begins, cover_from}

-- ---- before and after, by the arrays of the two windows

before-same : (w v : Window) → w.array ≡ v.array → before w v ≡ record w { length = min w.length (v.at - w.at) }
before-same w v e = ap (λ b. if b then record w { length = min w.length (v.at - w.at) }
    else (if nat_lt w.array v.array then w else record w { length = 0 })) (eq-eqb w.array v.array e)

before-lower : (w v : Window) → w.array < v.array → before w v ≡ w
before-lower w v h =
    ap (λ b. if b then record w { length = min w.length (v.at - w.at) }
    else (if nat_lt w.array v.array then w else record w { length = 0 }))
    (ne_eqb w.array v.array (λ e. (let k : w.array ≡ v.array = e in omega (arith, h, k))))
    ∙ ap (λ b. if b then w else record w { length = 0 }) (lt-ltb w.array v.array h)

before-higher : (w v : Window) → v.array < w.array → before w v ≡ record w { length = 0 }
before-higher w v h =
    ap (λ b. if b then record w { length = min w.length (v.at - w.at) }
    else (if nat_lt w.array v.array then w else record w { length = 0 }))
    (ne_eqb w.array v.array (λ e. (let k : w.array ≡ v.array = e in omega (arith, h, k))))
    ∙ ap (λ b. if b then w else record w { length = 0 }) (le-ltb w.array v.array (omega (arith, h)))

behind-same : (w v : Window) → w.array ≡ v.array
    → behind w v ≡ record w { at = max w.at (end_of v); length = end_of w - max w.at (end_of v) }
behind-same w v e =
    ap (λ b. if b then record w { at = max w.at (end_of v); length = end_of w - max w.at (end_of v) } else w)
    (eq-eqb w.array v.array e)

behind-higher : (w v : Window) → v.array < w.array → behind w v ≡ w
behind-higher w v h =
    ap (λ b. if b then record w { at = max w.at (end_of v); length = end_of w - max w.at (end_of v) } else w)
    (ne_eqb w.array v.array (λ e. (let k : w.array ≡ v.array = e in omega (arith, h, k))))

no_later_cases : (v w : Window) → ends_no_later v w ≡ true → (v.array < w.array) ⊎ ((v.array ≡ w.array) × (end_of v ≤ end_of w))
no_later_cases v w h = elim (or_cases (nat_lt v.array w.array) (nat_eq v.array w.array && nat_le (end_of v) (end_of w)) h) [
  | inl k ↦ inl (ltb-true v.array w.array k)
  | inr k ↦
      (let j = and_parts (nat_eq v.array w.array) (nat_le (end_of v) (end_of w)) k in
      inr (eqb-true v.array w.array j.0, leb-true (end_of v) (end_of w) j.1))
]

later_cases : (v w : Window) → ends_no_later v w ≡ false → (w.array < v.array) ⊎ ((v.array ≡ w.array) × (end_of w < end_of v))
later_cases v w h =
    let parts = or_parts (nat_lt v.array w.array) (nat_eq v.array w.array && nat_le (end_of v) (end_of w)) h in
    elim (cases_order v.array w.array) [
      | inl e ↦ inr (
        e,
        leb-false (end_of v) (end_of w)
            (sym (ap (λ b. b && nat_le (end_of v) (end_of w)) (eq-eqb v.array w.array e)) ∙ parts.1),
      )
      | inr (inl k) ↦ absurd (true≢false (sym (lt-ltb v.array w.array k) ∙ parts.0))
      | inr (inr k) ↦ inl k
    ]

-- ---- covers, and windows that end earlier

-- a cover's first window and the others
pub record Covered (w : Window) (ws : List Window) : Type 0 where
  pub places : has_places w ≡ true
  pub all : list_all (ends_before w) ws ≡ true
  pub rest : is_cover ws ≡ true

pub covered : (w : Window) (ws : List Window) → is_cover (w ∷ ws) ≡ true → Covered w ws
covered w ws h =
    let k = and_parts (has_places w) (list_all (ends_before w) ws && is_cover ws) h in
    let j = and_parts (list_all (ends_before w) ws) (is_cover ws) k.1 in
    record { places = k.0; all = j.0; rest = j.1 }

-- v ends in the array of w, and no later
record EndsWithin (w v : Window) : Type 0 where
  array : v.array ≡ w.array
  end : end_of v ≤ end_of w

ends-earlier : (w v x : Window) → EndsWithin w v → ends_before w x ≡ true → ends_before v x ≡ true
ends-earlier w v x e h =
    let a : v.array ≡ w.array = e.array in
    let n : end_of v ≤ end_of w = e.end in
    elim (ends_cases w x h) [
      | inl k ↦ ends-array v x (omega (arith, a, k))
      | inr k ↦ ends-at v x (a ∙ k.0) (omega (arith, n, k.1))
    ]

all_earlier : (w v : Window) (xs : List Window) → EndsWithin w v → list_all (ends_before w) xs ≡ true
    → list_all (ends_before v) xs ≡ true
all_earlier w v [] e h = refl
all_earlier w v (x ∷ xs) e h =
    let parts = and_parts (ends_before w x) (list_all (ends_before w) xs) h in
    and_from (ends_before v x) (list_all (ends_before v) xs) (ends-earlier w v x e parts.0) (all_earlier w v xs e parts.1)

before_ends : (w v : Window) → EndsWithin w (before w v)
before_ends w v = elim (cases_order w.array v.array) [
  | inl e ↦ subst (EndsWithin w) (sym (before-same w v e)) (record { array = refl; end = omega arith })
  | inr (inl h) ↦ subst (EndsWithin w) (sym (before-lower w v h)) (record { array = refl; end = omega arith })
  | inr (inr h) ↦ subst (EndsWithin w) (sym (before-higher w v h)) (record { array = refl; end = omega arith })
]

behind_ends : (w v : Window) → ends_no_later v w ≡ true → EndsWithin w (behind w v)
behind_ends w v n = elim (no_later_cases v w n) [
  | inl h ↦ subst (EndsWithin w) (sym (behind-higher w v h)) (record { array = refl; end = omega arith })
  | inr h ↦ subst (EndsWithin w) (sym (behind-same w v (sym h.0))) (record { array = refl; end = omega (arith, h.1) })
]

-- the parts of a window start no earlier
behind_begins : (w v : Window) → begins_no_later w (behind w v) ≡ true
behind_begins w v = go (nat_eq w.array v.array)
  where
    go : (b : Bool) → begins_no_later w
        (if b then record w { at = max w.at (end_of v); length = end_of w - max w.at (end_of v) } else w) ≡ true
    go true = begins-at w (record w { at = max w.at (end_of v); length = end_of w - max w.at (end_of v) }) refl (omega arith)
    go false = begins-at w w refl (omega arith)

ends-before : (u w v : Window) → ends_before u w ≡ true → ends_before u (before w v) ≡ true
ends-before u w v h = elim (cases_order w.array v.array) [
  | inl e ↦ subst (λ x. ends_before u x ≡ true) (sym (before-same w v e)) h
  | inr (inl k) ↦ subst (λ x. ends_before u x ≡ true) (sym (before-lower w v k)) h
  | inr (inr k) ↦ subst (λ x. ends_before u x ≡ true) (sym (before-higher w v k)) h
]

-- between the parts before and after a window there is at least one place
before_behind : (w v : Window) → ends_no_later v w ≡ true → has_places (before w v) ≡ true → has_places v ≡ true
    → ends_before (before w v) (behind w v) ≡ true
before_behind w v n h k = elim (no_later_cases v w n) [
  | inl a ↦ absurd (false≢true (subst (λ x. has_places x ≡ true) (before-higher w v a) h))
  | inr a ↦ subst (λ x. ends_before x (behind w v) ≡ true) (sym (before-same w v (sym a.0)))
      (subst (λ x. ends_before (record w { length = min w.length (v.at - w.at) }) x ≡ true) (sym (behind-same w v (sym a.0)))
      (apart a.0 a.1 (subst (λ x. has_places x ≡ true) (before-same w v (sym a.0)) h)))
]
  where
    apart : v.array ≡ w.array → end_of v ≤ end_of w → has_places (record w { length = min w.length (v.at - w.at) }) ≡ true
        → ends_before (record w { length = min w.length (v.at - w.at) })
        (record w { at = max w.at (end_of v); length = end_of w - max w.at (end_of v) }) ≡ true
    apart e m p =
        let some : 0 < min w.length (v.at - w.at) = ltb-true 0 (min w.length (v.at - w.at)) p in
        let there : 0 < v.length = ltb-true 0 v.length k in
        ends-at (record w { length = min w.length (v.at - w.at) })
        (record w { at = max w.at (end_of v); length = end_of w - max w.at (end_of v) }) refl (omega (arith, some, there, m))

-- ---- a place and a window

module _ (q : Place) where
  -- whether q comes before the place n of an array
  abbrev pub precedes : (array n : ℕ) → Bool
  precedes a n = nat_lt q.array a || (nat_eq q.array a && nat_lt q.index n)

  precedes_cases : (a n : ℕ) → precedes a n ≡ true → (q.array < a) ⊎ ((q.array ≡ a) × (q.index < n))
  precedes_cases a n h = elim (or_cases (nat_lt q.array a) (nat_eq q.array a && nat_lt q.index n) h) [
    | inl k ↦ inl (ltb-true q.array a k)
    | inr k ↦
        (let j = and_parts (nat_eq q.array a) (nat_lt q.index n) k in
        inr (eqb-true q.array a j.0, ltb-true q.index n j.1))
  ]

  precedes-array : (a n : ℕ) → q.array < a → precedes a n ≡ true
  precedes-array a n h = or_left (nat_lt q.array a) (nat_eq q.array a && nat_lt q.index n) (lt-ltb q.array a h)

  pub precedes-index : (a n : ℕ) → q.array ≡ a → q.index < n → precedes a n ≡ true
  precedes-index a n e h = or_right (nat_lt q.array a) (nat_eq q.array a && nat_lt q.index n)
      (and_from (nat_eq q.array a) (nat_lt q.index n) (eq-eqb q.array a e) (lt-ltb q.index n h))

  pub follows_cases : (a n : ℕ) → precedes a n ≡ false → (a < q.array) ⊎ ((q.array ≡ a) × (n ≤ q.index))
  follows_cases a n h =
      let parts = or_parts (nat_lt q.array a) (nat_eq q.array a && nat_lt q.index n) h in
      elim (cases_order q.array a) [
        | inl e ↦ inr (
          e,
          ltb-false q.index n
              (sym (ap (λ b. b && nat_lt q.index n) (eq-eqb q.array a e)) ∙ parts.1),
        )
        | inr (inl k) ↦ absurd (true≢false (sym (lt-ltb q.array a k) ∙ parts.0))
        | inr (inr k) ↦ inl k
      ]

  -- whether q comes before a window starts, and before it ends
  abbrev pub is_before : Window → Bool
  is_before w = precedes w.array w.at

  abbrev pub is_before_end : Window → Bool
  is_before_end w = precedes w.array (end_of w)

  pub before_its_end : (w : Window) → is_before w ≡ true → is_before_end w ≡ true
  before_its_end w h = elim (precedes_cases w.array w.at h) [
    | inl k ↦ precedes-array w.array (end_of w) k
    | inr k ↦ precedes-index w.array (end_of w) k.0 (omega (arith, k.1))
  ]

  pub is_in-between : (w : Window) → is_in w q ≡ (not (is_before w) && is_before_end w)
  is_in-between w = same_truth (is_in w q) (not (is_before w) && is_before_end w)
      (λ h.
      (let i = in_window w q h in
      let a : q.array ≡ w.array = i.array in
      let l : w.at ≤ q.index = i.low in
      and_from (not (is_before w)) (is_before_end w)
      (not_from_false (is_before w) (false_from_ne_true (is_before w) (λ k. elim (precedes_cases w.array w.at k) [
        | inl b ↦ omega (arith, a, b)
        | inr b ↦ omega (arith, l, b.1)
      ])))
      (precedes-index w.array (end_of w) a i.high)))
      (λ h. inside (and_parts (not (is_before w)) (is_before_end w) h))
    where
      inside : (not (is_before w) ≡ true) × (is_before_end w ≡ true) → is_in w q ≡ true
      inside h = elim (follows_cases w.array w.at (not-true (is_before w) h.0)) [
        | inl a ↦ elim (precedes_cases w.array (end_of w) h.1) [
          | inl b ↦ absurd (omega (arith, a, b))
          | inr b ↦ absurd (omega (arith, a, b.0))
        ]
        | inr a ↦ elim (precedes_cases w.array (end_of w) h.1) [
          | inl b ↦ absurd (omega (arith, a.0, b))
          | inr b ↦ is_in-from w q (record { array = a.0; low = a.1; high = b.1 })
        ]
      ]

  -- what comes before the end of a window is in none of those after it
  pub none_behind : (v : Window) (ws : List Window) → is_before_end v ≡ true → list_all (ends_before v) ws ≡ true → has ws q ≡ false
  none_behind v [] h all = refl
  none_behind v (w ∷ ws) h all =
      let parts = and_parts (ends_before v w) (list_all (ends_before v) ws) all in
      ap (λ b. b || has ws q) (false_from_ne_true (is_in w q) (λ k. apart (in_window w q k) (ends_cases v w parts.0)))
      ∙ none_behind v ws h parts.1
    where
      apart : In w q → (v.array < w.array) ⊎ ((v.array ≡ w.array) × (end_of v < w.at)) → ⊥
      apart i (inl k) = elim (precedes_cases v.array (end_of v) h) [
        | inl b ↦ (let a : q.array ≡ w.array = i.array in omega (arith, a, k, b))
        | inr b ↦ (let a : q.array ≡ w.array = i.array in omega (arith, a, k, b.0))
      ]
      apart i (inr k) = elim (precedes_cases v.array (end_of v) h) [
        | inl b ↦ (let a : q.array ≡ w.array = i.array in omega (arith, a, k.0, b))
        | inr b ↦ (let l : w.at ≤ q.index = i.low in omega (arith, l, k.1, b.1))
      ]

  -- what comes before the end of a window comes before the end of one that ends no earlier
  before_later_end : (v w : Window) → ends_no_later v w ≡ true → is_before_end v ≡ true → is_before_end w ≡ true
  before_later_end v w h k = elim (no_later_cases v w h) [
    | inl a ↦ elim (precedes_cases v.array (end_of v) k) [
      | inl b ↦ precedes-array w.array (end_of w) (omega (arith, a, b))
      | inr b ↦ precedes-array w.array (end_of w) (omega (arith, a, b.0))
    ]
    | inr a ↦ elim (precedes_cases v.array (end_of v) k) [
      | inl b ↦ precedes-array w.array (end_of w) (omega (arith, a.0, b))
      | inr b ↦ precedes-index w.array (end_of w) (b.0 ∙ a.0) (omega (arith, a.1, b.1))
    ]
  ]

  -- a place of a window comes before the end of one that ends later
  in_before_end : (v w : Window) → ends_no_later v w ≡ false → is_in w q ≡ true → is_before_end v ≡ true
  in_before_end v w h k =
      let i = in_window w q k in
      let a : q.array ≡ w.array = i.array in
      let u : q.index < end_of w = i.high in
      elim (later_cases v w h) [
        | inl b ↦ precedes-array v.array (end_of v) (omega (arith, a, b))
        | inr b ↦ precedes-index v.array (end_of v) (a ∙ sym b.0) (omega (arith, u, b.1))
      ]

  -- the places before a window starts
  is_in-before : (w v : Window) → is_in (before w v) q ≡ (is_in w q && is_before v)
  is_in-before w v = elim (cases_order w.array v.array) [
    | inl e ↦ ap (λ x. is_in x q) (before-same w v e) ∙ same_truth (is_in (record w { length = min w.length (v.at - w.at) }) q)
        (is_in w q && is_before v) (same_to e) (same_from e)
    | inr (inl h) ↦ ap (λ x. is_in x q) (before-lower w v h) ∙ same_truth (is_in w q) (is_in w q && is_before v)
        (λ k. and_from (is_in w q) (is_before v) k
        (precedes-array v.array v.at (let a : q.array ≡ w.array = (in_window w q k).array in omega (arith, a, h))))
        (λ k. (and_parts (is_in w q) (is_before v) k).0)
    | inr (inr h) ↦ ap (λ x. is_in x q) (before-higher w v h) ∙ same_truth (is_in (record w { length = 0 }) q)
        (is_in w q && is_before v)
        (λ k. absurd (nothing (in_window (record w { length = 0 }) q k)))
        (λ k. absurd (beyond h (and_parts (is_in w q) (is_before v) k)))
  ]
    where
      nothing : In (record w { length = 0 }) q → ⊥
      nothing i = let l : w.at ≤ q.index = i.low in let u : q.index < w.at + 0 = i.high in omega (arith, l, u)

      beyond : v.array < w.array → (is_in w q ≡ true) × (is_before v ≡ true) → ⊥
      beyond h k =
          let a : q.array ≡ w.array = (in_window w q k.0).array in
          elim (precedes_cases v.array v.at k.1) [ inl b ↦ omega (arith, a, h, b) | inr b ↦ omega (arith, a, h, b.0) ]

      same_to : w.array ≡ v.array → is_in (record w { length = min w.length (v.at - w.at) }) q ≡ true
          → (is_in w q && is_before v) ≡ true
      same_to e k =
          let i = in_window (record w { length = min w.length (v.at - w.at) }) q k in
          let l : w.at ≤ q.index = i.low in
          let u : q.index < w.at + min w.length (v.at - w.at) = i.high in
          and_from (is_in w q) (is_before v)
          (is_in-from w q (record { array = i.array; low = l; high = omega (arith, l, u) }))
          (precedes-index v.array v.at (i.array ∙ e) (omega (arith, l, u)))

      same_from : w.array ≡ v.array → (is_in w q && is_before v) ≡ true
          → is_in (record w { length = min w.length (v.at - w.at) }) q ≡ true
      same_from e k =
          let parts = and_parts (is_in w q) (is_before v) k in
          let i = in_window w q parts.0 in
          let a : q.array ≡ w.array = i.array in
          let l : w.at ≤ q.index = i.low in
          let u : q.index < end_of w = i.high in
          elim (precedes_cases v.array v.at parts.1) [
            | inl b ↦ absurd (omega (arith, a, e, b))
            | inr b ↦ is_in-from (record w { length = min w.length (v.at - w.at) }) q
                (record { array = a; low = l; high = omega (arith, l, u, b.1) })
          ]

  -- the places after the end of a window
  is_in-behind : (w v : Window) → ends_no_later v w ≡ true → is_in (behind w v) q ≡ (is_in w q && not (is_before_end v))
  is_in-behind w v n = elim (no_later_cases v w n) [
    | inl h ↦ ap (λ x. is_in x q) (behind-higher w v h) ∙ same_truth (is_in w q) (is_in w q && not (is_before_end v))
        (λ k. and_from (is_in w q) (not (is_before_end v)) k
        (not_from_false (is_before_end v) (false_from_ne_true (is_before_end v) (λ j. beyond h k j))))
        (λ k. (and_parts (is_in w q) (not (is_before_end v)) k).0)
    | inr h ↦ ap (λ x. is_in x q) (behind-same w v (sym h.0))
        ∙ same_truth (is_in (record w { at = max w.at (end_of v); length = end_of w - max w.at (end_of v) }) q)
        (is_in w q && not (is_before_end v)) (same_to h.0) (same_from h.0)
  ]
    where
      beyond : v.array < w.array → is_in w q ≡ true → is_before_end v ≡ true → ⊥
      beyond h k j =
          let a : q.array ≡ w.array = (in_window w q k).array in
          elim (precedes_cases v.array (end_of v) j) [ inl b ↦ omega (arith, a, h, b) | inr b ↦ omega (arith, a, h, b.0) ]

      same_to : v.array ≡ w.array → is_in (record w { at = max w.at (end_of v); length = end_of w - max w.at (end_of v) }) q ≡ true
          → (is_in w q && not (is_before_end v)) ≡ true
      same_to e k =
          let i = in_window (record w { at = max w.at (end_of v); length = end_of w - max w.at (end_of v) }) q k in
          let a : q.array ≡ w.array = i.array in
          let l : max w.at (end_of v) ≤ q.index = i.low in
          let u : q.index < max w.at (end_of v) + (end_of w - max w.at (end_of v)) = i.high in
          and_from (is_in w q) (not (is_before_end v))
          (is_in-from w q (record { array = a; low = omega (arith, l); high = omega (arith, l, u) }))
          (not_from_false (is_before_end v) (false_from_ne_true (is_before_end v) (λ j. elim (precedes_cases v.array (end_of v) j) [
            | inl b ↦ omega (arith, a, e, b)
            | inr b ↦ omega (arith, l, b.1)
          ])))

      same_from : v.array ≡ w.array → (is_in w q && not (is_before_end v)) ≡ true
          → is_in (record w { at = max w.at (end_of v); length = end_of w - max w.at (end_of v) }) q ≡ true
      same_from e k =
          let parts = and_parts (is_in w q) (not (is_before_end v)) k in
          let i = in_window w q parts.0 in
          let a : q.array ≡ w.array = i.array in
          let l : w.at ≤ q.index = i.low in
          let u : q.index < end_of w = i.high in
          elim (follows_cases v.array (end_of v) (not-true (is_before_end v) parts.1)) [
            | inl b ↦ absurd (omega (arith, a, e, b))
            | inr b ↦ is_in-from (record w { at = max w.at (end_of v); length = end_of w - max w.at (end_of v) }) q
                (record { array = a; low = omega (arith, l, b.1); high = omega (arith, l, u, b.1) })
          ]

-- ---- a window without the places of a cover

-- the parts of w that the windows gs leave; `go` gives the parts for those gs that end later
abbrev pub cut_by : Window → (List Window → List Window) → List Window → List Window
cut_by w go [] = unless_empty w ++ go []
cut_by w go (g ∷ gs) =
    if ends_no_later g w then unless_empty (before w g) ++ cut_by (behind w g) go gs
    else unless_empty (before w g) ++ go (g ∷ gs)

-- the parts of windows that other windows leave
abbrev pub minus : List Window → List Window → List Window
minus [] gs = []
minus (w ∷ ws) gs = cut_by w (minus ws) gs

module _ (q : Place) where
  is_in-no_places : (w : Window) → has_places w ≡ false → is_in w q ≡ false
  is_in-no_places w h = false_from_ne_true (is_in w q) (λ k.
      (let i = in_window w q k in
      let l : w.at ≤ q.index = i.low in
      let u : q.index < w.at + w.length = i.high in
      let e : w.length ≤ 0 = ltb-false 0 w.length h in
      omega (arith, l, u, e)))

  has-unless_empty : (w : Window) (ws : List Window) → has (unless_empty w ++ ws) q ≡ (is_in w q || has ws q)
  has-unless_empty w ws = go (has_places w) refl
    where
      go : (b : Bool) → has_places w ≡ b → has ((if b then w ∷ [] else []) ++ ws) q ≡ (is_in w q || has ws q)
      go true e = refl
      go false e = ap (λ b. b || has ws q) (sym (is_in-no_places w e))

  -- a place of w before v starts, one after v, one of the windows after w, one of those after v
  taken_within : (a s e h r : Bool) → (s ≡ true → e ≡ true) → (e ≡ true → h ≡ false) → (e ≡ true → r ≡ false)
      → ((a && s) || (((a && not e) || r) && not h)) ≡ ((a || r) && not ((not s && e) || h))
  taken_within a s true h r f g k = neither a s h r (g refl) (k refl)
    where
      neither : (a s h r : Bool) → h ≡ false → r ≡ false
          → ((a && s) || (((a && false) || r) && not h)) ≡ ((a || r) && not ((not s && true) || h))
      neither true true false false g k = refl
      neither true false false false g k = refl
      neither false true false false g k = refl
      neither false false false false g k = refl
      neither a s true r g k = absurd (true≢false g)
      neither a s false true g k = absurd (true≢false k)
  taken_within a true false h r f g k = absurd (false≢true (f refl))
  taken_within true false false h r f g k = refl
  taken_within false false false h r f g k = refl

  taken_later : (a s e h r : Bool) → (s ≡ true → e ≡ true) → (e ≡ true → h ≡ false) → (a ≡ true → e ≡ true)
      → ((a && s) || (r && not ((not s && e) || h))) ≡ ((a || r) && not ((not s && e) || h))
  taken_later false s e h r f g k = refl
  taken_later true s false h r f g k = absurd (false≢true (k refl))
  taken_later true true true false r f g k = refl
  taken_later true false true false true f g k = refl
  taken_later true false true false false f g k = refl
  taken_later true s true true r f g k = absurd (true≢false (g refl))

  -- what is after w, and what the rest leaves of it
  pub record GoesOn (ws : List Window) (go : List Window → List Window) : Type 0 where
    pub rest : (gs : List Window) → is_cover gs ≡ true → has (go gs) q ≡ (has ws q && not (has gs q))

  module _ (ws : List Window) (go : List Window → List Window) (on : GoesOn ws go) where
    has-cut : (w g : Window) (gs : List Window) → list_all (ends_before w) ws ≡ true → is_cover (g ∷ gs) ≡ true
        → (b : Bool) → ends_no_later g w ≡ b
        → (ends_no_later g w ≡ true → has (cut_by (behind w g) go gs) q ≡ ((is_in (behind w g) q || has ws q) && not (has gs q)))
        → has (if b then unless_empty (before w g) ++ cut_by (behind w g) go gs else unless_empty (before w g) ++ go (g ∷ gs)) q
        ≡ ((is_in w q || has ws q) && not (is_in g q || has gs q))
    has-cut w g gs all cover true e deeper =
        has-unless_empty (before w g) (cut_by (behind w g) go gs)
        ∙ ap (λ b. is_in (before w g) q || b) (deeper e)
        ∙ ap (λ b. b || ((is_in (behind w g) q || has ws q) && not (has gs q))) (is_in-before q w g)
        ∙ ap (λ b. (is_in w q && is_before q g) || ((b || has ws q) && not (has gs q))) (is_in-behind q w g e)
        ∙ taken_within (is_in w q) (is_before q g) (is_before_end q g) (has gs q) (has ws q) (before_its_end q g)
        (λ k. none_behind q g gs k (covered g gs cover).all)
        (λ k. none_behind q w ws (before_later_end q g w e k) all)
        ∙ ap (λ b. (is_in w q || has ws q) && not (b || has gs q)) (sym (is_in-between q g))
    has-cut w g gs all cover false e deeper =
        has-unless_empty (before w g) (go (g ∷ gs))
        ∙ ap (λ b. is_in (before w g) q || b) (on.rest (g ∷ gs) cover)
        ∙ ap (λ b. b || (has ws q && not (is_in g q || has gs q))) (is_in-before q w g)
        ∙ ap (λ b. (is_in w q && is_before q g) || (has ws q && not (b || has gs q))) (is_in-between q g)
        ∙ taken_later (is_in w q) (is_before q g) (is_before_end q g) (has gs q) (has ws q) (before_its_end q g)
        (λ k. none_behind q g gs k (covered g gs cover).all)
        (in_before_end q g w e)
        ∙ ap (λ b. (is_in w q || has ws q) && not (b || has gs q)) (sym (is_in-between q g))

    has-cut_by : (w : Window) (gs : List Window) → list_all (ends_before w) ws ≡ true → is_cover gs ≡ true
        → has (cut_by w go gs) q ≡ ((is_in w q || has ws q) && not (has gs q))
    has-cut_by w [] all cover =
        has-unless_empty w (go []) ∙ ap (λ b. is_in w q || b) (on.rest [] refl) ∙ and_true (is_in w q) (has ws q)
      where
        and_true : (a b : Bool) → (a || (b && true)) ≡ ((a || b) && true)
        and_true true b = refl
        and_true false b = refl
    has-cut_by w (g ∷ gs) all cover = has-cut w g gs all cover (ends_no_later g w) refl (λ e.
        has-cut_by (behind w g) gs (all_earlier w (behind w g) ws (behind_ends w g e) all) (covered g gs cover).rest)

  -- the places of a cover without those of another one
  pub has-minus : (ws gs : List Window) → is_cover ws ≡ true → is_cover gs ≡ true
      → has (minus ws gs) q ≡ (has ws q && not (has gs q))
  has-minus [] gs h k = refl
  has-minus (w ∷ ws) gs h k =
      let parts = covered w ws h in
      has-cut_by ws (minus ws) (record { rest = λ gs j. has-minus ws gs parts.rest j }) w gs parts.all k

-- ---- and what is left is a cover

all-append : (v : Window) (xs ys : List Window) → list_all (ends_before v) xs ≡ true → list_all (ends_before v) ys ≡ true
    → list_all (ends_before v) (xs ++ ys) ≡ true
all-append v [] ys h k = k
all-append v (x ∷ xs) ys h k =
    let parts = and_parts (ends_before v x) (list_all (ends_before v) xs) h in
    and_from (ends_before v x) (list_all (ends_before v) (xs ++ ys)) parts.0 (all-append v xs ys parts.1 k)

all-unless_empty : (v w : Window) (xs : List Window) → ends_before v w ≡ true → list_all (ends_before v) xs ≡ true
    → list_all (ends_before v) (unless_empty w ++ xs) ≡ true
all-unless_empty v w xs h k = all-append v (unless_empty w) xs (go (has_places w)) k
  where
    go : (b : Bool) → list_all (ends_before v) (if b then w ∷ [] else []) ≡ true
    go true = and_from (ends_before v w) true h refl
    go false = refl

module _ (v : Window) (go : List Window → List Window) (on : (gs : List Window) → list_all (ends_before v) (go gs) ≡ true) where
  all-cut : (w g : Window) (gs : List Window) → ends_before v w ≡ true → (b : Bool)
      → list_all (ends_before v) (cut_by (behind w g) go gs) ≡ true
      → list_all (ends_before v)
      (if b then unless_empty (before w g) ++ cut_by (behind w g) go gs else unless_empty (before w g) ++ go (g ∷ gs)) ≡ true
  all-cut w g gs h true deeper = all-unless_empty v (before w g) (cut_by (behind w g) go gs) (ends-before v w g h) deeper
  all-cut w g gs h false deeper = all-unless_empty v (before w g) (go (g ∷ gs)) (ends-before v w g h) (on (g ∷ gs))

  -- what ends before a window ends before its parts
  all-cut_by : (w : Window) (gs : List Window) → ends_before v w ≡ true → list_all (ends_before v) (cut_by w go gs) ≡ true
  all-cut_by w [] h = all-unless_empty v w (go []) h (on [])
  all-cut_by w (g ∷ gs) h =
      all-cut w g gs h (ends_no_later g w) (all-cut_by (behind w g) gs (ends-begins v w (behind w g) h (behind_begins w g)))

all-minus : (v : Window) (ws gs : List Window) → list_all (ends_before v) ws ≡ true → list_all (ends_before v) (minus ws gs) ≡ true
all-minus v [] gs h = refl
all-minus v (w ∷ ws) gs h =
    let parts = and_parts (ends_before v w) (list_all (ends_before v) ws) h in
    all-cut_by v (minus ws) (λ gs. all-minus v ws gs parts.1) w gs parts.0

cover-unless_empty : (w : Window) (xs : List Window) → (has_places w ≡ true → list_all (ends_before w) xs ≡ true)
    → is_cover xs ≡ true → is_cover (unless_empty w ++ xs) ≡ true
cover-unless_empty w xs h k = go (has_places w) refl
  where
    go : (b : Bool) → has_places w ≡ b → is_cover ((if b then w ∷ [] else []) ++ xs) ≡ true
    go true e = cover_from w xs e (h e) k
    go false e = k

-- what the rest leaves of the windows after w
record Ends (w : Window) (go : List Window → List Window) : Type 0 where
  cover : (gs : List Window) → is_cover gs ≡ true → is_cover (go gs) ≡ true
  all : (gs : List Window) → list_all (ends_before w) (go gs) ≡ true

module _ (go : List Window → List Window) where
  cover-cut : (w g : Window) (gs : List Window) → Ends w go → is_cover (g ∷ gs) ≡ true → (b : Bool) → ends_no_later g w ≡ b
      → (ends_no_later g w ≡ true → is_cover (cut_by (behind w g) go gs) ≡ true)
      → is_cover (if b then unless_empty (before w g) ++ cut_by (behind w g) go gs else unless_empty (before w g) ++ go (g ∷ gs))
      ≡ true
  cover-cut w g gs on cover true e deeper = cover-unless_empty (before w g) (cut_by (behind w g) go gs)
      (λ h. all-cut_by (before w g) go (λ gs. all_earlier w (before w g) (go gs) (before_ends w g) (on.all gs)) (behind w g) gs
      (before_behind w g e h (covered g gs cover).places))
      (deeper e)
  cover-cut w g gs on cover false e deeper = cover-unless_empty (before w g) (go (g ∷ gs))
      (λ h. all_earlier w (before w g) (go (g ∷ gs)) (before_ends w g) (on.all (g ∷ gs)))
      (on.cover (g ∷ gs) cover)

  cover-cut_by : (w : Window) (gs : List Window) → Ends w go → is_cover gs ≡ true → is_cover (cut_by w go gs) ≡ true
  cover-cut_by w [] on cover = cover-unless_empty w (go []) (λ h. on.all []) (on.cover [] refl)
  cover-cut_by w (g ∷ gs) on cover = cover-cut w g gs on cover (ends_no_later g w) refl (λ e.
      cover-cut_by (behind w g) gs
      (record { cover = on.cover; all = λ gs. all_earlier w (behind w g) (go gs) (behind_ends w g e) (on.all gs) })
      (covered g gs cover).rest)

pub is_cover-minus : (ws gs : List Window) → is_cover ws ≡ true → is_cover gs ≡ true → is_cover (minus ws gs) ≡ true
is_cover-minus [] gs h k = refl
is_cover-minus (w ∷ ws) gs h k =
    let parts = covered w ws h in
    cover-cut_by (minus ws) w gs
    (record { cover = λ gs j. is_cover-minus ws gs parts.rest j; all = λ gs. all-minus w ws gs parts.all }) k

-- ---- the loops

same_item : (xs : List rWindow) (i : ℕ) (x y : rWindow) → i < length xs → x ≡ get_or xs i x → y ≡ get_or xs i y → x ≡ y
same_item [] i x y h e f = absurd (omega (arith, h))
same_item (z ∷ zs) zero x y h e f = e ∙ sym f
same_item (z ∷ zs) (suc i) x y h e f = same_item zs i x y (omega (arith, h)) e f

cut_by-within : (w g : Window) (go : List Window → List Window) (gs : List Window) → ends_no_later g w ≡ true
    → cut_by w go (g ∷ gs) ≡ unless_empty (before w g) ++ cut_by (behind w g) go gs
cut_by-within w g go gs e =
    ap (λ b. if b then unless_empty (before w g) ++ cut_by (behind w g) go gs else unless_empty (before w g) ++ go (g ∷ gs)) e

cut_by-later : (w g : Window) (go : List Window → List Window) (gs : List Window) → ends_no_later g w ≡ false
    → cut_by w go (g ∷ gs) ≡ unless_empty (before w g) ++ go (g ∷ gs)
cut_by-later w g go gs e =
    ap (λ b. if b then unless_empty (before w g) ++ cut_by (behind w g) go gs else unless_empty (before w g) ++ go (g ∷ gs)) e

-- the windows that are taken away from the next one on
module _ (gone : List rWindow) (next : ℕ) (there : next < length gone) where
  pub next_first : (g : rWindow) → g ≡ get_or gone next g
      → map window (drop next gone) ≡ window g ∷ map window (drop (next + 1) gone)
  next_first g is = ap (map window) (drop_more gone next g there)
      ∙ ap (λ (x : rWindow). window x ∷ map window (drop (next + 1) gone)) (sym is)

  -- one ends within w: the part before it is left, and the loop continues with the part after it
  pub turn_within : (done : List Window) (w r : Window) (go : List Window → List Window) (g h : rWindow) (whole : List Window)
      → g ≡ get_or gone next g → h ≡ get_or gone next h → ends_no_later (window g) w ≡ true → r ≡ behind w (window h)
      → done ++ cut_by w go (map window (drop next gone)) ≡ whole
      → (done ++ unless_empty (before w (window h))) ++ cut_by r go (map window (drop (next + 1) gone)) ≡ whole
  turn_within done w r go g h whole e f n k inv =
      let same = same_item gone next g h there e f in
      let n : ends_no_later (window h) w ≡ true = subst (λ g. ends_no_later (window g) w ≡ true) same n in
      let gs = map window (drop (next + 1) gone) in
      ap (λ r. (done ++ unless_empty (before w (window h))) ++ cut_by r go gs) k
      ∙ append_assoc done (unless_empty (before w (window h))) (cut_by (behind w (window h)) go gs)
      ∙ ap (λ t. done ++ t) (sym (cut_by-within w (window h) go gs n))
      ∙ ap (λ gs. done ++ cut_by w go gs) (sym (next_first h f))
      ∙ inv

  -- it ends later: the part before it is left, and the loop continues with it
  pub turn_later : (done : List Window) (w r : Window) (go : List Window → List Window) (g h : rWindow) (whole : List Window)
      → g ≡ get_or gone next g → h ≡ get_or gone next h → ends_no_later (window g) w ≡ false → r ≡ before w (window h)
      → done ++ cut_by w go (map window (drop next gone)) ≡ whole
      → (done ++ unless_empty r) ++ go (map window (drop next gone)) ≡ whole
  turn_later done w r go g h whole e f n k inv =
      let same = same_item gone next g h there e f in
      let n : ends_no_later (window h) w ≡ false = subst (λ g. ends_no_later (window g) w ≡ false) same n in
      let gs = map window (drop (next + 1) gone) in
      ap (λ r. (done ++ unless_empty r) ++ go (map window (drop next gone))) k
      ∙ append_assoc done (unless_empty (before w (window h))) (go (map window (drop next gone)))
      ∙ ap (λ gs. done ++ (unless_empty (before w (window h)) ++ go gs)) (next_first h f)
      ∙ ap (λ t. done ++ t) (sym (cut_by-later w (window h) go gs n))
      ∙ ap (λ gs. done ++ cut_by w go gs) (sym (next_first h f))
      ∙ inv

-- none is left: all of w is left
pub turn_alone : (gone : List rWindow) (next : ℕ) → length gone ≤ next → (done : List Window) (w r : Window)
    (go : List Window → List Window) (whole : List Window) → r ≡ w
    → done ++ cut_by w go (map window (drop next gone)) ≡ whole
    → (done ++ unless_empty r) ++ go (map window (drop next gone)) ≡ whole
turn_alone gone next h done w r go whole e inv =
    let none : drop next gone ≡ [] = drop_all next gone h in
    ap (λ r. (done ++ unless_empty r) ++ go (map window (drop next gone))) e
    ∙ append_assoc done (unless_empty w) (go (map window (drop next gone)))
    ∙ ap (λ gs. done ++ (unless_empty w ++ go (map window gs))) none
    ∙ ap (λ gs. done ++ cut_by w go (map window gs)) (sym none)
    ∙ inv
