-- Windows that are joined to a cover.
use Rattle.std.proofs.Common.{◌≡◌, ◌⊎◌, inl, inr, ℕ, ◌+◌, ◌-◌, ◌<◌, ◌≤◌, max, List, [], ◌∷◌, ◌++◌, refl, sym, ap, ◌∙◌}
use Rattle.std.proofs.Common.{arith, append_assoc}
use Rattle.std.proofs.lemmas.Bool.{eqb-true, eq-eqb, ltb-true, lt-ltb, leb-true, le-leb, leb-false, and_parts, and_from, or_cases}
use Rattle.std.proofs.lemmas.Bool.{or_left, or_right, cases_lt}
use Rattle.std.specs.Prelude.{Bool, true, false, ◌&&◌, ◌||◌, nat_eq, nat_lt, nat_le, if◌then◌else◌}
use Rattle.std.specs.List.{list_all}
use Rattle.std.proofs.Math.Bool.{or_assoc}
use Rattle.shared_lemmas.proofs.Truths.{same_truth}
use Rattle.sections.specs.Place.{Place, Window, In}
use Rattle.sections.specs.Covers.{is_in, has, has_places, ends_before, is_cover}
use Rattle.sections.specs.Joining.{end_of, begins_no_later, begins_first, is_ascending, meets, joined}

-- ---- places of a window

pub in_window : (w : Window) (q : Place) → is_in w q ≡ true → In w q
in_window w q h =
    let k = and_parts (nat_eq q.array w.array) (nat_le w.at q.index && nat_lt q.index (end_of w)) h in
    let j = and_parts (nat_le w.at q.index) (nat_lt q.index (end_of w)) k.1 in
    record {
      array = eqb-true q.array w.array k.0;
      low = leb-true w.at q.index j.0;
      high = ltb-true q.index (end_of w) j.1;
    }

pub is_in-from : (w : Window) (q : Place) → In w q → is_in w q ≡ true
is_in-from w q i = and_from (nat_eq q.array w.array) (nat_le w.at q.index && nat_lt q.index (end_of w))
    (eq-eqb q.array w.array i.array)
    (and_from (nat_le w.at q.index) (nat_lt q.index (end_of w)) (le-leb w.at q.index i.low) (lt-ltb q.index (end_of w) i.high))

-- ---- the order of windows

pub begins_cases : (v w : Window) → begins_no_later v w ≡ true → (v.array < w.array) ⊎ ((v.array ≡ w.array) × (v.at ≤ w.at))
begins_cases v w h = elim (or_cases (nat_lt v.array w.array) (nat_eq v.array w.array && nat_le v.at w.at) h) [
  | inl k ↦ inl (ltb-true v.array w.array k)
  | inr k ↦
      (let j = and_parts (nat_eq v.array w.array) (nat_le v.at w.at) k in
      inr (eqb-true v.array w.array j.0, leb-true v.at w.at j.1))
]

pub begins-array : (v w : Window) → v.array < w.array → begins_no_later v w ≡ true
begins-array v w h = or_left (nat_lt v.array w.array) (nat_eq v.array w.array && nat_le v.at w.at) (lt-ltb v.array w.array h)

pub begins-at : (v w : Window) → v.array ≡ w.array → v.at ≤ w.at → begins_no_later v w ≡ true
begins-at v w e h = or_right (nat_lt v.array w.array) (nat_eq v.array w.array && nat_le v.at w.at)
    (and_from (nat_eq v.array w.array) (nat_le v.at w.at) (eq-eqb v.array w.array e) (le-leb v.at w.at h))

-- of three arrays, each no later than the next, the first is before the last or all are the same
in_turn : {a b c : ℕ} {P Q : Type 0} → (a < b) ⊎ ((a ≡ b) × P) → (b < c) ⊎ ((b ≡ c) × Q) → (a < c) ⊎ ((a ≡ c) × (P × Q))
in_turn (inl h) (inl k) = inl (omega (arith, h, k))
in_turn (inl h) (inr k) = inl (omega (arith, h, k.0))
in_turn (inr h) (inl k) = inl (omega (arith, h.0, k))
in_turn (inr h) (inr k) = inr (h.0 ∙ k.0, (h.1, k.1))

begins-trans : (u v w : Window) → begins_no_later u v ≡ true → begins_no_later v w ≡ true → begins_no_later u w ≡ true
begins-trans u v w h k = elim (in_turn (begins_cases u v h) (begins_cases v w k)) [
  | inl a ↦ begins-array u w a
  | inr e ↦ begins-at u w e.0 (omega (arith, e.1.0, e.1.1))
]

pub ends_cases : (v w : Window) → ends_before v w ≡ true → (v.array < w.array) ⊎ ((v.array ≡ w.array) × (end_of v < w.at))
ends_cases v w h = elim (or_cases (nat_lt v.array w.array) (nat_eq v.array w.array && nat_lt (end_of v) w.at) h) [
  | inl k ↦ inl (ltb-true v.array w.array k)
  | inr k ↦
      (let j = and_parts (nat_eq v.array w.array) (nat_lt (end_of v) w.at) k in
      inr (eqb-true v.array w.array j.0, ltb-true (end_of v) w.at j.1))
]

pub ends-array : (v w : Window) → v.array < w.array → ends_before v w ≡ true
ends-array v w h = or_left (nat_lt v.array w.array) (nat_eq v.array w.array && nat_lt (end_of v) w.at) (lt-ltb v.array w.array h)

pub ends-at : (v w : Window) → v.array ≡ w.array → end_of v < w.at → ends_before v w ≡ true
ends-at v w e h = or_right (nat_lt v.array w.array) (nat_eq v.array w.array && nat_lt (end_of v) w.at)
    (and_from (nat_eq v.array w.array) (nat_lt (end_of v) w.at) (eq-eqb v.array w.array e) (lt-ltb (end_of v) w.at h))

-- what ends before a window ends before those that start no earlier
pub ends-begins : (u v w : Window) → ends_before u v ≡ true → begins_no_later v w ≡ true → ends_before u w ≡ true
ends-begins u v w h k = elim (in_turn (ends_cases u v h) (begins_cases v w k)) [
  | inl a ↦ ends-array u w a
  | inr e ↦ ends-at u w e.0 (omega (arith, e.1.0, e.1.1))
]

-- ---- two neighbours

ends-unmet : (v w : Window) → begins_no_later v w ≡ true → meets v w ≡ false → ends_before v w ≡ true
ends-unmet v w h m = elim (begins_cases v w h) [
  | inl a ↦ ends-array v w a
  | inr a ↦ ends-at v w a.0 (leb-false w.at (end_of v)
      (sym (ap (λ b. b && nat_le w.at (end_of v)) (eq-eqb v.array w.array a.0)) ∙ m))
]

record Met (v w : Window) : Type 0 where
  array : v.array ≡ w.array
  order : v.at ≤ w.at
  near : w.at ≤ end_of v

met : (v w : Window) → begins_no_later v w ≡ true → meets v w ≡ true → Met v w
met v w h m = elim (begins_cases v w h) [
  | inl a ↦ absurd (omega (arith, a, parts.0))
  | inr a ↦ record { array = a.0; order = a.1; near = parts.1 }
]
  where
    parts : (v.array ≡ w.array) × (w.at ≤ end_of v)
    parts =
        let k = and_parts (nat_eq v.array w.array) (nat_le w.at (end_of v)) m in
        (eqb-true v.array w.array k.0, leb-true w.at (end_of v) k.1)

-- the joined window has the places of both
joined_parts : (v w : Window) (q : Place) → Met v w → In (joined v w) q → In v q ⊎ In w q
joined_parts v w q m i =
    let a : q.array ≡ v.array = i.array in
    let l : v.at ≤ q.index = i.low in
    let h : q.index < v.at + (max (end_of v) (end_of w) - v.at) = i.high in
    let n : w.at ≤ end_of v = m.near in
    elim (cases_lt q.index (end_of v)) [
      | inl k ↦ inl (record { array = a; low = l; high = k })
      | inr k ↦ inr (record { array = a ∙ m.array; low = omega (arith, n, k); high = omega (arith, l, h, k) })
    ]

joined_first : (v w : Window) (q : Place) → In v q → In (joined v w) q
joined_first v w q i =
    let h : q.index < end_of v = i.high in
    record { array = i.array; low = i.low; high = omega (arith, h) }

joined_second : (v w : Window) (q : Place) → Met v w → In w q → In (joined v w) q
joined_second v w q m i =
    let l : w.at ≤ q.index = i.low in
    let h : q.index < end_of w = i.high in
    let o : v.at ≤ w.at = m.order in
    record { array = i.array ∙ sym m.array; low = omega (arith, l, o); high = omega (arith, h, l, o) }

is_in-joined : (v w : Window) (q : Place) → Met v w → is_in (joined v w) q ≡ (is_in v q || is_in w q)
is_in-joined v w q m = same_truth (is_in (joined v w) q) (is_in v q || is_in w q)
    (λ h. elim (joined_parts v w q m (in_window (joined v w) q h)) [
      | inl i ↦ or_left (is_in v q) (is_in w q) (is_in-from v q i)
      | inr i ↦ or_right (is_in v q) (is_in w q) (is_in-from w q i)
    ])
    (λ h. elim (or_cases (is_in v q) (is_in w q) h) [
      | inl k ↦ is_in-from (joined v w) q (joined_first v w q (in_window v q k))
      | inr k ↦ is_in-from (joined v w) q (joined_second v w q m (in_window w q k))
    ])

joined_has_places : (v w : Window) → has_places v ≡ true → has_places (joined v w) ≡ true
joined_has_places v w h =
    let k : 0 < v.length = ltb-true 0 v.length h in lt-ltb 0 (max (end_of v) (end_of w) - v.at) (omega (arith, k))

-- ---- the whole list

-- the result of joining the neighbours of a window and of windows that start no earlier
abbrev pub joined_from : Window → List Window → List Window
joined_from v [] = v ∷ []
joined_from v (w ∷ ws) = if meets v w then joined_from (joined v w) ws else v ∷ joined_from w ws

-- a window before windows in order
pub record Leads (v : Window) (ws : List Window) : Type 0 where
  pub places : has_places v ≡ true
  pub first : begins_first v ws ≡ true
  pub rest : is_ascending ws ≡ true

pub leads : (v : Window) (ws : List Window) → is_ascending (v ∷ ws) ≡ true → Leads v ws
leads v ws h =
    let k = and_parts (has_places v) (begins_first v ws && is_ascending ws) h in
    let j = and_parts (begins_first v ws) (is_ascending ws) k.1 in
    record { places = k.0; first = j.0; rest = j.1 }

begins_first-trans : (v w : Window) (ws : List Window) → begins_no_later v w ≡ true → begins_first w ws ≡ true → begins_first v ws ≡ true
begins_first-trans v w [] h k = refl
begins_first-trans v w (x ∷ ws) h k = begins-trans v w x h k

leads_joined : (v w : Window) (ws : List Window) → Leads v (w ∷ ws) → Leads (joined v w) ws
leads_joined v w ws l =
    let k = leads w ws l.rest in
    record {
      places = joined_has_places v w l.places;
      first = first_of_joined ws (begins_first-trans v w ws l.first k.first);
      rest = k.rest;
    }
  where
    first_of_joined : (ws : List Window) → begins_first v ws ≡ true → begins_first (joined v w) ws ≡ true
    first_of_joined [] h = h
    first_of_joined (x ∷ ws) h = h

module _ (q : Place) where
  has-met : (v w : Window) (ws : List Window) → Leads v (w ∷ ws) → (b : Bool) → meets v w ≡ b
      → has (joined_from (joined v w) ws) q ≡ (is_in (joined v w) q || has ws q)
      → has (joined_from w ws) q ≡ (is_in w q || has ws q)
      → has (if b then joined_from (joined v w) ws else v ∷ joined_from w ws) q ≡ (is_in v q || (is_in w q || has ws q))
  has-met v w ws l true m one two =
      one ∙ ap (λ b. b || has ws q) (is_in-joined v w q (met v w l.first m)) ∙ or_assoc (is_in v q) (is_in w q) (has ws q)
  has-met v w ws l false m one two = ap (λ b. is_in v q || b) two

  -- joining neighbours keeps the places
  pub has-joined_from : (v : Window) (ws : List Window) → Leads v ws → has (joined_from v ws) q ≡ (is_in v q || has ws q)
  has-joined_from v [] l = refl
  has-joined_from v (w ∷ ws) l =
      has-met v w ws l (meets v w) refl (has-joined_from (joined v w) ws (leads_joined v w ws l))
      (has-joined_from w ws (leads w ws l.rest))

module _ (u : Window) where
  all-met : (v w : Window) (ws : List Window) → Leads v (w ∷ ws) → ends_before u v ≡ true → (b : Bool)
      → list_all (ends_before u) (joined_from (joined v w) ws) ≡ true
      → list_all (ends_before u) (joined_from w ws) ≡ true
      → list_all (ends_before u) (if b then joined_from (joined v w) ws else v ∷ joined_from w ws) ≡ true
  all-met v w ws l h true one two = one
  all-met v w ws l h false one two = and_from (ends_before u v) (list_all (ends_before u) (joined_from w ws)) h two

  -- what ends before the first ends before all
  all-joined_from : (v : Window) (ws : List Window) → Leads v ws → ends_before u v ≡ true
      → list_all (ends_before u) (joined_from v ws) ≡ true
  all-joined_from v [] l h = and_from (ends_before u v) true h refl
  all-joined_from v (w ∷ ws) l h =
      all-met v w ws l h (meets v w) (all-joined_from (joined v w) ws (leads_joined v w ws l) h)
      (all-joined_from w ws (leads w ws l.rest) (ends-begins u v w h l.first))

pub cover_from : (w : Window) (ws : List Window) → has_places w ≡ true → list_all (ends_before w) ws ≡ true
    → is_cover ws ≡ true → is_cover (w ∷ ws) ≡ true
cover_from w ws h k j = and_from (has_places w) (list_all (ends_before w) ws && is_cover ws) h
    (and_from (list_all (ends_before w) ws) (is_cover ws) k j)

cover-met : (v w : Window) (ws : List Window) → Leads v (w ∷ ws) → (b : Bool) → meets v w ≡ b
    → is_cover (joined_from (joined v w) ws) ≡ true → is_cover (joined_from w ws) ≡ true
    → is_cover (if b then joined_from (joined v w) ws else v ∷ joined_from w ws) ≡ true
cover-met v w ws l true m one two = one
cover-met v w ws l false m one two = cover_from v (joined_from w ws) l.places
    (all-joined_from v w ws (leads w ws l.rest) (ends-unmet v w l.first m)) two

-- and it makes a cover
pub is_cover-joined_from : (v : Window) (ws : List Window) → Leads v ws → is_cover (joined_from v ws) ≡ true
is_cover-joined_from v [] l = cover_from v [] l.places refl refl
is_cover-joined_from v (w ∷ ws) l =
    cover-met v w ws l (meets v w) refl (is_cover-joined_from (joined v w) ws (leads_joined v w ws l))
    (is_cover-joined_from w ws (leads w ws l.rest))

-- ---- the loop

pub joined_from-met : (v w : Window) (ws : List Window) → meets v w ≡ true
    → joined_from v (w ∷ ws) ≡ joined_from (joined v w) ws
joined_from-met v w ws e = ap (λ b. if b then joined_from (joined v w) ws else v ∷ joined_from w ws) e

pub joined_from-unmet : (v w : Window) (ws : List Window) → meets v w ≡ false
    → joined_from v (w ∷ ws) ≡ v ∷ joined_from w ws
joined_from-unmet v w ws e = ap (λ b. if b then joined_from (joined v w) ws else v ∷ joined_from w ws) e

-- an iteration that joins a window to the last one, and an iteration that starts a new one
pub turn_met : (done : List Window) (v w u : Window) (ws whole : List Window) → u ≡ joined v w → meets v w ≡ true
    → done ++ joined_from v (w ∷ ws) ≡ whole → done ++ joined_from u ws ≡ whole
turn_met done v w u ws whole e m h =
    ap (λ u. done ++ joined_from u ws) e ∙ ap (λ t. done ++ t) (sym (joined_from-met v w ws m)) ∙ h

pub turn_unmet : (done : List Window) (v w : Window) (ws whole : List Window) → meets v w ≡ false
    → done ++ joined_from v (w ∷ ws) ≡ whole → (done ++ v ∷ []) ++ joined_from w ws ≡ whole
turn_unmet done v w ws whole m h =
    append_assoc done (v ∷ []) (joined_from w ws) ∙ ap (λ t. done ++ t) (sym (joined_from-unmet v w ws m)) ∙ h

-- how a cover of the joined windows relates to the windows
pub record Covers (windows cover : List Window) : Type 0 where
  pub places : (q : Place) → has cover q ≡ has windows q
  pub form : is_cover cover ≡ true

pub joined_covers : (v : Window) (ws cover : List Window) → is_ascending (v ∷ ws) ≡ true
    → cover ≡ joined_from v ws → Covers (v ∷ ws) cover
joined_covers v ws cover h e = record {
  places = λ q. ap (λ c. has c q) e ∙ has-joined_from q v ws (leads v ws h);
  form = ap is_cover e ∙ is_cover-joined_from v ws (leads v ws h);
}
