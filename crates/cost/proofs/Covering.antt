-- The computed cover is a cover, and has the places of the windows.
use Rattle.std.proofs.Common.{◌≡◌, inl, inr, List, [], ◌∷◌, refl, sym, ap, ◌∙◌, arith}
use Rattle.std.proofs.lemmas.Bool.{and_from, and_parts, cases_lt, true≢false}
use Rattle.std.specs.Prelude.{Bool, true, false, ◌&&◌, ◌||◌, if◌then◌else◌}
use Rattle.shared_lemmas.proofs.Truths.{or_swap}
use Rattle.sections.proofs.Sorting.{is_in-empty}
use Rattle.sections.specs.Covers.{has, has_places, is_cover, is_in}
use Rattle.sections.specs.Joining.{begins_first, begins_no_later, is_ascending, joined, meets}
use Rattle.sections.specs.Place.{Place, Window}
use Rattle.sections.proofs.Covering.{Covers, begins-array, begins-at, joined_covers, joined_from as joined_by}
use Rattle.sections.proofs.Unique.{same_cover}
use Rattle.cost.specs.Cover.{cover_of, in_order, joined_all, joined_from, ordered}

-- ---- the order of first places

-- one of two windows starts no later than the other
one_begins : (v w : Window) → begins_no_later w v ≡ false → begins_no_later v w ≡ true
one_begins v w h = elim (cases_lt w.array v.array) [
  | inl a ↦ absurd (true≢false (sym (begins-array w v a) ∙ h))
  | inr a ↦ elim (cases_lt v.array w.array) [
    | inl b ↦ begins-array v w b
    | inr b ↦ elim (cases_lt v.at w.at) [
      | inl c ↦ begins-at v w (omega (arith, a, b)) (omega (arith, c))
      | inr c ↦ absurd (true≢false (sym (begins-at w v (omega (arith, a, b)) c) ∙ h))
    ]
  ]
]

begins_first-in_order : (v w : Window) (ws : List Window) → begins_no_later v w ≡ true → begins_first v ws ≡ true
    → begins_first v (in_order w ws) ≡ true
begins_first-in_order v w [] h k = h
begins_first-in_order v w (u ∷ us) h k = by_test (begins_no_later w u)
  where
    by_test : (b : Bool) → begins_first v (if b then w ∷ u ∷ us else u ∷ in_order w us) ≡ true
    by_test true = h
    by_test false = k

ascending-in_order : (w : Window) (ws : List Window) → has_places w ≡ true → is_ascending ws ≡ true
    → is_ascending (in_order w ws) ≡ true
ascending-in_order w [] h k = and_from (has_places w) true h refl
ascending-in_order w (v ∷ vs) h k = by_test (begins_no_later w v) refl (λ rest. ascending-in_order w vs h rest)
  where
    by_test : (b : Bool) → begins_no_later w v ≡ b → (is_ascending vs ≡ true → is_ascending (in_order w vs) ≡ true)
        → is_ascending (if b then w ∷ v ∷ vs else v ∷ in_order w vs) ≡ true
    by_test true e go =
        and_from (has_places w) (begins_no_later w v && is_ascending (v ∷ vs)) h
        (and_from (begins_no_later w v) (is_ascending (v ∷ vs)) e k)
    by_test false e go =
        let a = and_parts (has_places v) (begins_first v vs && is_ascending vs) k in
        let b = and_parts (begins_first v vs) (is_ascending vs) a.1 in
        and_from (has_places v) (begins_first v (in_order w vs) && is_ascending (in_order w vs)) a.0
        (and_from (begins_first v (in_order w vs)) (is_ascending (in_order w vs))
        (begins_first-in_order v w vs (one_begins v w e) b.0) (go b.1))

has-in_order : (q : Place) (w : Window) (ws : List Window) → has (in_order w ws) q ≡ (is_in w q || has ws q)
has-in_order q w [] = refl
has-in_order q w (v ∷ vs) = by_test (begins_no_later w v) (has-in_order q w vs)
  where
    by_test : (b : Bool) → has (in_order w vs) q ≡ (is_in w q || has vs q)
        → has (if b then w ∷ v ∷ vs else v ∷ in_order w vs) q ≡ (is_in w q || (is_in v q || has vs q))
    by_test true rest = refl
    by_test false rest = ap (λ b. is_in v q || b) rest ∙ or_swap (is_in v q) (is_in w q) (has vs q)

-- ---- windows that have a place

ascending-ordered : (ws : List Window) → is_ascending (ordered ws) ≡ true
ascending-ordered [] = refl
ascending-ordered (w ∷ ws) = by_test (has_places w) refl (ascending-ordered ws)
  where
    by_test : (b : Bool) → has_places w ≡ b → is_ascending (ordered ws) ≡ true
        → is_ascending (if b then in_order w (ordered ws) else ordered ws) ≡ true
    by_test true e rest = ascending-in_order w (ordered ws) e rest
    by_test false e rest = rest

has-ordered : (q : Place) (ws : List Window) → has (ordered ws) q ≡ has ws q
has-ordered q [] = refl
has-ordered q (w ∷ ws) = by_test (has_places w) refl (has-ordered q ws)
  where
    by_test : (b : Bool) → has_places w ≡ b → has (ordered ws) q ≡ has ws q
        → has (if b then in_order w (ordered ws) else ordered ws) q ≡ (is_in w q || has ws q)
    by_test true e rest = has-in_order q w (ordered ws) ∙ ap (λ b. is_in w q || b) rest
    by_test false e rest = rest ∙ ap (λ b. b || has ws q) (sym (is_in-empty w q e))

-- ---- the cover

same_joined : (v : Window) (ws : List Window) → joined_from v ws ≡ joined_by v ws
same_joined v [] = refl
same_joined v (w ∷ ws) = by_test (meets v w) (same_joined (joined v w) ws) (same_joined w ws)
  where
    by_test : (b : Bool) → joined_from (joined v w) ws ≡ joined_by (joined v w) ws → joined_from w ws ≡ joined_by w ws
        → (if b then joined_from (joined v w) ws else v ∷ joined_from w ws)
        ≡ (if b then joined_by (joined v w) ws else v ∷ joined_by w ws)
    by_test true one two = one
    by_test false one two = ap (λ us. v ∷ us) two

joined_all_covers : (ws : List Window) → is_ascending ws ≡ true → Covers ws (joined_all ws)
joined_all_covers [] h = record { places = λ q. refl; form = refl }
joined_all_covers (w ∷ ws) h = joined_covers w ws (joined_from w ws) h (same_joined w ws)

-- every cover of the windows is the computed one
pub cover-only : (ws : List Window) (cover : List Window) → ((q : Place) → has cover q ≡ has ws q) → is_cover cover ≡ true
    → cover ≡ cover_of ws
cover-only ws cover places form =
    let made = joined_all_covers (ordered ws) (ascending-ordered ws) in
    same_cover cover (cover_of ws) form made.form (λ q. places q ∙ sym (has-ordered q ws) ∙ sym (made.places q))
