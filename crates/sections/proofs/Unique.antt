-- A set of places has one cover.
use Rattle.std.proofs.Common.{◌≡◌, ◌⊎◌, inl, inr, ◌<◌, ◌≤◌, List, [], ◌∷◌, refl, sym, ap, ◌∙◌, arith}
use Rattle.std.proofs.lemmas.Bool.{ltb-true, and_parts, or_left, cases_order, false_from_ne_true, true≢false}
use Rattle.std.specs.Prelude.{Bool, true, false, not, ◌&&◌, ◌||◌}
use Rattle.std.specs.List.{list_all}
use Rattle.sections.specs.Place.{Place, Window, In}
use Rattle.sections.specs.Covers.{is_in, has, has_places, ends_before, is_cover}
use Rattle.sections.specs.Joining.{end_of}
use Rattle.sections.proofs.Covering.{in_window, is_in-from, ends_cases}
use Rattle.sections.proofs.Cutting.{covered, is_before, is_before_end, before_its_end, precedes-index, follows_cases}
use Rattle.sections.proofs.Cutting.{is_in-between, none_behind}

-- where a window starts, and where it ends
abbrev start : Window → Place
start w = record { array = w.array; index = w.at }

abbrev finish : Window → Place
finish w = record { array = w.array; index = end_of w }

in_at_start : (w : Window) → has_places w ≡ true → is_in w (start w) ≡ true
in_at_start w h = is_in-from w (start w) (record {
  array = refl;
  low = omega arith;
  high = let k : 0 < w.length = ltb-true 0 w.length h in omega (arith, k);
})

-- no place of a cover comes before its first window
none_before : (q : Place) (w : Window) (ws : List Window) → is_cover (w ∷ ws) ≡ true → is_before q w ≡ true → has (w ∷ ws) q ≡ false
none_before q w ws cover h =
    ap (λ b. b || has ws q) (is_in-between q w ∙ ap (λ b. not b && is_before_end q w) h)
    ∙ none_behind q w ws (before_its_end q w h) (covered w ws cover).all

-- nor is there a place of the cover where the first window ends
none_at_finish : (w : Window) (ws : List Window) → list_all (ends_before w) ws ≡ true → has ws (finish w) ≡ false
none_at_finish w [] all = refl
none_at_finish w (x ∷ ws) all =
    let parts = and_parts (ends_before w x) (list_all (ends_before w) ws) all in
    ap (λ b. b || has ws (finish w))
    (false_from_ne_true (is_in x (finish w)) (λ k. apart (in_window x (finish w) k) (ends_cases w x parts.0)))
    ∙ none_at_finish w ws parts.1
  where
    apart : In x (finish w) → (w.array < x.array) ⊎ ((w.array ≡ x.array) × (end_of w < x.at)) → ⊥
    apart i (inl k) = let a : w.array ≡ x.array = i.array in omega (arith, a, k)
    apart i (inr k) = let l : x.at ≤ end_of w = i.low in omega (arith, l, k.1)

not_in_at_finish : (w : Window) → is_in w (finish w) ≡ false
not_in_at_finish w = false_from_ne_true (is_in w (finish w)) (λ k.
    (let u : end_of w < end_of w = (in_window w (finish w) k).high in omega (arith, u)))

-- the first windows of two covers of the same places
record Heads (v w : Window) : Type 0 where
  array : v.array ≡ w.array
  at : v.at ≡ w.at
  end : end_of v ≡ end_of w

same_window : (v w : Window) → Heads v w → v ≡ w
same_window v w h =
    let length : v.length ≡ w.length = omega (arith, h.at, h.end) in
    ap (λ a. record { array = a; at = v.at; length = v.length }) h.array
    ∙ ap (λ a. record { array = w.array; at = a; length = v.length }) h.at
    ∙ ap (λ n. record { array = w.array; at = w.at; length = n }) length

module _ (v w : Window) (vs ws : List Window) (f : is_cover (v ∷ vs) ≡ true) (g : is_cover (w ∷ ws) ≡ true)
    (same : (q : Place) → has (v ∷ vs) q ≡ has (w ∷ ws) q) where
  -- the other one starts no later
  begins_no_earlier : is_before (start v) w ≡ false
  begins_no_earlier = false_from_ne_true (is_before (start v) w) (λ h. true≢false
      (sym (or_left (is_in v (start v)) (has vs (start v)) (in_at_start v (covered v vs f).places))
      ∙ same (start v) ∙ none_before (start v) w ws g h))

  -- and ends no later, if both start at one place
  ends_no_earlier : v.array ≡ w.array → v.at ≡ w.at → end_of v < end_of w → ⊥
  ends_no_earlier a s h = true≢false
      (sym (or_left (is_in w (finish v)) (has ws (finish v)) (is_in-from w (finish v) (record {
        array = a;
        low = omega (arith, s);
        high = h;
      })))
      ∙ sym (same (finish v))
      ∙ ap (λ b. b || has vs (finish v)) (not_in_at_finish v)
      ∙ none_at_finish v vs (covered v vs f).all)

module _ (v w : Window) (vs ws : List Window) (f : is_cover (v ∷ vs) ≡ true) (g : is_cover (w ∷ ws) ≡ true)
    (same : (q : Place) → has (v ∷ vs) q ≡ has (w ∷ ws) q) where
  by_ends : v.array ≡ w.array → v.at ≡ w.at → Heads v w
  by_ends a s = elim (cases_order (end_of v) (end_of w)) [
    | inl e ↦ record { array = a; at = s; end = e }
    | inr (inl h) ↦ absurd (ends_no_earlier v w vs ws f g same a s h)
    | inr (inr h) ↦ absurd (ends_no_earlier w v ws vs g f (λ q. sym (same q)) (sym a) (sym s) h)
  ]

  heads : Heads v w
  heads = elim (follows_cases (start v) w.array w.at (begins_no_earlier v w vs ws f g same)) [
    | inl h ↦ elim (follows_cases (start w) v.array v.at (begins_no_earlier w v ws vs g f (λ q. sym (same q)))) [
      | inl k ↦ absurd (omega (arith, h, k))
      | inr k ↦ absurd (omega (arith, h, k.0))
    ]
    | inr h ↦ elim (follows_cases (start w) v.array v.at (begins_no_earlier w v ws vs g f (λ q. sym (same q)))) [
      | inl k ↦ absurd (omega (arith, h.0, k))
      | inr k ↦ by_ends h.0 (omega (arith, h.1, k.1))
    ]
  ]

  first_same : v ≡ w
  first_same = same_window v w heads

  -- a place of the first window is in none of the others
  in_none : (x : Window) (xs : List Window) (q : Place) → is_cover (x ∷ xs) ≡ true → is_in x q ≡ true → has xs q ≡ false
  in_none x xs q cover k =
      let i = in_window x q k in none_behind q x xs (precedes-index q x.array (end_of x) i.array i.high) (covered x xs cover).all

  rest_same : (q : Place) (b : Bool) → is_in v q ≡ b → has vs q ≡ has ws q
  rest_same q true e =
      in_none v vs q f e ∙ sym (in_none w ws q g (ap (λ x. is_in x q) (sym first_same) ∙ e))
  rest_same q false e =
      ap (λ b. b || has vs q) (sym e) ∙ same q ∙ ap (λ b. b || has ws q) (ap (λ x. is_in x q) (sym first_same) ∙ e)

-- a cover that has a window has a place
not_empty : (w : Window) (ws : List Window) → is_cover (w ∷ ws) ≡ true → ((q : Place) → has (w ∷ ws) q ≡ false) → ⊥
not_empty w ws g h = true≢false
    (sym (or_left (is_in w (start w)) (has ws (start w)) (in_at_start w (covered w ws g).places)) ∙ h (start w))

-- two covers of the same places are one
pub same_cover : (vs ws : List Window) → is_cover vs ≡ true → is_cover ws ≡ true → ((q : Place) → has vs q ≡ has ws q) → vs ≡ ws
same_cover [] [] f g same = refl
same_cover [] (w ∷ ws) f g same = absurd (not_empty w ws g (λ q. sym (same q)))
same_cover (v ∷ vs) [] f g same = absurd (not_empty v vs f same)
same_cover (v ∷ vs) (w ∷ ws) f g same =
    ap (λ x. x ∷ vs) (first_same v w vs ws f g same)
    ∙ ap (λ xs. w ∷ xs) (same_cover vs ws (covered v vs f).rest (covered w ws g).rest
    (λ q. rest_same v w vs ws f g same q (is_in v q) refl))
