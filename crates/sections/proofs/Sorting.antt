-- The result of sorting: windows in the order of their first places.
use Rattle.std.proofs.Common.{◌≡◌, ◌⊎◌, inl, inr, ℕ, suc, ◌+◌, ◌<◌, ◌≤◌, List, [], ◌∷◌, length, refl, sym, ap, ◌∙◌, subst, arith}
use Rattle.std.proofs.Common.{get_or, map, cond, take, drop, ◌-◌}
use Rattle.std.proofs.Math.Seq.{take-length}
use Rattle.std.proofs.lemmas.Bool.{eqb-true, eqb-false, ltb-false, and_from, true≢false, false_from_ne_true}
use Rattle.std.proofs.lemmas.List.Elements.{recursion_from_All, All-from_recursion}
use Rattle.std.proofs.lemmas.List.Sorted.{All-permutation, list_any-IsPermutation}
use Rattle.std.specs.Prelude.{Bool, true, false, ◌&&◌, ◌||◌, nat_eq, nat_lt}
use Rattle.std.specs.List.{filter, list_any, AllByRecursion}
use Rattle.std.specs.List.Sorted.{IsPermutation, IsSorted}
use Rattle.std.specs.Ordering.{nat_cmp, ordering_then, is_lt}
use Rattle.std.specs.declared.cmp.Ordering.{Ordering}
use Rattle.std.specs.declared.cmp.Ordering.TheVariants.{Less, Equal, Greater}
use Rattle.sections.specs.Place.{Place, Window}
use Rattle.sections.specs.Covers.{is_in, has, has_places}
use Rattle.sections.specs.Joining.{begins_no_later, is_ascending}
use Rattle.sections.specs.Translation.{window}
use Rattle.sections.specs.declared.window.Window.{Window as rWindow}
use Rattle.sections.proofs.Covering.{in_window, begins-array, begins-at}

-- two numbers that compare first
not_less : (x y : ℕ) (o : Ordering) → is_lt (ordering_then (nat_cmp x y) o) ≡ false → (y < x) ⊎ ((x ≡ y) × (is_lt o ≡ false))
not_less x y o h = go (nat_lt x y) (nat_eq x y) refl refl h
  where
    go : (b c : Bool) → nat_lt x y ≡ b → nat_eq x y ≡ c
        → is_lt (ordering_then (cond b Less (cond c Equal Greater)) o) ≡ false → (y < x) ⊎ ((x ≡ y) × (is_lt o ≡ false))
    go true c e f h = absurd (true≢false h)
    go false true e f h = inr (eqb-true x y f, h)
    go false false e f h = inl (let k : y ≤ x = ltb-false x y e in let ne = eqb-false x y f in omega (arith, k, ne))

-- a window that isn't less starts no earlier
pub begins-not_less : (v w : rWindow) (o : Ordering)
    → is_lt (ordering_then (nat_cmp w.array.number v.array.number) (ordering_then (nat_cmp w.at v.at) o)) ≡ false
    → begins_no_later (window v) (window w) ≡ true
begins-not_less v w o h = elim (not_less w.array.number v.array.number (ordering_then (nat_cmp w.at v.at) o) h) [
  | inl k ↦ begins-array (window v) (window w) k
  | inr (e, k) ↦ begins-at (window v) (window w) (sym e) (at (not_less w.at v.at o k))
]
  where
    at : (v.at < w.at) ⊎ ((w.at ≡ v.at) × (is_lt o ≡ false)) → v.at ≤ w.at
    at (inl k) = omega (arith, k)
    at (inr k) = omega (arith, k.0)

-- neighbours in order make a list in order
pub ascending-neighbours : (xs : List rWindow) → AllByRecursion (λ w. has_places (window w) ≡ true) xs
    → ((k : ℕ) (d : rWindow) → k + 1 < length xs → begins_no_later (window (get_or xs k d)) (window (get_or xs (k + 1) d)) ≡ true)
    → is_ascending (map window xs) ≡ true
ascending-neighbours [] all h = refl
ascending-neighbours (x ∷ []) all h = and_from (has_places (window x)) true all.0 refl
ascending-neighbours (x ∷ (y ∷ ys)) all h =
    and_from (has_places (window x)) (begins_no_later (window x) (window y) && is_ascending (map window (y ∷ ys))) all.0
    (and_from (begins_no_later (window x) (window y)) (is_ascending (map window (y ∷ ys))) (h 0 x (omega arith))
    (ascending-neighbours (y ∷ ys) all.1 (λ k d lt.
    (let e : suc k + 1 ≡ suc (k + 1) = omega arith in
    subst (λ n. begins_no_later (window (get_or (y ∷ ys) k d)) (window (get_or (x ∷ (y ∷ ys)) n d)) ≡ true) e
    (h (suc k) d (omega (arith, lt)))))))

-- a window without places contains no place
pub is_in-empty : (w : Window) (q : Place) → has_places w ≡ false → is_in w q ≡ false
is_in-empty w q h = false_from_ne_true (is_in w q) (λ k.
    (let i = in_window w q k in
    let l : w.at ≤ q.index = i.low in
    let u : q.index < w.at + w.length = i.high in
    let e : w.length ≤ 0 = ltb-false 0 w.length h in
    omega (arith, l, u, e)))

has-test : (q : Place) (w : rWindow) (ws : List rWindow) (b : Bool) → has_places (window w) ≡ b
    → has (map window (filter (λ w. has_places (window w)) ws)) q ≡ has (map window ws) q
    → has (map window (cond b (w ∷ filter (λ w. has_places (window w)) ws) (filter (λ w. has_places (window w)) ws))) q
    ≡ (is_in (window w) q || has (map window ws) q)
has-test q w ws true e h = ap (λ b. is_in (window w) q || b) h
has-test q w ws false e h = h ∙ ap (λ b. b || has (map window ws) q) (sym (is_in-empty (window w) q e))

pub has-filter : (q : Place) (ws : List rWindow)
    → has (map window (filter (λ w. has_places (window w)) ws)) q ≡ has (map window ws) q
has-filter q [] = refl
has-filter q (w ∷ ws) = has-test q w ws (has_places (window w)) refl (has-filter q ws)

kept-test : (w : rWindow) (ws : List rWindow) (b : Bool) → has_places (window w) ≡ b
    → AllByRecursion (λ w. has_places (window w) ≡ true) ws
    → AllByRecursion (λ w. has_places (window w) ≡ true) (cond b (w ∷ ws) ws)
kept-test w ws true e h = (e, h)
kept-test w ws false e h = h

kept_have_places : (ws : List rWindow)
    → AllByRecursion (λ w. has_places (window w) ≡ true) (filter (λ w. has_places (window w)) ws)
kept_have_places [] = tt
kept_have_places (w ∷ ws) =
    kept-test w (filter (λ w. has_places (window w)) ws) (has_places (window w)) refl (kept_have_places ws)

-- the windows of a list that have places, sorted
pub record Sorted (ws sorted : List rWindow) : Type 0 where
  pub ascending : is_ascending (map window sorted) ≡ true
  pub places : (q : Place) → has (map window sorted) q ≡ has (map window ws) q

has-map : (q : Place) (ws : List rWindow) → has (map window ws) q ≡ list_any (λ w. is_in (window w) q) ws
has-map q [] = refl
has-map q (w ∷ ws) = ap (λ b. is_in (window w) q || b) (has-map q ws)

sorted_windows : (ws sorted : List rWindow) → IsPermutation (filter (λ w. has_places (window w)) ws) sorted
    → ((k : ℕ) (d : rWindow) → k + 1 < length sorted
    → begins_no_later (window (get_or sorted k d)) (window (get_or sorted (k + 1) d)) ≡ true)
    → Sorted ws sorted
sorted_windows ws sorted moved h = record {
  ascending = ascending-neighbours sorted (recursion_from_All (λ w. has_places (window w) ≡ true) sorted
      (All-permutation (λ w. has_places (window w) ≡ true) (filter (λ w. has_places (window w)) ws) sorted moved
      (All-from_recursion (λ w. has_places (window w) ≡ true) (filter (λ w. has_places (window w)) ws) (kept_have_places ws)))) h;
  places = λ q. has-map q sorted
      ∙ sym (list_any-IsPermutation (λ w. is_in (window w) q) (filter (λ w. has_places (window w)) ws) sorted moved)
      ∙ sym (has-map q (filter (λ w. has_places (window w)) ws))
      ∙ has-filter q ws;
}

-- how windows compare: by array, then by place
abbrev pub window_cmp : rWindow → rWindow → Ordering
window_cmp v w =
    ordering_then (nat_cmp v.array.number w.array.number) (ordering_then (nat_cmp v.at w.at) (nat_cmp v.len w.len))

pub sorted-filter : (ws kept sorted : List rWindow) → kept ≡ filter (λ w. has_places (window w)) ws
    → IsPermutation kept sorted → IsSorted window_cmp sorted → Sorted ws sorted
sorted-filter ws kept sorted e moved h =
    sorted_windows ws sorted (subst (λ xs. IsPermutation xs sorted) e moved) (λ k d lt.
    begins-not_less (get_or sorted k d) (get_or sorted (k + 1) d) (nat_cmp (get_or sorted (k + 1) d).len (get_or sorted k d).len)
    (h k d (omega arith) lt))

-- if there is a first window
pub first_and_rest : (xs : List rWindow) (x : rWindow) → 1 ≤ length xs → x ≡ get_or xs 0 x
    → x ∷ take (length xs - 1) (drop 1 xs) ≡ xs
first_and_rest [] x h e = absurd (omega (arith, h))
first_and_rest (y ∷ ys) x h e =
    let n : suc (length ys) - 1 ≡ length ys = omega arith in
    ap (λ z. z ∷ take (suc (length ys) - 1) ys) e ∙ ap (λ n. y ∷ take n ys) n ∙ ap (λ zs. y ∷ zs) (take-length ys)

pub empty_list : (xs : List rWindow) → length xs < 1 → xs ≡ []
empty_list [] h = refl
empty_list (x ∷ xs) h = absurd (omega (arith, h))
