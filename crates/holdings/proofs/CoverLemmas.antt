-- Windows of covers are disjoint, and their costs.
use Rattle.std.proofs.Common.{◌≡◌, ℕ, zero, suc, ◌+◌, ◌-◌, ◌<◌, ◌≤◌, min, List, [], ◌∷◌, ◌++◌, length, get_or, map, take}
use Rattle.std.proofs.Common.{Bool, true, false, inl, inr, refl, sym, ap, ◌∙◌, arith}
use Rattle.std.proofs.lemmas.Bool.{and_parts, false≢true, or_cases}
use Rattle.std.proofs.lemmas.List.{take_more}
use Rattle.std.proofs.lemmas.List.Sums.{sum_by-cons, sum_by-append}
use Rattle.std.specs.List.{list_all, sum_by}
use Rattle.std.specs.Prelude.{◌^◌}
use Rattle.sections.specs.Covers.{ends_before, has, is_cover, is_in}
use Rattle.sections.specs.Place.{Place, Window}
use Rattle.sections.specs.Translation.{window as window_of}
use Rattle.sections.specs.declared.window.Window.{Window as rWindow}
use Rattle.sections.proofs.Covering.{ends_cases, in_window}
use Rattle.sections.proofs.Cutting.{covered}
use Rattle.sections.proofs.Unique.{same_cover}
use Rattle.blocks.specs.Held.{Held, Map}
use Rattle.holdings.specs.Copied.{CopiesSplit, CountsCarve, IsCoverOf, LiesWithin, as_count, carve_copies, split_in, split_places}

-- ---- windows of a cover

ends-clear : (v w : Window) (q : Place) → ends_before v w ≡ true → is_in v q ≡ true → is_in w q ≡ false
ends-clear v w q ends here = by_test (is_in w q) refl
  where
    by_test : (t : Bool) → is_in w q ≡ t → is_in w q ≡ false
    by_test false e = e
    by_test true e =
        let a = in_window v q here in
        let b = in_window w q e in
        elim (ends_cases v w ends) [
          | inl lt ↦ absurd (omega (arith, lt, a.array, b.array))
          | inr p ↦ absurd (omega (arith, p.1, a.high, b.low))
        ]

all_ends : (x : Window) (ws : List rWindow) (i : ℕ) (w : rWindow) → list_all (ends_before x) (map window_of ws) ≡ true
    → i < length ws → w ≡ get_or ws i w → ends_before x (window_of w) ≡ true
all_ends x [] i w h lt is = absurd (omega (arith, lt))
all_ends x (v ∷ vs) zero w h lt is =
    ap (λ (y : rWindow). ends_before x (window_of y)) is ∙ (and_parts (ends_before x (window_of v)) (list_all (ends_before x) (map window_of vs)) h).0
all_ends x (v ∷ vs) (suc i) w h lt is =
    all_ends x vs i w (and_parts (ends_before x (window_of v)) (list_all (ends_before x) (map window_of vs)) h).1 (omega (arith, lt)) is

-- a place of the windows so far is none of the next
pub cover-clear : (ws : List rWindow) (i : ℕ) (w : rWindow) → is_cover (map window_of ws) ≡ true → i < length ws → w ≡ get_or ws i w
    → (q : Place) → has (map window_of (take i ws)) q ≡ true → is_in (window_of w) q ≡ false
cover-clear [] i w cover lt is q here = absurd (omega (arith, lt))
cover-clear (x ∷ xs) zero w cover lt is q here = absurd (false≢true here)
cover-clear (x ∷ xs) (suc i) w cover lt is q here =
    let c = covered (window_of x) (map window_of xs) cover in
    elim (or_cases (is_in (window_of x) q) (has (map window_of (take i xs)) q) here) [
      | inl e ↦ ends-clear (window_of x) (window_of w) q (all_ends (window_of x) xs i w c.all (omega (arith, lt)) is) e
      | inr e ↦ cover-clear xs i w c.rest (omega (arith, lt)) is q e
    ]

-- ---- what they cost

map-push : (ws : List rWindow) (w : rWindow) → map window_of (ws ++ w ∷ []) ≡ map window_of ws ++ window_of w ∷ []
map-push [] w = refl
map-push (x ∷ ws) w = ap (λ xs. window_of x ∷ xs) (map-push ws w)

-- a sum over the windows so far, and the next one
pub sum-more : (f : Window → ℕ) (ws : List rWindow) (i : ℕ) (w : rWindow) → i < length ws → w ≡ get_or ws i w
    → sum_by f (map window_of (take (i + 1) ws)) ≡ sum_by f (map window_of (take i ws)) + f (window_of w)
sum-more f ws i w lt is =
    let more : take (i + 1) ws ≡ take i ws ++ w ∷ [] = take_more ws i w lt ∙ ap (λ x. take i ws ++ x ∷ []) (sym is) in
    let one : sum_by f (window_of w ∷ []) ≡ f (window_of w) = sum_by-cons f (window_of w) [] ∙ omega arith in
    ap (λ xs. sum_by f (map window_of xs)) more
    ∙ ap (sum_by f) (map-push (take i ws) w)
    ∙ sum_by-append f (map window_of (take i ws)) (window_of w ∷ [])
    ∙ ap (λ n. sum_by f (map window_of (take i ws)) + n) one

pub split-more : (lengths : ℕ → ℕ) (ws : List rWindow) (i : ℕ) (w : rWindow) → i < length ws → w ≡ get_or ws i w
    → split_in lengths (map window_of (take (i + 1) ws)) ≡ split_in lengths (map window_of (take i ws)) + split_places lengths (window_of w)
split-more lengths ws i w lt is = sum-more (split_places lengths) ws i w lt is

-- the exact count of the windows so far, and of the next one
pub counts-window : (f : Window → ℕ) (ws : List rWindow) (i : ℕ) (w : rWindow) (n n' : ℕ) → i < length ws → w ≡ get_or ws i w
    → min n (2 ^ 64 - 1) ≡ min (sum_by f (map window_of (take i ws))) (2 ^ 64 - 1)
    → min n' (2 ^ 64 - 1) ≡ min (n + f (window_of w)) (2 ^ 64 - 1)
    → min n' (2 ^ 64 - 1) ≡ min (sum_by f (map window_of (take (i + 1) ws))) (2 ^ 64 - 1)
counts-window f ws i w n n' lt is so_far here = omega (arith, sum-more f ws i w lt is, so_far, here)

-- the windows of a cover are the only ones that are one of their places
pub copies-split : {A : Type 0} (m : Map A) (ws : List rWindow) (n : ℕ) → is_cover (map window_of ws) ≡ true
    → ((lengths : ℕ → ℕ) → LiesWithin lengths m → n ≤ split_in lengths (map window_of ws))
    → CopiesSplit m (has (map window_of ws)) 0 n
copies-split m ws n cover most lengths vs within of =
    let same : map window_of ws ≡ vs = same_cover (map window_of ws) vs cover of.form (λ q. sym (of.places q)) in
    let e : split_in lengths (map window_of ws) ≡ split_in lengths vs = ap (split_in lengths) same in
    omega (arith, most lengths within, e)

-- what was copied, added to what was before, for the same places
pub copies-from : {A : Type 0} (m : Map A) (set other : Place → Bool) (n old new : ℕ) → ((q : Place) → set q ≡ other q)
    → CopiesSplit m set 0 n → new ≤ old + n → CopiesSplit m other old new
copies-from m set other n old new same copies less lengths ws within of =
    let most = copies lengths ws within (record { form = of.form; places = λ q. of.places q ∙ sym (same q) }) in
    omega (arith, most, less)

-- the exact count holds for each cover of the same places
pub counts-cover : (m : Map Held) (ws : List rWindow) (n : ℕ) → is_cover (map window_of ws) ≡ true
    → as_count n ≡ as_count (carve_copies m (map window_of ws)) → (vs : List Window) → IsCoverOf vs (has (map window_of ws))
    → as_count n ≡ as_count (carve_copies m vs)
counts-cover m ws n cover counted vs of =
    let same : map window_of ws ≡ vs = same_cover (map window_of ws) vs cover of.form (λ q. sym (of.places q)) in
    counted ∙ ap (λ us. as_count (carve_copies m us)) same

-- what was copied exactly, added to what was before, for the same places
pub counts-from : (m : Map Held) (set other : Place → Bool) (n old new : ℕ) → ((q : Place) → set q ≡ other q)
    → ((ws : List Window) → IsCoverOf ws set → as_count n ≡ as_count (carve_copies m ws)) → new ≡ min (old + n) (2 ^ 64 - 1)
    → CountsCarve m other old new
counts-from m set other n old new same counted is ws of =
    omega (arith, is, counted ws (record { form = of.form; places = λ q. of.places q ∙ sym (same q) }))
