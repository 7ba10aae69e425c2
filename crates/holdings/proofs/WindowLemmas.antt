-- Places of lists of windows, one window more at a time.
use Rattle.std.proofs.Common.{◌≡◌, ℕ, zero, suc, ◌+◌, ◌<◌, List, [], ◌∷◌, ◌++◌, length, get_or, map, take}
use Rattle.std.proofs.Common.{true, sym, ap, ◌∙◌, arith, ◌⊎◌, inl, inr}
use Rattle.std.proofs.Math.Bool.{or_assoc, or-false, or-true}
use Rattle.std.proofs.lemmas.Bool.{or_cases}
use Rattle.std.proofs.lemmas.List.{take_more}
use Rattle.std.specs.Prelude.{◌||◌}
use Rattle.sections.specs.Covers.{has, is_in}
use Rattle.sections.specs.Place.{Place}
use Rattle.sections.specs.Translation.{window as window_of}
use Rattle.sections.specs.declared.window.Window.{Window as rWindow}
use Rattle.blocks.specs.Held.{IsThere, Map}

pub has-behind : (ws : List rWindow) (w : rWindow) (q : Place)
    → has (map window_of (ws ++ w ∷ [])) q ≡ (has (map window_of ws) q || is_in (window_of w) q)
has-behind [] w q = or-false (is_in (window_of w) q)
has-behind (x ∷ ws) w q =
    ap (λ b. is_in (window_of x) q || b) (has-behind ws w q)
    ∙ sym (or_assoc (is_in (window_of x) q) (has (map window_of ws) q) (is_in (window_of w) q))

-- the places of the windows so far and of the next
pub has-take_more : (ws : List rWindow) (i : ℕ) (w : rWindow) (q : Place) → i < length ws → w ≡ get_or ws i w
    → has (map window_of (take (i + 1) ws)) q ≡ (has (map window_of (take i ws)) q || is_in (window_of w) q)
has-take_more ws i w q lt is =
    let more : take (i + 1) ws ≡ take i ws ++ w ∷ [] = take_more ws i w lt ∙ ap (λ x. take i ws ++ x ∷ []) (sym is) in
    ap (λ xs. has (map window_of xs) q) more ∙ has-behind (take i ws) w q

-- a place of one of the windows
pub has-item : (ws : List rWindow) (i : ℕ) (w : rWindow) (q : Place) → i < length ws → w ≡ get_or ws i w
    → is_in (window_of w) q ≡ true → has (map window_of ws) q ≡ true
has-item [] i w q lt is here = absurd (omega (arith, lt))
has-item (x ∷ xs) zero w q lt is here =
    ap (λ (y : rWindow). is_in (window_of y) q || has (map window_of xs) q) (sym is)
    ∙ ap (λ b. b || has (map window_of xs) q) here
has-item (x ∷ xs) (suc i) w q lt is here =
    ap (λ b. is_in (window_of x) q || b) (has-item xs i w q (omega (arith, lt)) is here) ∙ or-true (is_in (window_of x) q)

pub there-more : {A : Type 0} (ws : List rWindow) (i : ℕ) (w : rWindow) (m : Map A) → i < length ws → w ≡ get_or ws i w
    → IsThere (has (map window_of (take i ws))) m → IsThere (is_in (window_of w)) m → IsThere (has (map window_of (take (i + 1) ws))) m
there-more ws i w m lt is before here q all none =
    by_part (or_cases (has (map window_of (take i ws)) q) (is_in (window_of w) q) (sym (has-take_more ws i w q lt is) ∙ all))
  where
    by_part : (has (map window_of (take i ws)) q ≡ true) ⊎ (is_in (window_of w) q ≡ true) → ⊥
    by_part (inl e) = before q e none
    by_part (inr e) = here q e none

pub there-item : {A : Type 0} (ws : List rWindow) (i : ℕ) (w : rWindow) (m : Map A) → i < length ws → w ≡ get_or ws i w
    → IsThere (has (map window_of ws)) m → IsThere (is_in (window_of w)) m
there-item ws i w m lt is there q here = there q (has-item ws i w q lt is here)
