-- Whether places that come back are owned, one by one.
use Rattle.std.proofs.Common.{◌≡◌, ℕ, zero, suc, ◌+◌, ◌-◌, ◌<◌, List, [], ◌∷◌, length, get_or, map, take, refl, sym, ap, ◌∙◌, arith}
use Rattle.std.proofs.lemmas.List.Folds.{list_any_at, list_any_more}
use Rattle.std.specs.List.{list_any}
use Rattle.std.specs.Prelude.{Bool, true, false, ◌&&◌, ◌||◌, nat_eq, nat_le, nat_lt}
use Rattle.sections.specs.Covers.{has, is_in}
use Rattle.sections.specs.Place.{Place}
use Rattle.sections.specs.Translation.{window}
use Rattle.sections.specs.declared.window.Window.{Window as rWindow}
use Rattle.task_run.specs.Places.{Places, has_one, meets}

-- ---- a place of windows
abbrev pub covers : Place → rWindow → Bool
covers q w = nat_eq q.array w.array.number && (nat_le w.at q.index && nat_lt q.index (w.at + w.len))

pub has_place : (q : Place) (ws : List rWindow) → list_any (covers q) ws ≡ has (map window ws) q
has_place q [] = refl
has_place q (w ∷ ws) = ap (λ (b : Bool). is_in (window w) q || b) (has_place q ws)

module _ (set : Places) where
  -- ---- places of a window, one after the other
  pub one-behind : (a at n : ℕ) → 0 < n → set (record { array = a; index = at }) ≡ false
      → has_one set a (at + 1) (n - 1) ≡ has_one set a at n
  one-behind a at zero lt e = absurd (omega (arith, lt))
  one-behind a at (suc n) lt e =
      let back : suc n - 1 ≡ n = omega arith in
      ap (has_one set a (at + 1)) back ∙ sym (ap (λ (b : Bool). b || has_one set a (at + 1) n) e)

  -- ---- windows, one after the other
  abbrev one_of : rWindow → Bool
  one_of w = has_one set w.array.number w.at w.len

  meets-any : (ws : List rWindow) → meets set (map window ws) ≡ list_any one_of ws
  meets-any [] = refl
  meets-any (w ∷ ws) = ap (λ (b : Bool). one_of w || b) (meets-any ws)

  pub meets-item : (ws : List rWindow) (i : ℕ) (w : rWindow) → i < length ws → w ≡ get_or ws i w → one_of w ≡ true
      → meets set (map window ws) ≡ true
  meets-item ws i w lt is e = meets-any ws ∙ list_any_at one_of ws i w lt (ap one_of (sym is) ∙ e)

  pub meets-more : (ws : List rWindow) (i : ℕ) (w : rWindow) → i < length ws → w ≡ get_or ws i w
      → meets set (map window (take i ws)) ≡ false → one_of w ≡ false → meets set (map window (take (i + 1) ws)) ≡ false
  meets-more ws i w lt is before e =
      meets-any (take (i + 1) ws)
      ∙ list_any_more one_of ws i w lt
      ∙ ap (λ (b : Bool). b || one_of (get_or ws i w)) (sym (meets-any (take i ws)) ∙ before)
      ∙ ap one_of (sym is)
      ∙ e
