-- Sums over shares, and the numbers below the word.
use Rattle.std.proofs.Common.{◌≡◌, ◌≢◌, ℕ, zero, suc, ◌+◌, ◌*◌, ◌≤◌, ◌==◌, cond, List, [], ◌∷◌, ◌++◌, length}
use Rattle.std.proofs.Common.{slice_index, set, ⊎_elim, sum_by, sym, refl, ap, subst, arith}
use Rattle.std.proofs.lemmas.List.Sums.{sum_by-cons}
use mathlib.Core.Option.{some, some-injective, some-ne-none}
use lib.ListN.{get_elem?}
use Rattle.atomic_table.proofs.Lists.{at_set, at_snoc}
use Rattle.tickets.specs.declared.rule.SeatShare.{SeatShare}
use Rattle.tickets.specs.Shares.{share, times, one_below, IsWithinDraws}

-- if a share changes, the sum changes with it
pub sum_by-set_share : (f : SeatShare → ℕ) (shares : List SeatShare) (i : ℕ) (v w : SeatShare) → get_elem? shares i ≡ some v
    → sum_by f (set shares i w) + f v ≡ sum_by f shares + f w
sum_by-set_share f [] i v w e = absurd (some-ne-none v (sym e))
sum_by-set_share f (u ∷ us) zero v w e =
    let first : f u ≡ f v = ap f (some-injective u v e) in
    omega (arith, first, sum_by-cons f u us, sum_by-cons f w us)
sum_by-set_share f (u ∷ us) (suc i) v w e =
    omega (arith, sum_by-set_share f us i v w e, sum_by-cons f u us, sum_by-cons f u (set us i w))

-- the numbers below n + 1 are the numbers below n, and n
pub one_below-suc : (x n : ℕ) → one_below x (n + 1) ≡ one_below x n + cond (n == x) 1 0
one_below-suc x n = grind arith

pub first_word-set : (ws : List ℕ) (n : ℕ) → length ws ≡ 1 → slice_index (set ws 0 n) 0 ≡ n
first_word-set [] n e = absurd (omega (arith, e))
first_word-set (w ∷ ws) n e = refl

pub length-set_word : (ws : List ℕ) (n : ℕ) → length ws ≡ 1 → length (set ws 0 n) ≡ 1
length-set_word [] n e = e
length-set_word (w ∷ ws) n e = e

pub first_word : (ws : List ℕ) (n : ℕ) → get_elem? ws 0 ≡ some n → slice_index ws 0 ≡ n
first_word [] n e = absurd (some-ne-none n (sym e))
first_word (w ∷ ws) n e = some-injective w n e

-- the draws of all shares are within the limits of all seats
pub draws_le : (shares : List SeatShare) → IsWithinDraws shares
    → sum_by (λ v. length v.drawn) shares ≤ sum_by (λ v. v.seats) shares * 4294967296
draws_le [] within = omega arith
draws_le (v ∷ vs) within = omega (
  arith,
  within 0 v refl,
  draws_le vs (λ i u at. within (suc i) u at),
  sum_by-cons (λ (u : SeatShare). length u.drawn) v vs,
  sum_by-cons (λ (u : SeatShare). u.seats) v vs,
)

pub within_draws-set : (shares : List SeatShare) (i : ℕ) (w : SeatShare) → length w.drawn ≤ w.seats * 4294967296
    → IsWithinDraws shares → IsWithinDraws (set shares i w)
within_draws-set shares i w fits within j u e =
    ⊎_elim (λ (t : (j ≡ i) × (w ≡ u)). subst (λ (z : SeatShare). length z.drawn ≤ z.seats * 4294967296) t.1 fits)
    (λ (t : (j ≢ i) × (get_elem? shares j ≡ some u)). within j u t.1) (at_set shares i j w u e)

pub within_draws-push : (shares : List SeatShare) (w : SeatShare) → length w.drawn ≤ w.seats * 4294967296
    → IsWithinDraws shares → IsWithinDraws (shares ++ w ∷ [])
within_draws-push shares w fits within j u e =
    ⊎_elim (λ (t : get_elem? shares j ≡ some u). within j u t)
    (λ (t : w ≡ u). subst (λ (z : SeatShare). length z.drawn ≤ z.seats * 4294967296) t fits) (at_snoc shares w u j e)

-- if no share has a seat, nothing was drawn
nothing_drawn : (x : ℕ) (shares : List SeatShare) → IsWithinDraws shares → sum_by (λ v. v.seats) shares ≡ 0
    → sum_by (λ v. times x v.drawn) shares ≡ 0
nothing_drawn x [] within none = refl
nothing_drawn x (v ∷ vs) within none =
    let seats = sum_by-cons (λ (u : SeatShare). u.seats) v vs in
    omega (
      arith,
      sum_by-cons (λ (u : SeatShare). times x u.drawn) v vs,
      nothing_drawn x vs (λ i u at. within (suc i) u at) (omega (arith, none, seats)),
      never v.drawn (omega (arith, within 0 v refl, none, seats)),
    )
  where
    never : (drawn : List ℕ) → length drawn ≡ 0 → times x drawn ≡ 0
    never [] e = refl
    never (y ∷ ys) e = absurd (omega (arith, e))

-- a share that represents every seat lists all that was drawn
pub share_of_all : (x : ℕ) (shares : List SeatShare) (i : ℕ) (v : SeatShare) → IsWithinDraws shares
    → get_elem? shares i ≡ some v → sum_by (λ u. u.seats) shares ≡ v.seats
    → sum_by (λ u. times x u.drawn) shares ≡ times x v.drawn
share_of_all x shares i v within at all =
    let rest : List SeatShare = set shares i (share 0 []) in
    let seats = sum_by-set_share (λ u. u.seats) shares i v (share 0 []) at in
    let drawn = sum_by-set_share (λ u. times x u.drawn) shares i v (share 0 []) at in
    let none = nothing_drawn x rest (within_draws-set shares i (share 0 []) (omega arith) within)
    (omega (arith, seats, all)) in
    omega (arith, drawn, none)
