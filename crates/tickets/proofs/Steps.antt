-- Each step of the ticket word preserves its invariant.
use Rattle.std.proofs.Common.{◌≡◌, ◌≢◌, ℕ, ◌+◌, ◌-◌, ◌%◌, ◌^◌, ◌<◌, ◌≤◌, List, [], ◌∷◌, ◌++◌, length, slice_index, set}
use Rattle.std.proofs.Common.{sym, refl, ap, ◌∙◌, ⊎_elim, arith, rules, length-append}
use Rattle.std.proofs.lemmas.List.Sums.{sum_by-append, sum_by_push}
use mathlib.Core.Option.{some}
use lib.ListN.{get_elem?}
use Rattle.atomic_table.specs.Table.{Me, Allows, Splits, Joins, keeps, Final, Seen}
use Rattle.atomic_table.proofs.Lists.{at_set}
use Rattle.std.specs.Prelude.{cond, ◌==◌}
use Rattle.tickets.specs.declared.rule.SeatShare.{SeatShare}
use Rattle.tickets.specs.Shares.{share, times, one_below, DrawsOnce}
use Rattle.tickets.proofs.ShareLemmas.{sum_by-set_share, one_below-suc, first_word, first_word-set, length-set_word, draws_le}
use Rattle.tickets.proofs.ShareLemmas.{within_draws-set, within_draws-push, share_of_all}

-- a draw: the word is one more, and the share lists its old value
pub draw_keeps : (seats slots id : ℕ) (me : Me (Unit {0}) SeatShare) → me.0.seats ≡ 1 → length me.0.drawn < 4294967296
    → Allows (DrawsOnce seats) slots id me 0 (λ n. (n + 1) % 2 ^ 64)
    (λ n w. (w ≡ (share me.0.seats (me.0.drawn ++ n ∷ []), me.1)) × (length me.0.drawn ≤ n))
draw_keeps seats slots id me one few s was homes at small =
    let n : ℕ = slice_index s.words 0 in
    let v : SeatShare = me.0 in
    let w : SeatShare = share v.seats (v.drawn ++ n ∷ []) in
    let fits : n + 1 < 2 ^ 64 = omega (arith, was.most, was.all, was.count, draws_le s.views was.within) in
    let same : (n + 1) % 2 ^ 64 ≡ n + 1 = search rules in
    let word : slice_index (set s.words 0 ((n + 1) % 2 ^ 64)) 0 ≡ n + 1
    = first_word-set s.words ((n + 1) % 2 ^ 64) was.word ∙ same in
    let longer : length w.drawn ≡ length v.drawn + 1 = length-append v.drawn (n ∷ []) in
    let holds : DrawsOnce seats (record {
      words = set s.words 0 ((n + 1) % 2 ^ 64);
      homes = s.homes;
      views = set s.views id w;
    }) = record {
      word = length-set_word s.words ((n + 1) % 2 ^ 64) was.word;
      most = was.most;
      all = omega (arith, was.all, sum_by-set_share (λ u. u.seats) s.views id v w at);
      count = omega (arith, was.count, word, longer, sum_by-set_share (λ u. length u.drawn) s.views id v w at);
      once =
          λ x.
          let more : times x w.drawn ≡ times x v.drawn + cond (n == x) 1 0 = sum_by_push (λ y. cond (y == x) 1 0) v.drawn n in
          let sums = sum_by-set_share (λ u. times x u.drawn) s.views id v w at in
          let below : one_below x (slice_index (set s.words 0 ((n + 1) % 2 ^ 64)) 0) ≡ one_below x n + cond (n == x) 1 0
          = ap (one_below x) word ∙ one_below-suc x n in
          omega (arith, was.once x, more, sums, below);
      within = within_draws-set s.views id w (omega (arith, one, few, longer)) was.within;
    } in
    let least : length v.drawn ≤ n
    = omega (arith, was.count, sum_by-set_share (λ u. length u.drawn) s.views id v (share 0 []) at) in
    (w, keeps, tt, holds, (refl, least))

-- a seat is taken off a share that has drawn nothing
pub split_keeps : (seats id : ℕ) (v : SeatShare) → 0 < v.seats → v.drawn ≡ []
    → Splits (DrawsOnce seats) id v (share (v.seats - 1) v.drawn) (share 1 [])
split_keeps seats id v left_over none s was at =
    let left : SeatShare = share (v.seats - 1) v.drawn in
    let right : SeatShare = share 1 [] in
    let cut : List SeatShare = set s.views id left in
    let empty : length v.drawn ≡ 0 = ap length none in
    let seats_left = sum_by-set_share (λ u. u.seats) s.views id v left at in
    let seats_right = sum_by_push (λ (u : SeatShare). u.seats) cut right in
    let drawn_left = sum_by-set_share (λ u. length u.drawn) s.views id v left at in
    let drawn_right = sum_by_push (λ (u : SeatShare). length u.drawn) cut right in
    record {
      word = was.word;
      most = was.most;
      all = omega (arith, was.all, seats_left, seats_right);
      count = omega (arith, was.count, drawn_left, drawn_right);
      once = λ x. omega (
        arith,
        was.once x,
        sum_by-set_share (λ u. times x u.drawn) s.views id v left at,
        sum_by_push (λ (u : SeatShare). times x u.drawn) cut right,
      );
      within = within_draws-push cut right (omega arith) (within_draws-set s.views id left (omega (arith, empty)) was.within);
    }

-- a mark is taken off a share, which stays as it is
pub mark_keeps : (seats id : ℕ) (v : SeatShare) → Splits (DrawsOnce seats) id v (share v.seats v.drawn) (share 0 [])
mark_keeps seats id v s was at =
    let left : SeatShare = share v.seats v.drawn in
    let right : SeatShare = share 0 [] in
    let cut : List SeatShare = set s.views id left in
    let seats_left = sum_by-set_share (λ u. u.seats) s.views id v left at in
    let seats_right = sum_by_push (λ (u : SeatShare). u.seats) cut right in
    let drawn_left = sum_by-set_share (λ u. length u.drawn) s.views id v left at in
    let drawn_right = sum_by_push (λ (u : SeatShare). length u.drawn) cut right in
    record {
      word = was.word;
      most = was.most;
      all = omega (arith, was.all, seats_left, seats_right);
      count = omega (arith, was.count, drawn_left, drawn_right);
      once = λ x. omega (
        arith,
        was.once x,
        sum_by-set_share (λ u. times x u.drawn) s.views id v left at,
        sum_by_push (λ (u : SeatShare). times x u.drawn) cut right,
      );
      within = within_draws-push cut right (omega arith) (within_draws-set s.views id left (was.within id v at) was.within);
    }

-- a share is joined to another, and becomes empty
pub join_keeps : (seats id : ℕ) (v : SeatShare) (other : ℕ) (w : SeatShare)
    → Joins (DrawsOnce seats) id v other w (share (v.seats + w.seats) (v.drawn ++ w.drawn)) (share 0 [])
join_keeps seats id v other w s was at two there =
    let both : SeatShare = share (v.seats + w.seats) (v.drawn ++ w.drawn) in
    let spent : SeatShare = share 0 [] in
    let cut : List SeatShare = set s.views id both in
    let long : length both.drawn ≡ length v.drawn + length w.drawn = length-append v.drawn w.drawn in
    let before : get_elem? s.views other ≡ some w
    = ⊎_elim (λ (t : (other ≡ id) × (both ≡ w)). absurd (two t.0))
    (λ (t : (other ≢ id) × (get_elem? s.views other ≡ some w)). t.1) (at_set s.views id other both w there) in
    let seats_both = sum_by-set_share (λ u. u.seats) s.views id v both at in
    let seats_spent = sum_by-set_share (λ u. u.seats) cut other w spent there in
    let drawn_both = sum_by-set_share (λ u. length u.drawn) s.views id v both at in
    let drawn_spent = sum_by-set_share (λ u. length u.drawn) cut other w spent there in
    record {
      word = was.word;
      most = was.most;
      all = omega (arith, was.all, seats_both, seats_spent);
      count = omega (arith, was.count, long, drawn_both, drawn_spent);
      once = λ x. omega (
        arith,
        was.once x,
        sum_by-append (λ y. cond (y == x) 1 0) v.drawn w.drawn,
        sum_by-set_share (λ u. times x u.drawn) s.views id v both at,
        sum_by-set_share (λ u. times x u.drawn) cut other w spent there,
      );
      within =
          within_draws-set cut other spent (omega arith)
          (within_draws-set s.views id both (omega (arith, long, was.within id v at, was.within other w before)) was.within);
    }

-- at the end a share that represents every seat has drawn the numbers below the word
pub closing : (seats id : ℕ) (v : SeatShare) (ws : List ℕ) (xs : List (Unit {0})) → v.seats ≡ seats
    → Final (Seen (DrawsOnce seats) id v) ws xs → (n : ℕ) → get_elem? ws 0 ≡ some n → (x : ℕ)
    → times x v.drawn ≡ one_below x n
closing seats id v ws xs all end n at x =
    let was = end.1.0 in
    sym (share_of_all x end.0.views id v was.within end.1.1 (was.all ∙ sym all)) ∙ was.once x
    ∙ ap (one_below x) (ap (λ (l : List ℕ). slice_index l 0) end.2 ∙ first_word ws n at)
