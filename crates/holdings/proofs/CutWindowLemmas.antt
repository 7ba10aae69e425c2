-- A window that is cut out piece by piece.
use Rattle.std.proofs.Common.{◌≡◌, ℕ, ◌+◌, ◌-◌, ◌/◌, ◌<◌, ◌≤◌, min, List, [], ◌∷◌, ◌++◌}
use Rattle.std.proofs.Common.{None, Bool, true, false, inl, inr, refl, sym, ap, ◌∙◌, arith, ◌⊎◌}
use Rattle.std.proofs.lemmas.Bool.{or_cases, or_left, or_right, false≢true}
use Rattle.std.specs.List.{count_by, range_with_len}
use Rattle.std.specs.Prelude.{◌||◌, ◌^◌, if◌then◌else◌}
use Rattle.std.proofs.Math.Bool.{or_assoc}
use Rattle.sections.specs.Covers.{is_in}
use Rattle.sections.specs.Place.{Place, Window}
use Rattle.sections.proofs.Covering.{in_window}
use Rattle.blocks.specs.Held.{Held, Map, only}
use Rattle.holdings.specs.Carvings.{IsCut, IsMovable, IsWhole, StandClear, copied_places, cut_places, moved_places, moves, piece_of}
use Rattle.holdings.specs.Copied.{LiesWithin, as_count, copied_from, split_places, splits}
use Rattle.holdings.specs.Pieces.{behind_piece, piece, taking}
use Rattle.holdings.specs.Rows.{held_in_list}
use Rattle.holdings.specs.declared.carving.Carving.{Carving}
use Rattle.holdings.specs.declared.row.BlockRow.{BlockRow}
use Rattle.holdings.proofs.CarvingLemmas.{at_most}
use Rattle.holdings.proofs.CountLemmas.{IsRest, costs-more, rest-behind, rest-whole, split_from}
use Rattle.holdings.proofs.CountedLemmas.{copied_rest, counts-more}
use Rattle.holdings.proofs.CutListLemmas.{copies-more, cut-more, cut-push}
use Rattle.holdings.proofs.PieceLemmas.{is_in-cut, is_in-empty}

-- what was cut out before a window, and so far of it: n places were copied, and the rest of the window is left
pub record CutSoFar (first : Map Held) (w : Window) (cs0 : List Carving) (n0 : ℕ) (own others : List BlockRow) (cs : List Carving) (n : ℕ)
    (rest : Window) : Type 0 where
  pub same : held_in_list own ≡ first
  pub cut : IsCut own others cs
  pub taken : held_in_list others ≡ only (copied_places cs) first
  pub places : (q : Place) → (cut_places cs q || is_in rest q) ≡ (cut_places cs0 q || is_in w q)
  pub clear : (q : Place) → cut_places cs q ≡ true → is_in rest q ≡ false
  pub copied : (lengths : ℕ → ℕ) → LiesWithin lengths first → n + split_from lengths w rest ≤ n0 + split_places lengths w
  pub counted : as_count (n + copied_rest first w rest) ≡ as_count (n0 + copied_from first w)
  pub left : IsRest w rest

pub cut-begun : (first : Map Held) (w : Window) (cs : List Carving) (n : ℕ) (own others : List BlockRow) → held_in_list own ≡ first
    → IsCut own others cs → held_in_list others ≡ only (copied_places cs) first
    → ((q : Place) → cut_places cs q ≡ true → is_in w q ≡ false) → CutSoFar first w cs n own others cs n w
cut-begun first w cs n own others same cut taken clear = record {
  same = same;
  cut = cut;
  taken = taken;
  places = λ q. refl;
  clear = clear;
  copied = λ lengths within. omega arith;
  counted = refl;
  left = rest-whole w;
}

not_first : (a b c : Bool) → c ≡ (a || b) → c ≡ false → (a ≡ false) × (b ≡ false)
not_first true b c e f = absurd (false≢true (sym f ∙ e))
not_first false b c e f = (refl, sym e ∙ f)

piece_apart : (w : Window) (q : Place) → is_in (piece w) q ≡ true → is_in (behind_piece w) q ≡ false
piece_apart w q here = by_test (is_in (behind_piece w) q) refl
  where
    by_test : (t : Bool) → is_in (behind_piece w) q ≡ t → is_in (behind_piece w) q ≡ false
    by_test false e = e
    by_test true e =
        let a = in_window (piece w) q here in
        let b = in_window (behind_piece w) q e in
        absurd (omega (arith, a.high, b.low))

-- one piece more, cut out as c
pub record CutPiece (first : Map Held) (own others own' others' : List BlockRow) (c : Carving) (v : Window) : Type 0 where
  pub window : piece_of c ≡ v
  pub same : held_in_list own' ≡ held_in_list own
  pub movable : IsMovable own' others' c
  pub keeps : (d : Carving) → StandClear (piece_of d) (piece_of c) → IsMovable own others d → IsMovable own' others' d
  pub taken : held_in_list others' ≡ (if moves c then held_in_list others else taking (is_in (piece_of c)) first (held_in_list others))
  pub moved : IsWhole first v → c.cut.copied ≡ 0
  pub counted : (IsWhole first v → ⊥) → c.cut.copied ≡ v.length

pub cut-on : (first : Map Held) (w : Window) (cs0 : List Carving) (n0 : ℕ) (own others own' others' : List BlockRow) (cs : List Carving) (n m : ℕ)
    (rest : Window) (c : Carving) → CutSoFar first w cs0 n0 own others cs n rest → 0 < rest.length
    → CutPiece first own others own' others' c (piece rest) → m ≡ min (n + c.cut.copied) (2 ^ 64 - 1)
    → CutSoFar first w cs0 n0 own' others' (cs ++ c ∷ []) m (behind_piece rest)
cut-on first w cs0 n0 own others own' others' cs n m rest c p some one is = record {
  same = one.same ∙ p.same;
  cut = cut-more own others own' others' cs c p.cut one.keeps one.movable (λ q e. here q ∙ (not_first _ _ _ (is_in-cut rest q) (p.clear q e)).0);
  taken = copies-more cs c first (held_in_list others) (held_in_list others') p.taken one.taken;
  places = λ q.
      ap (λ b. b || is_in (behind_piece rest) q) (cut-push cs c q ∙ ap (λ b. cut_places cs q || b) (here q))
      ∙ or_assoc (cut_places cs q) (is_in (piece rest) q) (is_in (behind_piece rest) q)
      ∙ ap (λ b. cut_places cs q || b) (sym (is_in-cut rest q)) ∙ p.places q;
  clear = λ q e. clear q (or_cases (cut_places cs q) (is_in (piece_of c) q) (sym (cut-push cs c q) ∙ e));
  copied = λ lengths within.
      omega (
        arith,
        p.copied lengths within,
        is,
        costs-more first lengths w rest c.cut.copied p.left some within
            (at_most (IsWhole first (piece rest)) c.cut.copied (piece rest).length one.moved one.counted) one.moved,
      );
  counted = counts-more first w rest n c.cut.copied (n0 + copied_from first w) m p.left some p.counted one.moved one.counted is;
  left = rest-behind p.left;
}
  where
    here : (q : Place) → is_in (piece_of c) q ≡ is_in (piece rest) q
    here q = ap (λ v. is_in v q) one.window

    clear : (q : Place) → (cut_places cs q ≡ true) ⊎ (is_in (piece_of c) q ≡ true) → is_in (behind_piece rest) q ≡ false
    clear q (inl e) = (not_first _ _ _ (is_in-cut rest q) (p.clear q e)).1
    clear q (inr e) = piece_apart rest q (sym (here q) ∙ e)

or_false : (a b : Bool) → b ≡ false → (a || b) ≡ a
or_false true b e = refl
or_false false b e = e

pub cut-places_all : (first : Map Held) (w : Window) (cs0 : List Carving) (n0 : ℕ) (own others : List BlockRow) (cs : List Carving) (n : ℕ)
    (rest : Window) → CutSoFar first w cs0 n0 own others cs n rest → rest.length ≡ 0 → (q : Place)
    → cut_places cs q ≡ (cut_places cs0 q || is_in w q)
cut-places_all first w cs0 n0 own others cs n rest p none q =
    sym (or_false (cut_places cs q) (is_in rest q) (is_in-empty rest q none)) ∙ p.places q

pub cut-costs : (first : Map Held) (w : Window) (cs0 : List Carving) (n0 : ℕ) (own others : List BlockRow) (cs : List Carving) (n : ℕ)
    (rest : Window) → CutSoFar first w cs0 n0 own others cs n rest → (lengths : ℕ → ℕ) → LiesWithin lengths first
    → n ≤ n0 + split_places lengths w
cut-costs first w cs0 n0 own others cs n rest p lengths within = omega (arith, p.copied lengths within)

pub cut-counted : (first : Map Held) (w : Window) (cs0 : List Carving) (n0 : ℕ) (own others : List BlockRow) (cs : List Carving) (n : ℕ)
    (rest : Window) → CutSoFar first w cs0 n0 own others cs n rest → rest.length ≡ 0
    → as_count n ≡ as_count (n0 + copied_from first w)
cut-counted first w cs0 n0 own others cs n rest p none =
    let e : copied_rest first w rest ≡ 0 =
    ap (λ k. count_by (λ i. splits first (is_in w) w.array (i / 256)) (range_with_len rest.at k)) none in
    let z : n + 0 ≡ n = omega arith in
    sym (ap (λ k. as_count (n + k)) e ∙ ap as_count z) ∙ p.counted

-- ---- what a piece that is left may be cut out for

pub within_copies : (set : Place → Bool) (first own others : Map Held) → own ≡ first → others ≡ only set first → (q : Place)
    → (others q ≡ None → ⊥) → own q ≡ None → ⊥
within_copies set first own others same taken q some none =
    some (ap (λ (m : Map Held). m q) taken ∙ by_set (set q) (sym (ap (λ (m : Map Held). m q) same) ∙ none))
  where
    by_set : (b : Bool) → first q ≡ None → (if b then first q else None) ≡ None
    by_set true e = e
    by_set false e = refl

pub clear_of_copies : (cs : List Carving) (first others : Map Held) (rest : Window) → others ≡ only (copied_places cs) first
    → ((q : Place) → cut_places cs q ≡ true → is_in rest q ≡ false) → (q : Place) → is_in (piece rest) q ≡ true → others q ≡ None
clear_of_copies cs first others rest taken clear q here =
    ap (λ (m : Map Held). m q) taken ∙ by_copied (copied_places cs q) refl
  where
    inside : is_in rest q ≡ true
    inside = is_in-cut rest q ∙ or_left (is_in (piece rest) q) (is_in (behind_piece rest) q) here

    by_copied : (b : Bool) → copied_places cs q ≡ b → (if b then first q else None) ≡ None
    by_copied false e = refl
    by_copied true e = absurd (false≢true (sym (clear q (or_right (moved_places cs q) (copied_places cs q) e)) ∙ inside))
