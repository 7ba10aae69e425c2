-- What was cut out moves, the last first.
use Rattle.std.proofs.Common.{◌≡◌, ℕ, suc, ◌<◌, List, [], ◌∷◌, ◌++◌, length, get_or}
use Rattle.std.proofs.Common.{None, true, false, inl, inr, refl, ap, ◌∙◌, arith, subst}
use Rattle.std.proofs.lemmas.Bool.{and_parts, or_cases, or_left, or_right, false≢true}
use Rattle.std.specs.Prelude.{◌&&◌, not, if◌then◌else◌}
use Rattle.sections.specs.Covers.{is_in}
use Rattle.sections.specs.Place.{Place, Window}
use Rattle.blocks.specs.Held.{Held, Map, without}
use Rattle.holdings.specs.Carvings.{IsCut, IsMovable, StandClear, copied_places, cut_places, moved_places, moves, piece_of}
use Rattle.holdings.specs.Pieces.{taking}
use Rattle.holdings.specs.Rows.{held_in_list}
use Rattle.holdings.specs.declared.carving.Carving.{Carving}
use Rattle.holdings.specs.declared.row.BlockRow.{BlockRow}
use Rattle.holdings.proofs.CutListLemmas.{before_last, cut-less, cut-push, last_item, left-more, taken-more}

-- what has already moved out of all that was cut out
pub record CarveSoFar (first into : Map Held) (all : List Carving) (own others : List BlockRow) (cs : List Carving) : Type 0 where
  pub cut : IsCut own others cs
  pub left : without (cut_places cs) (held_in_list own) ≡ without (cut_places all) first
  pub taken : taking (moved_places cs) first (held_in_list others) ≡ taking (moved_places all) first into
  pub same : (q : Place) → cut_places cs q ≡ true → held_in_list own q ≡ first q

-- a window that is clear of each of them
first_clear : (d : Carving) (cs : List Carving) (w : Window) (q : Place) → cut_places (d ∷ cs) q ≡ true
    → (is_in (piece_of d) q ≡ true → is_in w q ≡ false) → (cut_places cs q ≡ true → is_in w q ≡ false) → is_in w q ≡ false
first_clear d cs w q here first rest =
    elim (or_cases (moved_places (d ∷ cs) q) (copied_places (d ∷ cs) q) here) [
      | inl e ↦ elim (or_cases (moves d && is_in (piece_of d) q) (moved_places cs q) e) [
        | inl f ↦ first (and_parts (moves d) (is_in (piece_of d) q) f).1
        | inr f ↦ rest (or_left (moved_places cs q) (copied_places cs q) f)
      ]
      | inr e ↦ elim (or_cases (not (moves d) && is_in (piece_of d) q) (copied_places cs q) e) [
        | inl f ↦ first (and_parts (not (moves d)) (is_in (piece_of d) q) f).1
        | inr f ↦ rest (or_right (moved_places cs q) (copied_places cs q) f)
      ]
    ]

cut-clear : (cs : List Carving) (w : Window) → ((i : ℕ) (d : Carving) → i < length cs → d ≡ get_or cs i d → StandClear (piece_of d) w)
    → (q : Place) → cut_places cs q ≡ true → is_in w q ≡ false
cut-clear [] w clear q here = absurd (false≢true here)
cut-clear (d ∷ cs) w clear q here =
    first_clear d cs w q here (λ e. clear 0 d (omega arith) refl q e)
    (λ e. cut-clear cs w (λ i x lt is. clear (suc i) x (omega (arith, lt)) is) q e)

pub carve-on : (first into : Map Held) (all : List Carving) (own others own' others' : List BlockRow) (cs : List Carving) (c : Carving)
    → CarveSoFar first into all own others (cs ++ c ∷ []) → held_in_list own' ≡ without (is_in (piece_of c)) (held_in_list own)
    → held_in_list others' ≡ (if moves c then taking (is_in (piece_of c)) (held_in_list own) (held_in_list others) else held_in_list others)
    → ((d : Carving) → StandClear (piece_of d) (piece_of c) → IsMovable own others d → IsMovable own' others' d)
    → CarveSoFar first into all own' others' cs
carve-on first into all own others own' others' cs c p left taken keeps = record {
  cut = cut-less own others own' others' cs c p.cut keeps;
  left = left-more cs c (held_in_list own) (held_in_list own') left ∙ p.left;
  taken = taken-more cs c first (held_in_list own) (held_in_list others) (held_in_list others') was taken ∙ p.taken;
  same = λ q e.
      ap (λ (m : Map Held). m q) left
      ∙ ap (λ b. if b then None else held_in_list own q) (clear q e)
      ∙ p.same q (cut-push cs c q ∙ or_left (cut_places cs q) (is_in (piece_of c) q) e);
}
  where
    was : (q : Place) → is_in (piece_of c) q ≡ true → held_in_list own q ≡ first q
    was q here = p.same q (cut-push cs c q ∙ or_right (cut_places cs q) (is_in (piece_of c) q) here)

    clear : (q : Place) → cut_places cs q ≡ true → is_in (piece_of c) q ≡ false
    clear = cut-clear cs (piece_of c) (λ i d lt is.
        let b = before_last cs c d i lt is in
        let l = last_item cs c in
        p.cut.clear i (length cs) d c lt l.0 b.1 l.1)

empty_list : (cs : List Carving) → length cs ≡ 0 → cs ≡ []
empty_list [] e = refl
empty_list (c ∷ cs) e = absurd (omega (arith, e))

-- nothing is left to be moved
pub carve-left : (first into : Map Held) (all : List Carving) (own others : List BlockRow) (cs : List Carving)
    → CarveSoFar first into all own others cs → length cs ≡ 0 → held_in_list own ≡ without (cut_places all) first
carve-left first into all own others cs p none = (subst (CarveSoFar first into all own others) (empty_list cs none) p).left

pub carve-taken : (first into : Map Held) (all : List Carving) (own others : List BlockRow) (cs : List Carving)
    → CarveSoFar first into all own others cs → length cs ≡ 0 → held_in_list others ≡ taking (moved_places all) first into
carve-taken first into all own others cs p none = (subst (CarveSoFar first into all own others) (empty_list cs none) p).taken
