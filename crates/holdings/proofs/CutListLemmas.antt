-- Lists of what was cut out. They grow and shrink at the end.
use Rattle.std.proofs.Common.{◌≡◌, ℕ, zero, suc, ◌<◌, List, [], ◌∷◌, ◌++◌, length, get_or}
use Rattle.std.proofs.Common.{Option, None, Bool, true, false, inl, inr, refl, sym, ap, ◌∙◌, arith, subst, ◌⊎◌}
use Rattle.std.proofs.Math.Bool.{or_assoc, or-false}
use Rattle.std.proofs.Math.Seq.{get_or-append_seam}
use Rattle.std.proofs.lemmas.Bool.{cases_eq, or_cases, or_left, or_right}
use Rattle.std.proofs.lemmas.List.{get_or_append_left, length-append}
use Rattle.std.specs.Prelude.{◌&&◌, ◌||◌, not, if◌then◌else◌}
use Rattle.sections.specs.Covers.{is_in}
use Rattle.sections.specs.Place.{Place}
use Rattle.blocks.specs.Held.{Held, Map, only, without}
use Rattle.holdings.specs.Carvings.{IsCut, IsMovable, StandClear, copied_places, cut_places, moved_places, moves, piece_of}
use Rattle.holdings.specs.Pieces.{taking}
use Rattle.holdings.specs.declared.carving.Carving.{Carving}
use Rattle.holdings.specs.declared.row.BlockRow.{BlockRow}

-- ---- places of one cut more

pub moved-push : (cs : List Carving) (c : Carving) (q : Place)
    → moved_places (cs ++ c ∷ []) q ≡ (moved_places cs q || (moves c && is_in (piece_of c) q))
moved-push [] c q = or-false (moves c && is_in (piece_of c) q)
moved-push (d ∷ cs) c q =
    ap (λ b. (moves d && is_in (piece_of d) q) || b) (moved-push cs c q)
    ∙ sym (or_assoc (moves d && is_in (piece_of d) q) (moved_places cs q) _)

pub copied-push : (cs : List Carving) (c : Carving) (q : Place)
    → copied_places (cs ++ c ∷ []) q ≡ (copied_places cs q || (not (moves c) && is_in (piece_of c) q))
copied-push [] c q = or-false (not (moves c) && is_in (piece_of c) q)
copied-push (d ∷ cs) c q =
    ap (λ b. (not (moves d) && is_in (piece_of d) q) || b) (copied-push cs c q)
    ∙ sym (or_assoc (not (moves d) && is_in (piece_of d) q) (copied_places cs q) _)

both : (a b m i : Bool) → ((a || (m && i)) || (b || (not m && i))) ≡ ((a || b) || i)
both false true true true = refl
both false false true true = refl
both a b m i = refl

pub cut-push : (cs : List Carving) (c : Carving) (q : Place) → cut_places (cs ++ c ∷ []) q ≡ (cut_places cs q || is_in (piece_of c) q)
cut-push cs c q =
    ap (λ b. b || copied_places (cs ++ c ∷ []) q) (moved-push cs c q)
    ∙ ap (λ b. (moved_places cs q || (moves c && is_in (piece_of c) q)) || b) (copied-push cs c q)
    ∙ both (moved_places cs q) (copied_places cs q) (moves c) (is_in (piece_of c) q)

one_part : (m i : Bool) → i ≡ true → ((m && i) ≡ true) ⊎ ((not m && i) ≡ true)
one_part true i e = inl e
one_part false i e = inr e

-- a place of one of them
pub cut-item : (cs : List Carving) (i : ℕ) (c : Carving) (q : Place) → i < length cs → c ≡ get_or cs i c → is_in (piece_of c) q ≡ true
    → cut_places cs q ≡ true
cut-item [] i c q lt is here = absurd (omega (arith, lt))
cut-item (d ∷ cs) zero c q lt is here =
    by_part (one_part (moves d) (is_in (piece_of d) q) (ap (λ (x : Carving). is_in (piece_of x) q) (sym is) ∙ here))
  where
    by_part : ((moves d && is_in (piece_of d) q) ≡ true) ⊎ ((not (moves d) && is_in (piece_of d) q) ≡ true) → cut_places (d ∷ cs) q ≡ true
    by_part (inl e) = or_left (moved_places (d ∷ cs) q) (copied_places (d ∷ cs) q) (or_left _ (moved_places cs q) e)
    by_part (inr e) = or_right (moved_places (d ∷ cs) q) (copied_places (d ∷ cs) q) (or_left _ (copied_places cs q) e)
cut-item (d ∷ cs) (suc i) c q lt is here =
    by_part (or_cases (moved_places cs q) (copied_places cs q) (cut-item cs i c q (omega (arith, lt)) is here))
  where
    by_part : (moved_places cs q ≡ true) ⊎ (copied_places cs q ≡ true) → cut_places (d ∷ cs) q ≡ true
    by_part (inl e) = or_left (moved_places (d ∷ cs) q) (copied_places (d ∷ cs) q) (or_right (moves d && is_in (piece_of d) q) _ e)
    by_part (inr e) = or_right (moved_places (d ∷ cs) q) (copied_places (d ∷ cs) q) (or_right (not (moves d) && is_in (piece_of d) q) _ e)

-- ---- one cut more that can move

-- the item of a list with one more
last_or_before : (cs : List Carving) (c d : Carving) (i : ℕ) → i < length (cs ++ c ∷ []) → d ≡ get_or (cs ++ c ∷ []) i d
    → ((i < length cs) × (d ≡ get_or cs i d)) ⊎ ((i ≡ length cs) × (d ≡ c))
last_or_before cs c d i lt is = by_eq (cases_eq i (length cs))
  where
    by_eq : (i ≡ length cs) ⊎ (i ≡ length cs → ⊥) → ((i < length cs) × (d ≡ get_or cs i d)) ⊎ ((i ≡ length cs) × (d ≡ c))
    by_eq (inl e) = inr (e, is ∙ ap (λ j. get_or (cs ++ c ∷ []) j d) e ∙ get_or-append_seam cs c [] d)
    by_eq (inr ne) =
        let low : i < length cs = omega (arith, lt, ne, length-append cs (c ∷ [])) in
        inl (low, is ∙ get_or_append_left cs (c ∷ []) d i low)

pub before_last : (cs : List Carving) (c d : Carving) (i : ℕ) → i < length cs → d ≡ get_or cs i d
    → (i < length (cs ++ c ∷ [])) × (d ≡ get_or (cs ++ c ∷ []) i d)
before_last cs c d i lt is =
    (omega (arith, lt, length-append cs (c ∷ [])), is ∙ sym (get_or_append_left cs (c ∷ []) d i lt))

pub cut-more : (own others own' others' : List BlockRow) (cs : List Carving) (c : Carving) → IsCut own others cs
    → ((d : Carving) → StandClear (piece_of d) (piece_of c) → IsMovable own others d → IsMovable own' others' d)
    → IsMovable own' others' c → ((q : Place) → cut_places cs q ≡ true → is_in (piece_of c) q ≡ false) → IsCut own' others' (cs ++ c ∷ [])
cut-more own others own' others' cs c cut keeps last apart = record { each = each; clear = clear }
  where
    apart_from : (i : ℕ) (d : Carving) → i < length cs → d ≡ get_or cs i d → StandClear (piece_of d) (piece_of c)
    apart_from i d lt is q here = apart q (cut-item cs i d q lt is here)

    each : (i : ℕ) (d : Carving) → i < length (cs ++ c ∷ []) → d ≡ get_or (cs ++ c ∷ []) i d → IsMovable own' others' d
    each i d lt is = elim (last_or_before cs c d i lt is) [
      | inl w ↦ keeps d (apart_from i d w.0 w.1) (cut.each i d w.0 w.1)
      | inr w ↦ subst (IsMovable own' others') (sym w.1) last
    ]

    clear : (i j : ℕ) (d e : Carving) → i < j → j < length (cs ++ c ∷ []) → d ≡ get_or (cs ++ c ∷ []) i d → e ≡ get_or (cs ++ c ∷ []) j e
        → StandClear (piece_of d) (piece_of e)
    clear i j d e lt end is there = elim (last_or_before cs c e j end there) [
      | inl w ↦ elim (last_or_before cs c d i (omega (arith, lt, end)) is) [
        | inl v ↦ cut.clear i j d e lt w.0 v.1 w.1
        | inr v ↦ absurd (omega (arith, v.0, lt, w.0))
      ]
      | inr w ↦ elim (last_or_before cs c d i (omega (arith, lt, end)) is) [
        | inl v ↦ subst (λ x. StandClear (piece_of d) (piece_of x)) (sym w.1) (apart_from i d v.0 v.1)
        | inr v ↦ absurd (omega (arith, v.0, lt, w.0))
      ]
    ]

-- ---- the last one has moved

pub last_item : (cs : List Carving) (c : Carving) → (length cs < length (cs ++ c ∷ [])) × (c ≡ get_or (cs ++ c ∷ []) (length cs) c)
last_item cs c = (omega (arith, length-append cs (c ∷ [])), sym (get_or-append_seam cs c [] c))

pub cut-less : (own others own' others' : List BlockRow) (cs : List Carving) (c : Carving) → IsCut own others (cs ++ c ∷ [])
    → ((d : Carving) → StandClear (piece_of d) (piece_of c) → IsMovable own others d → IsMovable own' others' d) → IsCut own' others' cs
cut-less own others own' others' cs c cut keeps = record {
  each = λ i d lt is.
      let b = before_last cs c d i lt is in
      let l = last_item cs c in
      keeps d (cut.clear i (length cs) d c lt l.0 b.1 l.1) (cut.each i d b.0 b.1);
  clear = λ i j d e lt end is there.
      let b = before_last cs c d i (omega (arith, lt, end)) is in
      let f = before_last cs c e j end there in
      cut.clear i j d e lt f.0 b.1 f.1;
}

-- ---- what others hold, and what is left

-- the copies so far, and those of one cut more
pub copies-more : (cs : List Carving) (c : Carving) (own others others' : Map Held) → others ≡ only (copied_places cs) own
    → others' ≡ (if moves c then others else taking (is_in (piece_of c)) own others) → others' ≡ only (copied_places (cs ++ c ∷ [])) own
copies-more cs c own others others' so_far now = λ t q.
    (ap (λ (m : Map Held). m q) now ∙ by_moves q (moves c) refl
    ∙ ap (λ b. if b then own q else None) (sym (copied-push cs c q))) t
  where
    by_place : (q : Place) (a i : Bool) → others q ≡ (if a then own q else None) → (if i then own q else others q) ≡ (if a || i then own q else None)
    by_place q true true e = refl
    by_place q true false e = e
    by_place q false true e = refl
    by_place q false false e = e

    kept : (q : Place) (a : Bool) → others q ≡ (if a then own q else None) → others q ≡ (if a || false then own q else None)
    kept q true e = e
    kept q false e = e

    by_moves : (q : Place) (m : Bool) → moves c ≡ m
        → (if m then others else taking (is_in (piece_of c)) own others) q ≡ (if copied_places cs q || (not m && is_in (piece_of c) q) then own q else None)
    by_moves q true e = kept q (copied_places cs q) (ap (λ (m : Map Held). m q) so_far)
    by_moves q false e = by_place q (copied_places cs q) (is_in (piece_of c) q) (ap (λ (m : Map Held). m q) so_far)

without_at : (a b : Bool) (x : Option Held) → (if a then None else (if b then None else x)) ≡ (if a || b then None else x)
without_at true b x = refl
without_at false b x = refl

pub left-more : (cs : List Carving) (c : Carving) (own own' : Map Held) → own' ≡ without (is_in (piece_of c)) own
    → without (cut_places cs) own' ≡ without (cut_places (cs ++ c ∷ [])) own
left-more cs c own own' now = λ t q.
    (ap (λ (m : Map Held). if cut_places cs q then None else m q) now
    ∙ without_at (cut_places cs q) (is_in (piece_of c) q) (own q)
    ∙ ap (λ b. if b then None else own q) (sym (cut-push cs c q))) t

-- what moves comes from the first holder as it was
pub taken-more : (cs : List Carving) (c : Carving) (first own others others' : Map Held)
    → ((q : Place) → is_in (piece_of c) q ≡ true → own q ≡ first q)
    → others' ≡ (if moves c then taking (is_in (piece_of c)) own others else others)
    → taking (moved_places cs) first others' ≡ taking (moved_places (cs ++ c ∷ [])) first others
taken-more cs c first own others others' same now = λ t q.
    (ap (λ (m : Map Held). if moved_places cs q then first q else m q) now ∙ by_moves q (moves c) refl
    ∙ ap (λ b. if b then first q else others q) (sym (moved-push cs c q))) t
  where
    by_place : (q : Place) (a i : Bool) → is_in (piece_of c) q ≡ i
        → (if a then first q else (if i then own q else others q)) ≡ (if a || i then first q else others q)
    by_place q true i e = refl
    by_place q false true e = same q e
    by_place q false false e = refl

    kept : (q : Place) (a : Bool) → (if a then first q else others q) ≡ (if a || false then first q else others q)
    kept q true = refl
    kept q false = refl

    by_moves : (q : Place) (m : Bool) → moves c ≡ m
        → (if moved_places cs q then first q else (if m then taking (is_in (piece_of c)) own others else others) q)
        ≡ (if moved_places cs q || (m && is_in (piece_of c) q) then first q else others q)
    by_moves q true e = by_place q (moved_places cs q) (is_in (piece_of c) q) refl
    by_moves q false e = kept q (moved_places cs q)
