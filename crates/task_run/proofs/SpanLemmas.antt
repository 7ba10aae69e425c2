-- Where a task has the elements of windows.
use Rattle.std.proofs.Common.{◌≡◌, ℕ, ◌+◌, ◌*◌, ◌<◌, List, [], ◌∷◌, ◌++◌, length, Some, None, Bool, true, false, refl, sym, ap, ap₂, ◌∙◌, arith, subst, inl, inr}
use Rattle.std.proofs.lemmas.Bool.{eqb-true, lt-ltb}
use Rattle.std.proofs.Common.{w64, to_z, of_z, FitsSigned}
use Rattle.std.proofs.lemmas.Int.{to_z-of_z}
use Rattle.std.proofs.lemmas.Option.{same_Some, slice_get-get_or}
use Rattle.std.specs.Prelude.{ℤ, int_lt, nat_abs, nat_eq, negsuc, pos, slice_get, slice_index_or, if◌then◌else◌}
use Rattle.sections.specs.Place.{Window, place_in}
use Rattle.sections.specs.Translation.{window}
use Rattle.sections.specs.declared.window.Window.{Window as rWindow}
use Rattle.holdings.specs.Reach.{LieAsBefore, ReachesTo, begins_at, place_at}
use Rattle.holdings.specs.declared.holdings.Holdings.{Holdings}
use Rattle.holdings.proofs.WritingLemmas.{slice_get-push}
use Rattle.serial_run.specs.Runs.{windowed}
use Rattle.serial_run.specs.declared.spot.Span.{Span}
use Rattle.serial_run.proofs.Stepping.{windowed_at}
use Rattle.task_run.specs.Spans.{AreWhere, IsWhere}

-- ---- the spans of more windows

-- the spans so far say where the elements of their windows are
abbrev pub SayWhere : Holdings → List rWindow → List Span → Type 0
SayWhere h ws ss = (section : ℕ) (s : Span) → slice_get ss section ≡ Some s → IsWhere h (windowed ws section) s

pub says-more : (h : Holdings) (ws : List rWindow) (ss : List Span) (w : rWindow) (s : Span) → length ss < length ws
    → w ≡ slice_index_or ws (length ss) w → IsWhere h (window w) s → SayWhere h ws ss → SayWhere h ws (ss ++ s ∷ [])
says-more h ws ss w s lt item here before i t is = by_eq (nat_eq i (length ss)) refl (sym (slice_get-push ss s i) ∙ is)
  where
    by_eq : (b : Bool) → nat_eq i (length ss) ≡ b → (if b then Some s else slice_get ss i) ≡ Some t → IsWhere h (windowed ws i) t
    by_eq true e same =
        let at : windowed ws i ≡ window w = ap (windowed ws) (eqb-true _ _ e) ∙ windowed_at ws (length ss) w lt item in
        subst (λ v. IsWhere h v t) (sym at) (subst (IsWhere h (window w)) (same_Some _ _ same) here)
    by_eq false e same = before i t same

-- ---- an element whose place is known

pub in_span : (h : Holdings) (w : Window) (s : Span) (i : ℕ) → IsWhere h w s → i < s.len → ReachesTo h.rows.list.items s.row (s.at + i)
in_span h w s i (inl none) lt = absurd (omega (arith, none.0, lt))
in_span h w s i (inr f) lt = record {
  row = f.lies.row;
  there = ap (slice_get h.rows.list.items) f.row ∙ f.lies.there;
  reaches = omega (arith, f.lies.reaches, f.all, lt);
}

pub span_element : (h : Holdings) (w : Window) (s : Span) (i : ℕ) → IsWhere h w s → i < s.len
    → place_in w (pos i) ≡ Some (place_at h.rows.list.items s.row (s.at + i))
span_element h w s i (inl none) lt = absurd (omega (arith, none.0, lt))
span_element h w s i (inr f) lt =
    let rs = h.rows.list.items in
    let inside : i < w.length = omega (arith, f.all, lt) in
    let begins : begins_at (slice_get rs s.row) ≡ 256 * f.lies.row.first = ap begins_at (ap (slice_get rs) f.row ∙ f.lies.there) in
    let index : w.at + i ≡ begins_at (slice_get rs s.row) + (s.at + i) = omega (arith, begins, f.lies.begins) in
    ap (λ b. if b then Some (record { array = w.array; index = w.at + i }) else None) (lt-ltb i w.length inside)
    ∙ ap₂ (λ a j. Some (record { array = a; index = j })) (sym f.row) index

-- the distance of an element is a number of the machine
pub span_fits : (h : Holdings) (w : Window) (s : Span) (i : ℕ) → IsWhere h w s → i < s.len → s.at + i < 4194304
span_fits h w s i (inl none) lt = absurd (omega (arith, none.0, lt))
span_fits h w s i (inr f) lt = omega (arith, f.lies.reaches, f.all, f.lies.row.within, lt)

-- the span of a section, as it was read
pub span_at : (h : Holdings) (ws : List rWindow) (ss : List Span) (section : ℕ) (d : Span) → AreWhere h ws ss → section < length ws
    → IsWhere h (windowed ws section) (slice_index_or ss section d)
span_at h ws ss section d are lt =
    are.each section (slice_index_or ss section d) (slice_get-get_or ss section d (omega (arith, are.as_many, lt)))

-- an index that isn't negative
pub as_index : (z : ℤ) → int_lt z (pos 0) ≡ false → pos (nat_abs z) ≡ z
as_index (pos n) e = refl
as_index (negsuc n) e = absurd (cc)

-- the place of an element, by its index
pub placed : (h : Holdings) (w : Window) (s : Span) (z : ℤ) → FitsSigned w64 z → int_lt (to_z w64 (of_z w64 z)) (pos 0) ≡ false
    → IsWhere h w s → nat_abs (to_z w64 (of_z w64 z)) < s.len
    → place_in w z ≡ Some (place_at h.rows.list.items s.row (s.at + nat_abs (to_z w64 (of_z w64 z))))
placed h w s z fits low is lt =
    ap (place_in w) (sym (to_z-of_z w64 z fits) ∙ sym (as_index (to_z w64 (of_z w64 z)) low))
    ∙ span_element h w s (nat_abs (to_z w64 (of_z w64 z))) is lt

-- ---- rows that begin and end where they did

pub where-kept : (old new : Holdings) → LieAsBefore old.rows.list.items new.rows.list.items
    → (ws : List rWindow) (ss : List Span) → AreWhere old ws ss → AreWhere new ws ss
where-kept old new lie ws ss are = record { as_many = are.as_many; each = λ i s is. kept (windowed ws i) s (are.each i s is) }
  where
    kept : (w : Window) (s : Span) → IsWhere old w s → IsWhere new w s
    kept w s (inl none) = inl (none.0, λ at l. none.1 at ((lie w at).1 l))
    kept w s (inr f) = inr (record { row = f.row; all = f.all; lies = (lie w s.at).0 f.lies })
