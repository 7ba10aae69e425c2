-- Stretches in one row are apart.
use Rattle.std.proofs.Common.{◌≡◌, ℕ, zero, suc, ◌+◌, ◌<◌, ◌≤◌, List, [], ◌∷◌, ◌++◌, length, get_or, set, drop, append_assoc, Bool, true, false, ap, sym, ◌∙◌, refl, subst, arith, ⊎_elim}
use Rattle.std.specs.Prelude.{Any, if◌then◌else◌, nat_lt, nat_le}
use Rattle.std.proofs.lemmas.Bool.{cases_eq, cond_above, cond_below}
use Rattle.std.proofs.lemmas.Bool.Decides.{nat_tests}
use Rattle.std.proofs.lemmas.List.{append-nil, drop_all, drop_more, get_or-set_other, get_or-set_same, get_or_append_left, get_or_at, get_or_push, length-append, length-set, length_push}
use Rattle.std.proofs.lemmas.List.Sums.{prefix_len_stops, prefix_len-le-length}
use Rattle.trace_layout.specs.Rows.{AreApart, ends_after, first_free, rows_from, rows_of}
use Rattle.trace_layout.specs.declared.stretch.Stretch.{Stretch}

-- an existing row that is free ends before the position
free_ends : (ends : List ℕ) (first : ℕ) → first_free ends first < length ends → get_or ends (first_free ends first) 0 < first
free_ends ends first there =
    let stops = prefix_len_stops (λ e. nat_le first e) ends 0 there in
    grind (arith, nat_tests)

-- ---- the ends, once something ends in the first free row
in_row : (b : Bool) (ends : List ℕ) (row last : ℕ) → nat_lt row (length ends) ≡ b → row ≤ length ends
    → get_or (if b then set ends row last else ends ++ last ∷ []) row 0 ≡ last
in_row true ends row last is le =
    let there : row < length ends = grind (arith, nat_tests) in get_or-set_same ends row last 0 there
in_row false ends row last is le =
    let same : length ends ≡ row = grind (arith, nat_tests) in get_or_push ends last 0 row same

other_row : (b : Bool) (ends : List ℕ) (row last r : ℕ) → (r ≡ row → ⊥) → r < length ends
    → get_or (if b then set ends row last else ends ++ last ∷ []) r 0 ≡ get_or ends r 0
other_row true ends row last r other there = get_or-set_other ends row r last 0 other
other_row false ends row last r other there = get_or_append_left ends (last ∷ []) 0 r there

as_many : (b : Bool) (ends : List ℕ) (row last : ℕ) → length ends ≤ length (if b then set ends row last else ends ++ last ∷ [])
as_many true ends row last = omega (arith, length-set ends row last)
as_many false ends row last = omega (arith, length_push ends last)

is_there : (b : Bool) (ends : List ℕ) (row last : ℕ) → nat_lt row (length ends) ≡ b → row ≤ length ends
    → row < length (if b then set ends row last else ends ++ last ∷ [])
is_there true ends row last is le =
    let there : row < length ends = grind (arith, nat_tests) in omega (arith, length-set ends row last)
is_there false ends row last is le = omega (arith, length_push ends last)

-- what is put into an existing row starts after its end
behind : (ends : List ℕ) (ss : List Stretch) (k : ℕ) (d : Stretch) (r : ℕ) → k < length ss → r < length ends
    → get_or (rows_from ends ss) k 0 ≡ r → get_or ends r 0 < (get_or ss k d).first
behind ends [] k d r within there is = absurd (omega arith)
behind ends (s ∷ ss) zero d r within there is =
    subst (λ (n : ℕ). get_or ends n 0 < s.first) is (free_ends ends s.first (subst (λ (n : ℕ). n < length ends) (sym is) there))
behind ends (s ∷ ss) (suc k) d r within there is =
    let row = first_free ends s.first in
    let b = nat_lt row (length ends) in
    let most : row ≤ length ends = prefix_len-le-length (λ e. nat_le s.first e) ends in
    let next = behind (ends_after ends row s.last) ss k d r (omega arith)
    (omega (arith, as_many b ends row s.last)) is in
    ⊎_elim
    (λ same.
    let at_row : get_or ends row 0 < s.first =
    free_ends ends s.first (subst (λ (n : ℕ). n < length ends) same there) in
    let new : get_or (ends_after ends row s.last) r 0 ≡ s.last =
    ap (λ (n : ℕ). get_or (ends_after ends row s.last) n 0) same ∙ in_row b ends row s.last refl most in
    let old : get_or ends r 0 ≡ get_or ends row 0 = ap (λ (n : ℕ). get_or ends n 0) same in
    omega (arith, s.in_order))
    (λ other. subst (λ (n : ℕ). n < (get_or ss k d).first) (other_row b ends row s.last r other there) next)
    (cases_eq r row)

apart_from : (ends : List ℕ) (ss : List Stretch) → AreApart ss (rows_from ends ss)
apart_from ends [] j k d before within same = absurd (omega arith)
apart_from ends (s ∷ ss) j zero d before within same = absurd (omega arith)
apart_from ends (s ∷ ss) zero (suc k) d before within same =
    let row = first_free ends s.first in
    let b = nat_lt row (length ends) in
    let most : row ≤ length ends = prefix_len-le-length (λ e. nat_le s.first e) ends in
    let next = behind (ends_after ends row s.last) ss k d row (omega arith) (is_there b ends row s.last refl most) (sym same) in
    subst (λ (n : ℕ). n < (get_or ss k d).first) (in_row b ends row s.last refl most) next
apart_from ends (s ∷ ss) (suc j) (suc k) d before within same =
    apart_from (ends_after ends (first_free ends s.first) s.last) ss j k d (omega arith) (omega arith) same

pub rows_are_apart : (ss : List Stretch) (rows : List ℕ) → rows ≡ rows_of ss → AreApart ss rows
rows_are_apart ss rows is = subst (AreApart ss) (sym is) (apart_from [] ss)

-- ---- a loop over stretches
-- those so far, and those to come
abbrev pub ArePlaced : List Stretch → (i : ℕ) → (ends rows : List ℕ) → Type 0
ArePlaced ss i ends rows = rows ++ rows_from ends (drop i ss) ≡ rows_of ss

next_row : (ss : List Stretch) (i : ℕ) (s d : Stretch) (ends : List ℕ) → i < length ss → s ≡ get_or ss i d
    → rows_from ends (drop i ss) ≡ first_free ends s.first ∷ rows_from (ends_after ends (first_free ends s.first) s.last) (drop (i + 1) ss)
next_row ss i s d ends there is =
    ap (rows_from ends) (drop_more ss i d there ∙ ap (λ (x : Stretch). x ∷ drop (i + 1) ss) (sym is))

pub placed_more : (ss : List Stretch) (i : ℕ) (s d : Stretch) (ends new rows : List ℕ) (row : ℕ) → i < length ss → s ≡ get_or ss i d
    → row ≡ first_free ends s.first → new ≡ ends_after ends row s.last → ArePlaced ss i ends rows → ArePlaced ss (i + 1) new (rows ++ row ∷ [])
placed_more ss i s d ends new rows row there is free new_is was =
    let rest = drop (i + 1) ss in
    let to_come : rows_from ends (drop i ss) ≡ row ∷ rows_from new rest =
    next_row ss i s d ends there is
    ∙ ap (λ (r : ℕ). r ∷ rows_from (ends_after ends r s.last) rest) (sym free)
    ∙ ap (λ (es : List ℕ). row ∷ rows_from es rest) (sym new_is) in
    append_assoc rows (row ∷ []) (rows_from new rest) ∙ ap (λ (l : List ℕ). rows ++ l) (sym to_come) ∙ was

pub placed_all : (ss : List Stretch) (i : ℕ) (ends rows : List ℕ) → length ss ≤ i → ArePlaced ss i ends rows → rows ≡ rows_of ss
placed_all ss i ends rows past was =
    sym (append-nil rows) ∙ ap (λ (l : List Stretch). rows ++ rows_from ends l) (sym (drop_all i ss past)) ∙ was

-- a row too many is among the rows
pub too_many : (ss : List Stretch) (i : ℕ) (s d : Stretch) (ends rows : List ℕ) (row most : ℕ) → i < length ss → s ≡ get_or ss i d
    → row ≡ first_free ends s.first → most ≤ row → ArePlaced ss i ends rows → Any (λ r. most ≤ r) (rows_of ss)
too_many ss i s d ends rows row most there is free many was =
    let rest = rows_from (ends_after ends (first_free ends s.first) s.last) (drop (i + 1) ss) in
    let whole : rows ++ (first_free ends s.first ∷ rest) ≡ rows_of ss = ap (λ (l : List ℕ). rows ++ l) (sym (next_row ss i s d ends there is)) ∙ was in
    subst (Any (λ r. most ≤ r)) whole (
      length rows,
      row,
      omega (arith, length-append rows (first_free ends s.first ∷ rest)),
      get_or_at rows (first_free ends s.first) rest row (length rows) refl ∙ sym free,
      many,
    )

pub ends_there : (ends : List ℕ) (row last : ℕ) → row < length ends → set ends row last ≡ ends_after ends row last
ends_there ends row last there = cond_below row (length ends) (set ends row last) (ends ++ last ∷ []) there

pub ends_new : (ends : List ℕ) (row last : ℕ) → length ends ≤ row → ends ++ last ∷ [] ≡ ends_after ends row last
ends_new ends row last past = cond_above row (length ends) (set ends row last) (ends ++ last ∷ []) (ends ++ last ∷ []) past refl
