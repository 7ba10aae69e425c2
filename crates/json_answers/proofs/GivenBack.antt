-- The object of arrays, parsed as an input.
use Rattle.std.proofs.Common.{◌≡◌, ◌-◌, ℕ, List, [], ◌∷◌, ◌++◌, length, map, Option, None, Some, Ok, Err}
use Rattle.std.proofs.Common.{Bool, true, false, refl, sym, ap, ◌∙◌, arith, subst, true≢false}
use Rattle.std.proofs.Common.{Less, Equal, Greater, nat_cmp, option_map}
use Rattle.std.proofs.lemmas.Bool.{and_parts, eq-eqb, or_right}
use Rattle.std.proofs.lemmas.Slice.Eq.{bytes_eq-Decides}
use Rattle.std.specs.Prelude.{ℤ, pos, negsuc, ◌^◌, ◌||◌, nat_eq, nat_lt, int_le, int_lt, is_some, option_and_then}
use Rattle.std.specs.Prelude.{if◌then◌else◌, ok_or}
use Rattle.std.specs.Cmp.Lexicographic.{pointwise, slice_cmp}
use Rattle.std.specs.List.{AllByRecursion, list_all, zip}
use Rattle.std.specs.Ordering.{match_ordering}
use Rattle.std.specs.Str.{bytes_eq}
use Rattle.serde_json.specs.Data.{Data, Members, no_members, member, put}
use Rattle.serde_json.specs.Find.{as_i64, get_member, of_integer}
use Rattle.serde_json.specs.View.{items_of}
use Rattle.serde_json.proofs.Views.{get_member-put, get_member-put_other}
use Rattle.syntax_tree.specs.Tree as tree
use Rattle.syntax_tree.specs.declared.tree.ElementType.{ElementType}
use Rattle.types.specs.Code.{Array, Program}
use Rattle.types.specs.Inputs as inputs
use Rattle.types.specs.Inputs.{BadElement, IsInput, IsRow, OtherLength, after_stranger, both, data_says, is_named}
use Rattle.types.specs.Inputs.{items_count, least, member_says, members_say, number_in, numbers_in, read_says, strangers}
use Rattle.types.specs.Inputs.{value_says}
use Rattle.types.specs.NameErrors.{declaring}
use Rattle.types.specs.Resolution.{array, label_behind_all, resolution, with_main}
use Rattle.types.specs.Rules.{BreaksNoRule, array_errors, errors_of, limit, name_errors, procedures_errors}
use Rattle.types.specs.Scope.{ASection, Meant, Scope, empty_scope, meant, with_array}
use Rattle.types.specs.Value.{fits_64_bits, holds_number}
use Rattle.json_answers.specs.Given.{AreGivenBack, AreOf64Bits}
use Rattle.json_answers.specs.Outcomes.{arrays_json, numbers_json, put_arrays}
use Rattle.json_answers.specs.Pieces.{integer}

-- ---- the numbers of an array

integer_read : (z : ℤ) → fits_64_bits z ≡ true → as_i64 (of_integer z) ≡ Some z
integer_read (pos n) fits =
    let below : nat_lt n (2 ^ 63) ≡ true = (and_parts (int_le (negsuc (2 ^ 63 - 1)) (pos n)) (int_lt (pos n) (pos (2 ^ 63))) fits).1 in
    ap (λ b. if b then Some (pos n) else None) below
integer_read (negsuc n) fits = refl

number_read : (t : ElementType) (z : ℤ) → holds_number t z ≡ true → fits_64_bits z ≡ true
    → number_in t (integer z) ≡ Some z
number_read t z held fits =
    ap (option_and_then (λ v. if holds_number t v then Some v else None)) (integer_read z fits)
    ∙ ap (λ b. if b then Some z else None) held

numbers_read : (t : ElementType) (row : List ℤ) → list_all (holds_number t) row ≡ true
    → list_all fits_64_bits row ≡ true → numbers_in t (items_of (map integer row)) ≡ Some row
numbers_read t [] held fits = refl
numbers_read t (z ∷ zs) held fits =
    let h = and_parts (holds_number t z) (list_all (holds_number t) zs) held in
    let f = and_parts (fits_64_bits z) (list_all fits_64_bits zs) fits in
    ap (λ o. option_and_then (λ v. option_map (λ vs. v ∷ vs) (numbers_in t (items_of (map integer zs)))) o)
    (number_read t z h.0 f.0)
    ∙ ap (option_map (λ vs. z ∷ vs)) (numbers_read t zs h.1 f.1)

count : (row : List ℤ) → items_count (items_of (map integer row)) ≡ length row
count [] = refl
count (z ∷ zs) = let e = count zs in omega (arith, e)

row_read : (x : Array) (row : List ℤ) → IsRow x row → list_all fits_64_bits row ≡ true
    → value_says x (numbers_json row) ≡ Ok row
row_read x row r fits =
    let ds = items_of (map integer row) in
    ap (λ b. if b then ok_or (numbers_in x.element ds) (BadElement x.name) else Err (OtherLength x.name))
    (eq-eqb _ _ (count row ∙ r.long))
    ∙ ap (λ o. ok_or o (BadElement x.name)) (numbers_read x.element row r.held fits)

-- ---- the arrays by their names

-- no array has the name
abbrev pub IsNew : (name : List ℕ) → List Array → Type 0
IsNew name xs = AllByRecursion (λ x. name ≡ x.name → ⊥) xs

-- no two arrays have one name
abbrev pub AreApart : List Array → Type 0
AreApart [] = Unit {0}
AreApart (x ∷ xs) = IsNew x.name xs × AreApart xs

skipped : (name : List ℕ) (xs : List Array) (rows : List (List ℤ)) (ms : Members) → IsNew name xs
    → get_member name (put_arrays (zip xs rows) ms) ≡ get_member name ms
skipped name [] rows ms new = refl
skipped name (x ∷ xs) [] ms new = refl
skipped name (x ∷ xs) (row ∷ rows) ms new =
    skipped name xs rows (put x.name (numbers_json row) ms) new.1
    ∙ get_member-put_other name x.name (numbers_json row) ms new.0

members_read : (xs : List Array) (rows : List (List ℤ)) (ms : Members) → AreApart xs → IsInput xs rows
    → AreOf64Bits rows → members_say (λ name. get_member name (put_arrays (zip xs rows) ms)) xs ≡ Ok rows
members_read [] [] ms apart fits held = refl
members_read [] (row ∷ rows) ms apart fits held = elim fits [ ]
members_read (x ∷ xs) [] ms apart fits held = elim fits [ ]
members_read (x ∷ xs) (row ∷ rows) ms apart (inputs.also r fits) held =
    let h = and_parts (list_all fits_64_bits row) (list_all (list_all fits_64_bits) rows) held in
    let more = put x.name (numbers_json row) ms in
    let found : get_member x.name (put_arrays (zip xs rows) more) ≡ Some (numbers_json row) =
    skipped x.name xs rows more apart.0 ∙ get_member-put x.name (numbers_json row) ms in
    let rest = members_read xs rows more apart.1 fits h.1 in
    ap (λ o. both (member_says x o) (members_say (λ name. get_member name (put_arrays (zip xs rows) more)) xs)) found
    ∙ ap (λ o. both o (members_say (λ name. get_member name (put_arrays (zip xs rows) more)) xs)) (row_read x row r h.0)
    ∙ ap (both (Ok row)) rest

-- ---- no unknown name among them

itself : (name : List ℕ) → bytes_eq name name ≡ true
itself name = (bytes_eq-Decides name name).1 refl

named_later : (x : Array) (xs : List Array) (name : List ℕ) → is_named xs name ≡ true → is_named (x ∷ xs) name ≡ true
named_later x xs name later = or_right (bytes_eq x.name name) (is_named xs name) later

all_named_later : (x : Array) (all xs : List Array) → AllByRecursion (λ y. is_named all y.name ≡ true) xs
    → AllByRecursion (λ y. is_named (x ∷ all) y.name ≡ true) xs
all_named_later x all [] named = tt
all_named_later x all (y ∷ ys) named = (named_later x all y.name named.0, all_named_later x all ys named.1)

all_named : (xs : List Array) → AllByRecursion (λ x. is_named xs x.name ≡ true) xs
all_named [] = tt
all_named (x ∷ xs) =
    (ap (λ b. b || is_named xs x.name) (itself x.name), all_named_later x xs xs (all_named xs))

no_stranger_first : (all : List Array) (name : List ℕ) (d : Data) (ms : Members) → is_named all name ≡ true
    → strangers all ms ≡ [] → strangers all (member name d ms) ≡ []
no_stranger_first all name d ms named none =
    ap (λ b. if b then strangers all ms else name ∷ strangers all ms) named ∙ none

cons_none : (x : List ℕ) (xs : List (List ℕ)) → x ∷ xs ≡ [] → ⊥
cons_none x xs e = cc

-- of members without an unknown name, the first has the name of an array, and none after it is unknown
parts : (all : List Array) (name : List ℕ) (d : Data) (ms : Members) → strangers all (member name d ms) ≡ []
    → (is_named all name ≡ true) × (strangers all ms ≡ [])
parts all name d ms = by_name (is_named all name)
  where
    by_name : (b : Bool) → (if b then strangers all ms else name ∷ strangers all ms) ≡ [] → (b ≡ true) × (strangers all ms ≡ [])
    by_name true none = (refl, none)
    by_name false none = absurd (cons_none name (strangers all ms) none)

no_stranger_put : (all : List Array) (name : List ℕ) (d : Data) (ms : Members) → is_named all name ≡ true
    → strangers all ms ≡ [] → strangers all (put name d ms) ≡ []
no_stranger_put all name d no_members named none = no_stranger_first all name d no_members named refl
no_stranger_put all name d (member l e ms) named none =
    let p = parts all l e ms none in
    let later = no_stranger_first all l e (put name d ms) p.0 (no_stranger_put all name d ms named p.1) in
    elim (slice_cmp nat_cmp name l) as (λ o. strangers all
    (match_ordering o (member name d (member l e ms)) (member l d ms) (member l e (put name d ms))) ≡ [])
    [ Less ↦ no_stranger_first all name d (member l e ms) named none | Equal ↦ none | Greater ↦ later ]

no_stranger : (all xs : List Array) (rows : List (List ℤ)) (ms : Members)
    → AllByRecursion (λ x. is_named all x.name ≡ true) xs → strangers all ms ≡ []
    → strangers all (put_arrays (zip xs rows) ms) ≡ []
no_stranger all [] rows ms named none = none
no_stranger all (x ∷ xs) [] ms named none = none
no_stranger all (x ∷ xs) (row ∷ rows) ms named none =
    no_stranger all xs rows (put x.name (numbers_json row) ms) named.1
    (no_stranger_put all x.name (numbers_json row) ms named.0 none)

-- ---- the whole

value_read : (xs : List Array) (rows : List (List ℤ)) → AreApart xs → IsInput xs rows → AreOf64Bits rows
    → data_says xs (arrays_json xs rows) ≡ Ok rows
value_read xs rows apart fits held =
    let ms = put_arrays (zip xs rows) no_members in
    ap (λ names. after_stranger (least names) (members_say (λ name. get_member name ms) xs))
    (no_stranger xs xs rows no_members (all_named xs) refl)
    ∙ members_read xs rows no_members apart fits held

given_back : (xs : List Array) → AreApart xs → AreGivenBack xs
given_back xs apart rows fits held text is = ap (read_says xs) is ∙ value_read xs rows apart fits held

-- ---- the arrays of a program

nothing_left : {A : Type 0} (xs ys : List A) → xs ++ ys ≡ [] → (xs ≡ []) × (ys ≡ [])
nothing_left [] ys e = (refl, e)
nothing_left (x ∷ xs) ys e = cc

none_declared : (label : Option ℕ) (m : Option Meant) → declaring label m ≡ [] → is_some m ≡ false
none_declared label None e = refl
none_declared label (Some m) e = cc

means_either : (b : Bool) (m : Meant) (rest : Option Meant) → is_some rest ≡ true → is_some (if b then Some m else rest) ≡ true
means_either true m rest e = refl
means_either false m rest e = e

means_first : (b : Bool) (m : Meant) (rest : Option Meant) → b ≡ true → is_some (if b then Some m else rest) ≡ true
means_first true m rest e = refl
means_first false m rest e = cc

-- a name in scope is the name of no array that is declared after it
new_behind : (name : List ℕ) (arrays : List tree.Array) (here : Scope) → is_some (meant name here.names) ≡ true
    → array_errors here arrays ≡ [] → IsNew name (map array arrays)
new_behind name [] here means none = tt
new_behind name (a ∷ arrays) here means none =
    let p = nothing_left (declaring None (meant a.name here.names)) (array_errors (with_array a here) arrays) none in
    let fresh = none_declared None (meant a.name here.names) p.0 in
    let apart = λ (same : name ≡ a.name).
    true≢false (sym means ∙ ap (λ n. is_some (meant n here.names)) same ∙ fresh) in
    let still : is_some (meant name (with_array a here).names) ≡ true =
    means_either (pointwise nat_eq name a.name) (ASection (length here.sections)) (meant name here.names) means in
    (apart, new_behind name arrays (with_array a here) still p.1)

arrays_apart : (arrays : List tree.Array) (here : Scope) → array_errors here arrays ≡ [] → AreApart (map array arrays)
arrays_apart [] here none = tt
arrays_apart (a ∷ arrays) here none =
    let p = nothing_left (declaring None (meant a.name here.names)) (array_errors (with_array a here) arrays) none in
    let means : is_some (meant a.name (with_array a here).names) ≡ true =
    means_first (pointwise nat_eq a.name a.name) (ASection (length here.sections)) (meant a.name here.names) (itself a.name) in
    (new_behind a.name arrays (with_array a here) means p.1, arrays_apart arrays (with_array a here) p.1)

main_apart : (fs : List tree.Procedure) (m : tree.Main) → errors_of (record { procedures = fs; main = Some m }) ≡ []
    → AreApart (map array m.arrays)
main_apart fs m none =
    let label = label_behind_all 1 fs in
    let in_all = (nothing_left (limit 256 (length fs)) _ none).1 in
    let in_names = (nothing_left (name_errors [] fs) _ in_all).1 in
    let in_main = (nothing_left (procedures_errors fs 1 fs) _ in_names).1 in
    let behind_arrays = (nothing_left (limit 32 (length m.arrays)) _ in_main).1 in
    let behind_elements = (nothing_left (limit 4194304 _) _ behind_arrays).1 in
    arrays_apart m.arrays (empty_scope label)
    (nothing_left (array_errors (empty_scope label) m.arrays) _ behind_elements).0

resolved_apart : (fs : List tree.Procedure) (m : Option tree.Main) (p : Program)
    → errors_of (record { procedures = fs; main = m }) ≡ []
    → resolution (record { procedures = fs; main = m }) ≡ Some p → AreApart p.arrays
resolved_apart fs None p none is = cc
resolved_apart fs (Some m) p none is =
    let same : with_main fs m ≡ p = cc in
    subst (λ q. AreApart q.arrays) same (main_apart fs m none)

-- the object of the arrays of a program that breaks no rule is an input that gives them
pub program_given_back : (t : tree.Program) (p : Program) → BreaksNoRule t → resolution t ≡ Some p → AreGivenBack p.arrays
program_given_back t p right is = given_back p.arrays (resolved_apart t.procedures t.main p right is)
