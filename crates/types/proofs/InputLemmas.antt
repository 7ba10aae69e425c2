-- Inputs that fit, and what JSON values give for arrays.
use Rattle.std.proofs.Common.{◌≡◌, ℕ, zero, suc, ◌+◌, ◌<◌, ◌≤◌, List, [], ◌∷◌, ◌++◌, length, map, Option, Some, None, Result, Ok, Err, IfOk, IfErr, IfSome, Vec, get_or, drop, is_some}
use Rattle.std.proofs.Common.{Bool, true, false, refl, sym, ap, ◌∙◌, arith, subst, Less, Equal, Greater}
use Rattle.std.proofs.Common.{String, Global, string_bytes, string_cmp, nat_cmp, option_map, replicate, BTreeMap}
use Rattle.std.proofs.lemmas.Bool.{eqb-true, eq-eqb, ne_eqb}
use Rattle.std.proofs.lemmas.Option.{none-some}
use Rattle.std.specs.Prelude.{ℤ, pos, nat_eq, not, unwrap_or, option_and_then, if◌then◌else◌, ◌&&◌, ok_or}
use Rattle.std.proofs.lemmas.List.{length-map, length-replicate, drop_all}
use Rattle.std.specs.Cmp.Lexicographic.{slice_cmp}
use Rattle.std.specs.List.{list_all, find, AllByRecursion}
use Rattle.std.specs.List.Sorted.{IsStrictlySortedBy}
use Rattle.std.specs.Map.{keys_of}
use Rattle.std.specs.Ordering.{match_ordering}
use Rattle.std.specs.BTreeMap.{IsOrdered, keys}
use Rattle.serde_json.specs.Data.{Data, null, boolean, number, string, array, object, Items, no_items, item, Members}
use Rattle.serde_json.specs.Find.{as_object, as_array, as_i64, as_number, get, get_member}
use Rattle.serde_json.specs.View.{items_view, members_view}
use Rattle.serde_json.specs.declared.value.Value.{Value}
use Rattle.syntax_tree.specs.declared.tree.ElementType.{ElementType}
use Rattle.syntax_tree.specs.declared.tree.ElementType.TheVariants.{Int, Byte}
use Rattle.types.specs.Code.{Array}
use Rattle.types.specs.Contents.{FitsArrays, no_more, also}
use Rattle.types.specs.InputErrors.{mistake_in, told}
use Rattle.types.specs.InputNames.{is_array}
use Rattle.types.specs.Inputs as inputs
use Rattle.types.specs.Inputs.{Mistake, OtherLength, BadElement, IsRow, IsInput, wrong_row, wrong_rows, first_of}
use Rattle.types.specs.Inputs.{numbers_in, items_count, list_says, value_says, member_says, both, members_say}
use Rattle.types.specs.Inputs.{is_named, strangers, lesser, least, after_stranger, data_says, Stranger}
use Rattle.types.specs.Translation.{array as array_of}
use Rattle.types.specs.Value.{holds_number}
use Rattle.types.specs.declared.code.Array.{Array as rArray}
use Rattle.types.specs.declared.input.ListFault.{ListFault}
use Rattle.types.specs.declared.input_error.InputError.{InputError}

-- ---- inputs that fit

row_from : (x : Array) (row : List ℤ) → wrong_row x row ≡ None → IsRow x row
row_from x row = by_length (nat_eq (length row) x.length) refl
  where
    by_held : (b : Bool) → list_all (holds_number x.element) row ≡ b → length row ≡ x.length
        → (if b then None else Some (BadElement x.name)) ≡ None → IsRow x row
    by_held true h long e = record { long = long; held = h }
    by_held false h long e = absurd (none-some _ (sym e))

    by_length : (b : Bool) → nat_eq (length row) x.length ≡ b
        → (if b then (if list_all (holds_number x.element) row then None else Some (BadElement x.name))
        else Some (OtherLength x.name)) ≡ None → IsRow x row
    by_length true long e = by_held (list_all (holds_number x.element) row) refl (eqb-true _ _ long) e
    by_length false long e = absurd (none-some _ (sym e))

first_none : (a b : Option Mistake) → first_of a b ≡ None → (a ≡ None) × (b ≡ None)
first_none None b e = (refl, e)
first_none (Some m) b e = absurd (none-some _ (sym e))

-- lists without a mistake fit
pub IsInput-from_wrong_rows : (xs : List Array) (rows : List (List ℤ)) → length rows ≡ length xs
    → wrong_rows xs rows ≡ None → IsInput xs rows
IsInput-from_wrong_rows [] [] long e = inputs.no_more
IsInput-from_wrong_rows [] (row ∷ rows) long e = absurd (omega (arith, long))
IsInput-from_wrong_rows (x ∷ xs) [] long e = absurd (omega (arith, long))
IsInput-from_wrong_rows (x ∷ xs) (row ∷ rows) long e =
    let h = first_none (wrong_row x row) (wrong_rows xs rows) e in
    inputs.also (row_from x row h.0) (IsInput-from_wrong_rows xs rows (omega (arith, long)) h.1)

row_right : (x : Array) (row : List ℤ) → IsRow x row → wrong_row x row ≡ None
row_right x row r =
    ap (λ b. if b then (if list_all (holds_number x.element) row then None else Some (BadElement x.name))
    else Some (OtherLength x.name)) (eq-eqb _ _ r.long)
    ∙ ap (λ b. if b then None else Some (BadElement x.name)) r.held

-- and lists that fit have no mistake
pub wrong_rows-fitting : (xs : List Array) (rows : List (List ℤ)) → IsInput xs rows → wrong_rows xs rows ≡ None
wrong_rows-fitting [] rows fits = refl
wrong_rows-fitting (x ∷ xs) [] fits = refl
wrong_rows-fitting (x ∷ xs) (row ∷ rows) (inputs.also r fits) =
    ap (λ a. first_of a (wrong_rows xs rows)) (row_right x row r) ∙ wrong_rows-fitting xs rows fits

pub length-fitting : (xs : List Array) (rows : List (List ℤ)) → IsInput xs rows → length rows ≡ length xs
length-fitting [] [] fits = refl
length-fitting [] (row ∷ rows) fits = elim fits [ ]
length-fitting (x ∷ xs) [] fits = elim fits [ ]
length-fitting (x ∷ xs) (row ∷ rows) (inputs.also r fits) = ap suc (length-fitting xs rows fits)

-- an input that fits has as many numbers for each array as it has elements
pub FitsArrays-from_IsInput : (xs : List Array) (rows : List (List ℤ)) → IsInput xs rows → FitsArrays xs rows
FitsArrays-from_IsInput [] [] fits = no_more
FitsArrays-from_IsInput [] (row ∷ rows) fits = elim fits [ ]
FitsArrays-from_IsInput (x ∷ xs) [] fits = elim fits [ ]
FitsArrays-from_IsInput (x ∷ xs) (row ∷ rows) (inputs.also r fits) =
    also r.long (FitsArrays-from_IsInput xs rows fits)

-- a list with a mistake belongs to no input that fits
pub wrong_rows-faulty : (arrays : List rArray) (lists : List (Vec ℤ Global)) (i : ℕ) (x : rArray) (l : Vec ℤ Global)
    → i < length arrays → length lists ≡ length arrays → x ≡ get_or arrays i x → l ≡ get_or lists i l
    → (wrong_row (array_of x) l.items ≡ None → ⊥)
    → wrong_rows (map array_of (drop i arrays)) (map (λ v. v.items) (drop i lists)) ≡ None → ⊥
wrong_rows-faulty [] lists i x l lt long here there wrong none = absurd (omega (arith, lt))
wrong_rows-faulty (y ∷ ys) [] i x l lt long here there wrong none = absurd (omega (arith, long))
wrong_rows-faulty (y ∷ ys) (m ∷ ms) zero x l lt long here there wrong none =
    let first = first_none (wrong_row (array_of y) m.items) _ none in
    wrong (ap (λ (z : rArray). wrong_row (array_of z) l.items) here ∙ ap (λ (v : Vec ℤ Global). wrong_row (array_of y) v.items) there ∙ first.0)
wrong_rows-faulty (y ∷ ys) (m ∷ ms) (suc i) x l lt long here there wrong none =
    wrong_rows-faulty ys ms i x l (omega (arith, lt)) (omega (arith, long)) here there wrong none

pub told_fault : (name : List ℕ) (r : Option ListFault) (o : Option Mistake) → is_some r ≡ true
    → option_map (mistake_in name) r ≡ o → o ≡ None → ⊥
told_fault name None o some same none = cc
told_fault name (Some f) o some same none = cc

length_of : (arrays : List rArray) (lists : List (Vec ℤ Global)) → length (map (λ v. v.items) lists) ≡ length (map array_of arrays)
    → length lists ≡ length arrays
length_of arrays lists e = simp (length-map) at e

-- lists don't fit the arrays if there are more or fewer lists than arrays
pub other_number-fitting : (arrays : List rArray) (lists : List (Vec ℤ Global)) → (length lists ≡ length arrays → ⊥)
    → IsInput (map array_of arrays) (map (λ v. v.items) lists) → ⊥
other_number-fitting arrays lists ne fits = ne (length_of arrays lists (length-fitting _ _ fits))

-- lists without a mistake up to the end fit
pub IsInput-to_the_end : (arrays : List rArray) (lists : List (Vec ℤ Global)) (i : ℕ) → length lists ≡ length arrays
    → length arrays ≤ i
    → wrong_rows (map array_of arrays) (map (λ v. v.items) lists)
    ≡ wrong_rows (map array_of (drop i arrays)) (map (λ v. v.items) (drop i lists))
    → IsInput (map array_of arrays) (map (λ v. v.items) lists)
IsInput-to_the_end arrays lists i long le inv =
    let same : length (map (λ v. v.items) lists) ≡ length (map array_of arrays) = simp (length-map) long in
    IsInput-from_wrong_rows (map array_of arrays) (map (λ v. v.items) lists) same
    (inv ∙ ap (λ xs. wrong_rows (map array_of xs) (map (λ v. v.items) (drop i lists))) (drop_all i arrays le))

-- ---- the smallest unknown name

is_named-map : (arrays : List rArray) (name : List ℕ) → is_named (map array_of arrays) name ≡ is_array arrays name
is_named-map [] name = refl
is_named-map (x ∷ xs) name = rw (is_named-map xs name)

lesser_is : (P : List ℕ → Type 0) (a b : List ℕ) → P a → P b → P (lesser a b)
lesser_is P a b p q = elim (slice_cmp nat_cmp a b) as (λ o. P (match_ordering o a a b)) [ Less ↦ p | Equal ↦ p | Greater ↦ q ]

least_is : (P : List ℕ → Type 0) (name : List ℕ) (names : List (List ℕ)) → P name → AllByRecursion P names
    → P (unwrap_or (option_map (lesser name) (least names)) name)
least_is P name [] p all = p
least_is P name (x ∷ xs) p all =
    lesser_is P name (unwrap_or (option_map (lesser x) (least xs)) x) p (least_is P x xs all.0 all.1)

-- a name below all others is the smallest
below_all : (name : List ℕ) (names : List (List ℕ)) → AllByRecursion (λ k. slice_cmp nat_cmp name k ≡ Less) names
    → least (name ∷ names) ≡ Some name
below_all name [] all = refl
below_all name (x ∷ xs) all =
    let P : List ℕ → Type 0 = λ k. slice_cmp nat_cmp name k ≡ Less in
    let m = unwrap_or (option_map (lesser x) (least xs)) x in
    let less : slice_cmp nat_cmp name m ≡ Less = least_is P x xs all.0 all.1 in
    ap (λ o. Some (match_ordering o name name m)) less

strangers_are : (P : List ℕ → Type 0) (arrays : List Array) (es : List (String Global × Value))
    → AllByRecursion (λ k. P (string_bytes k)) (keys_of es) → AllByRecursion P (strangers arrays (members_view es))
strangers_are P arrays [] all = tt
strangers_are P arrays (e ∷ es) all =
    let rest = strangers_are P arrays es all.1 in
    elim (is_named arrays (string_bytes e.0)) as (λ b. AllByRecursion P
    (if b then strangers arrays (members_view es) else string_bytes e.0 ∷ strangers arrays (members_view es)))
    [ true ↦ rest | false ↦ (all.0, rest) ]

-- the first unknown name in the order of names is the smallest
pub least-strangers : (arrays : List rArray) (es : List (String Global × Value)) → IsStrictlySortedBy string_cmp (keys_of es)
    → least (strangers (map array_of arrays) (members_view es))
    ≡ option_map string_bytes (find (λ k. not (is_array arrays (string_bytes k))) (keys_of es))
unfolding IsStrictlySortedBy
least-strangers arrays [] sorted = refl
least-strangers arrays (e ∷ es) sorted =
    let others = strangers (map array_of arrays) (members_view es) in
    let found = option_map string_bytes (find (λ k. not (is_array arrays (string_bytes k))) (keys_of es)) in
    let P : List ℕ → Type 0 = λ k. slice_cmp nat_cmp (string_bytes e.0) k ≡ Less in
    ap (λ b. least (if b then others else string_bytes e.0 ∷ others)) (is_named-map arrays (string_bytes e.0))
    ∙ by_name (is_array arrays (string_bytes e.0)) (string_bytes e.0) others e.0 (keys_of es) refl
    (least-strangers arrays es sorted.1) (below_all (string_bytes e.0) others (strangers_are P (map array_of arrays) es sorted.0))
  where
    test : String Global → Bool
    test k = not (is_array arrays (string_bytes k))

    by_name : (b : Bool) (name : List ℕ) (others : List (List ℕ)) (key : String Global) (keys : List (String Global))
        → string_bytes key ≡ name
        → least others ≡ option_map string_bytes (find (λ k. not (is_array arrays (string_bytes k))) keys)
        → least (name ∷ others) ≡ Some name
        → least (if b then others else name ∷ others)
        ≡ option_map string_bytes (if not b then Some key else find (λ k. not (is_array arrays (string_bytes k))) keys)
    by_name true name others key keys same rest here = rest
    by_name false name others key keys same rest here = here ∙ ap Some (sym same)

-- ---- what members give

pub object-from_as_object : (d : Data) (ms : Members) → as_object d ≡ Some ms → d ≡ object ms
object-from_as_object (object ns) ms e = cc
object-from_as_object d ms e = cc

pub array-from_as_array : (d : Data) (ds : Items) → as_array d ≡ Some ds → d ≡ array ds
array-from_as_array (array es) ds e = cc
array-from_as_array d ds e = cc

-- what a JSON list of an array's length gives for the array
pub value_says-list : (x : Array) (d : Data) (ds : Items) → as_array d ≡ Some ds → items_count ds ≡ x.length
    → value_says x d ≡ ok_or (numbers_in x.element ds) (BadElement x.name)
value_says-list x d ds e long =
    ap (value_says x) (array-from_as_array d ds e)
    ∙ ap (λ b. if b then ok_or (numbers_in x.element ds) (BadElement x.name) else Err (OtherLength x.name)) (eq-eqb _ _ long)

-- and one of another length
pub value_says-other : (x : Array) (d : Data) (ds : Items) → as_array d ≡ Some ds → (items_count ds ≡ x.length → ⊥)
    → value_says x d ≡ Err (OtherLength x.name)
value_says-other x d ds e long =
    ap (value_says x) (array-from_as_array d ds e)
    ∙ ap (λ b. if b then ok_or (numbers_in x.element ds) (BadElement x.name) else Err (OtherLength x.name)) (ne_eqb _ _ long)

pub items_count-items_view : (vs : List Value) → items_count (items_view vs) ≡ length vs
items_count-items_view [] = refl
items_count-items_view (v ∷ vs) = let e = items_count-items_view vs in omega (arith, e)

-- what a list of an array's length gives for the array, by its items
pub value_says-items : (x : Array) (d : Data) {es vs : List Value} → Some (items_view es) ≡ as_array d
    → vs ≡ es → length vs ≡ x.length
    → value_says x d ≡ ok_or (numbers_in x.element (items_view vs)) (BadElement x.name)
value_says-items x d {es} {vs} is same long =
    value_says-list x d (items_view vs) (sym is ∙ ap (λ l. Some (items_view l)) (sym same))
    (items_count-items_view vs ∙ long)

-- what remains of a list, after the numbers so far
abbrev pub behind : List ℤ → Option (List ℤ) → Option (List ℤ)
behind so_far rest = option_map (λ vs. so_far ++ vs) rest

-- what remains of arrays, after the lists so far
abbrev pub after_lists : List (List ℤ) → Result (List (List ℤ)) Mistake → Result (List (List ℤ)) Mistake
after_lists so_far (Err m) = Err m
after_lists so_far (Ok rows) = Ok (so_far ++ rows)

-- a list that was read is what the value gives
pub value_says-read : (x : Array) (d : Data) (o : Option (List ℤ)) (r : Result (Vec ℤ Global) InputError)
    → value_says x d ≡ ok_or o (BadElement x.name) → IfOk r (λ v. o ≡ Some v.items) → IfOk r (λ v. value_says x d ≡ Ok v.items)
value_says-read x d o (Ok v) e h = e ∙ ap (λ p. ok_or p (BadElement x.name)) h
value_says-read x d o (Err f) e h = tt

-- and an error is the mistake in it
pub value_says-refused : (x : Array) (d : Data) (o : Option (List ℤ)) (r : Result (Vec ℤ Global) InputError)
    → value_says x d ≡ ok_or o (BadElement x.name)
    → IfErr r (λ e. IfSome (told e) (λ m. (m ≡ BadElement x.name) × (o ≡ None)))
    → IfErr r (λ e. IfSome (told e) (λ m. value_says x d ≡ Err m))
value_says-refused x d o (Ok v) e h = tt
value_says-refused x d o (Err f) e h = by_told (told f) h
  where
    by_told : (t : Option Mistake) → IfSome t (λ m. (m ≡ BadElement x.name) × (o ≡ None)) → IfSome t (λ m. value_says x d ≡ Err m)
    by_told None h = tt
    by_told (Some m) h = e ∙ ap (λ p. ok_or p (BadElement x.name)) h.1 ∙ ap Err (sym h.0)

module _ (arrays : List rArray) (d : Data) (m : BTreeMap (String Global) Value) (is_object : Some (members_view m.entries) ≡ as_object d)
    (ordered : IsOrdered string_cmp m) where
  abbrev plain : List Array
  plain = map array_of arrays

  abbrev first : Option (String Global)
  first = find (λ k. not (is_array arrays (string_bytes k))) (keys m)

  by_first : (o : Option (String Global)) → o ≡ first
      → data_says plain d ≡ after_stranger (option_map string_bytes o) (members_say (λ name. get name d) plain)
  by_first o e =
      let is = object-from_as_object d (members_view m.entries) (sym is_object) in
      ap (data_says plain) is
      ∙ ap (λ o. after_stranger o (members_say (λ name. get_member name (members_view m.entries)) plain))
      (least-strangers arrays m.entries ordered ∙ ap (option_map string_bytes) (sym e))
      ∙ sym (ap (λ d. after_stranger (option_map string_bytes o) (members_say (λ name. get name d) plain)) is)

  -- what an object with an unknown name gives
  pub data_says-stranger : (name : String Global) → Some name ≡ first → data_says (map array_of arrays) d ≡ Err (Stranger (string_bytes name))
  data_says-stranger name e = by_first (Some name) e

  -- what an object without an unknown name gives
  pub data_says-members : None ≡ first → data_says (map array_of arrays) d ≡ members_say (λ name. get name d) (map array_of arrays)
  data_says-members e = by_first None e

-- numbers that were read: each one fits, and there is one for each element
abbrev AreHeld : ElementType → Items → List ℤ → Type 0
AreHeld t ds vs = (list_all (holds_number t) vs ≡ true) × (length vs ≡ items_count ds)

one_more : (t : ElementType) (d : Data) (ds : Items) (v : ℤ) (o : Option (List ℤ)) (vs : List ℤ)
    → ((ws : List ℤ) → o ≡ Some ws → AreHeld t ds ws) → holds_number t v ≡ true
    → option_map (λ ws. v ∷ ws) o ≡ Some vs → AreHeld t (item d ds) vs
one_more t d ds v None vs rest held e = absurd (none-some _ e)
one_more t d ds v (Some ws) vs rest held e =
    let h = rest ws refl in
    let same : v ∷ ws ≡ vs = cc in
    let long : suc (length ws) ≡ items_count ds + 1 = omega (arith, h.1) in
    subst (AreHeld t (item d ds)) same (ap (λ b. b && list_all (holds_number t) ws) held ∙ h.0, long)

one_held : (t : ElementType) (d : Data) (ds : Items) (v : ℤ) (b : Bool) (vs : List ℤ) → holds_number t v ≡ b
    → ((ws : List ℤ) → numbers_in t ds ≡ Some ws → AreHeld t ds ws)
    → option_and_then (λ v. option_map (λ vs. v ∷ vs) (numbers_in t ds)) (if b then Some v else None) ≡ Some vs
    → AreHeld t (item d ds) vs
one_held t d ds v true vs held rest e = one_more t d ds v (numbers_in t ds) vs rest held e
one_held t d ds v false vs held rest e = absurd (none-some _ e)

one_read : (t : ElementType) (d : Data) (ds : Items) (o : Option ℤ) (vs : List ℤ)
    → ((ws : List ℤ) → numbers_in t ds ≡ Some ws → AreHeld t ds ws)
    → option_and_then (λ v. option_map (λ vs. v ∷ vs) (numbers_in t ds))
    (option_and_then (λ v. if holds_number t v then Some v else None) o) ≡ Some vs
    → AreHeld t (item d ds) vs
one_read t d ds None vs rest e = absurd (none-some _ e)
one_read t d ds (Some v) vs rest e = one_held t d ds v (holds_number t v) vs refl rest e

numbers_held : (t : ElementType) (ds : Items) (vs : List ℤ) → numbers_in t ds ≡ Some vs → AreHeld t ds vs
numbers_held t no_items [] e = (refl, refl)
numbers_held t no_items (v ∷ vs) e = cc
numbers_held t (item d ds) vs e =
    one_read t d ds (option_and_then as_i64 (as_number d)) vs (numbers_held t ds) e

pub zeros_held : (t : ElementType) (n : ℕ) → list_all (holds_number t) (replicate n (pos 0)) ≡ true
zeros_held t zero = refl
zeros_held Int (suc n) = zeros_held Int n
zeros_held Byte (suc n) = zeros_held Byte n

err_is_ok : {A B : Type 0} {a : A} {b : B} → Err a ≡ Ok b → ⊥
err_is_ok e = cc

list_row : (x : Array) (ds : Items) (row : List ℤ) → list_says x ds ≡ Ok row → IsRow x row
list_row x ds row = by_length (nat_eq (items_count ds) x.length) refl
  where
    by_numbers : (o : Option (List ℤ)) → numbers_in x.element ds ≡ o → items_count ds ≡ x.length
        → ok_or o (BadElement x.name) ≡ Ok row → IsRow x row
    by_numbers None is long e = absurd (err_is_ok e)
    by_numbers (Some vs) is long e =
        let h = numbers_held x.element ds vs is in
        let same : vs ≡ row = cc in
        subst (IsRow x) same (record { long = h.1 ∙ long; held = h.0 })

    by_length : (b : Bool) → nat_eq (items_count ds) x.length ≡ b
        → (if b then ok_or (numbers_in x.element ds) (BadElement x.name) else Err (OtherLength x.name)) ≡ Ok row → IsRow x row
    by_length true long e = by_numbers (numbers_in x.element ds) refl (eqb-true _ _ long) e
    by_length false long e = absurd (err_is_ok e)

value_row : (x : Array) (d : Data) (row : List ℤ) → value_says x d ≡ Ok row → IsRow x row
value_row x null row e = absurd (err_is_ok e)
value_row x (boolean b) row e = absurd (err_is_ok e)
value_row x (number n) row e = absurd (err_is_ok e)
value_row x (string s) row e = absurd (err_is_ok e)
value_row x (array ds) row e = list_row x ds row e
value_row x (object ms) row e = absurd (err_is_ok e)

member_row : (x : Array) (o : Option Data) (row : List ℤ) → member_says x o ≡ Ok row → IsRow x row
member_row x None row e =
    let same : replicate x.length (pos 0) ≡ row = cc in
    subst (IsRow x) same (record { long = length-replicate x.length (pos 0); held = zeros_held x.element x.length })
member_row x (Some d) row e = value_row x d row e

both_rows : (x : Array) (xs : List Array) (rows : List (List ℤ)) (a : Result (List ℤ) Mistake) (b : Result (List (List ℤ)) Mistake)
    → ((row : List ℤ) → a ≡ Ok row → IsRow x row) → ((others : List (List ℤ)) → b ≡ Ok others → IsInput xs others)
    → both a b ≡ Ok rows → IsInput (x ∷ xs) rows
both_rows x xs rows (Err m) b here there e = absurd (err_is_ok e)
both_rows x xs rows (Ok row) (Err m) here there e = absurd (err_is_ok e)
both_rows x xs rows (Ok row) (Ok others) here there e =
    let same : row ∷ others ≡ rows = cc in
    subst (IsInput (x ∷ xs)) same (inputs.also (here row refl) (there others refl))

-- what members give fits
pub IsInput-from_members_say : (member_of : List ℕ → Option Data) (xs : List Array) (rows : List (List ℤ))
    → members_say member_of xs ≡ Ok rows → IsInput xs rows
IsInput-from_members_say member_of [] [] e = inputs.no_more
IsInput-from_members_say member_of [] (row ∷ rows) e = cc
IsInput-from_members_say member_of (x ∷ xs) rows e =
    both_rows x xs rows (member_says x (member_of x.name)) (members_say member_of xs)
    (member_row x (member_of x.name)) (IsInput-from_members_say member_of xs) e

after_stranger_fits : (xs : List Array) (o : Option (List ℕ)) (says : Result (List (List ℤ)) Mistake) (rows : List (List ℤ))
    → (says ≡ Ok rows → IsInput xs rows) → after_stranger o says ≡ Ok rows → IsInput xs rows
after_stranger_fits xs None says rows h e = h e
after_stranger_fits xs (Some name) says rows h e = absurd (err_is_ok e)

-- what a JSON value gives fits
pub IsInput-from_data_says : (xs : List Array) (d : Data) (rows : List (List ℤ)) → data_says xs d ≡ Ok rows → IsInput xs rows
IsInput-from_data_says xs null rows e = absurd (err_is_ok e)
IsInput-from_data_says xs (boolean b) rows e = absurd (err_is_ok e)
IsInput-from_data_says xs (number n) rows e = absurd (err_is_ok e)
IsInput-from_data_says xs (string s) rows e = absurd (err_is_ok e)
IsInput-from_data_says xs (array ds) rows e = absurd (err_is_ok e)
IsInput-from_data_says xs (object ms) rows e =
    after_stranger_fits xs (least (strangers xs ms)) (members_say (λ name. get_member name ms) xs) rows
    (IsInput-from_members_say (λ name. get_member name ms) xs rows) e
