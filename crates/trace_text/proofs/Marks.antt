-- The bytes of numbers and paths: digits and dots.
use Rattle.std.proofs.Common.{◌≡◌, ℕ, zero, suc, ◌+◌, ◌/◌, ◌%◌, ◌<◌, ◌≤◌, Bool, true, false, cond, leb, eqb, List, [], ◌∷◌, ◌++◌, length, get_or}
use Rattle.std.proofs.Common.{refl, ap, ap₂, sym, subst, arith, le-leb, lt-ltb, leb-true, codes}
use Rattle.std.specs.Fmt.{decimal, digits, digits_onto, digit_glyph}
use Rattle.std.specs.List.{All, flat_map, list_all}
use Rattle.std.proofs.lemmas.Bool.{and_from, and_parts}
use Rattle.std.proofs.lemmas.List.Elements.{All-nil, All-cons, All-head, All-tail, All-append, All-get_or}
use Rattle.json.specs.Print.{escape, escape_byte}
use Rattle.json.proofs.Printed.Strings.{escape_byte_plain}
use Rattle.types.specs.Names.{path_text}
use Rattle.trace_text.specs.Spelled.{Lacks}

abbrev pub IsDigit : ℕ → Type 0
IsDigit x = (48 ≤ x) × (x ≤ 57)

-- a digit or a dot
abbrev pub IsMark : ℕ → Type 0
IsMark x = (46 ≤ x) × (x ≤ 57)

-- ---- the bytes of a number
glyph_is_digit : (d : ℕ) → d < 10 → IsDigit (digit_glyph false d)
glyph_is_digit d small =
    let is : digit_glyph false d ≡ 48 + d = ap (λ (b : Bool). cond b (48 + d) (87 + d)) (lt-ltb d 10 small) in
    subst IsDigit (sym is) (omega arith, omega arith)

last_is_digit : (n : ℕ) → IsDigit (digit_glyph false (n % 10))
last_is_digit n = glyph_is_digit (n % 10) (omega arith)

either_digits : (b : Bool) (xs ys : List ℕ) → All IsDigit xs → All IsDigit ys → All IsDigit (cond b xs ys)
either_digits true xs ys h k = h
either_digits false xs ys h k = k

digits_before : (k n : ℕ) (acc : List ℕ) → All IsDigit acc → All IsDigit (digits_onto k 10 false n acc)
digits_before zero n acc h = h
digits_before (suc k) n acc h =
    let d = digit_glyph false (n % 10) in
    let more : All IsDigit (d ∷ acc) = All-cons IsDigit d acc (last_is_digit n) h in
    either_digits (eqb (n / 10) 0) (d ∷ acc) (digits_onto k 10 false (n / 10) (d ∷ acc)) more
    (digits_before k (n / 10) (d ∷ acc) more)

pub digits_of_number : (n : ℕ) → All IsDigit (decimal n)
unfolding digits
digits_of_number n = digits_before 64 n [] (All-nil IsDigit)

marks_from_digits : (xs : List ℕ) → All IsDigit xs → All IsMark xs
marks_from_digits [] h = All-nil IsMark
marks_from_digits (x ∷ xs) h =
    let here : IsDigit x = All-head IsDigit x xs h in
    let low : 46 ≤ x = omega (arith, here.0) in
    All-cons IsMark x xs (low, here.1) (marks_from_digits xs (All-tail IsDigit x xs h))

pub marks_of_number : (n : ℕ) → All IsMark (decimal n)
marks_of_number n = marks_from_digits (decimal n) (digits_of_number n)

-- the numbers of a path, each after a dot
abbrev pub turns_text : List ℕ → List ℕ
turns_text turns = flat_map (λ n. codes "." ++ decimal n) turns

dot_mark : IsMark 46
dot_mark = (omega arith, omega arith)

root_mark : IsMark 48
root_mark = (omega arith, omega arith)

pub marks_of_turns : (turns : List ℕ) → All IsMark (turns_text turns)
marks_of_turns [] = All-nil IsMark
marks_of_turns (n ∷ ns) =
    All-append IsMark (46 ∷ decimal n) (turns_text ns)
    (All-cons IsMark 46 (decimal n) dot_mark (marks_of_number n)) (marks_of_turns ns)

pub marks_of_path : (turns : List ℕ) → All IsMark (path_text turns)
marks_of_path turns = All-cons IsMark 48 (turns_text turns) root_mark (marks_of_turns turns)

-- ---- texts of marks are unchanged in a line
escape_mark : (x : ℕ) → IsMark x → escape_byte x ≡ x ∷ []
escape_mark x h =
    let low : 46 ≤ x = h.0 in
    let high : x ≤ 57 = h.1 in
    escape_byte_plain x (λ e. omega arith) (λ e. omega arith) (omega arith)

pub escape-marks : (xs : List ℕ) → All IsMark xs → escape xs ≡ xs
escape-marks [] h = refl
escape-marks (x ∷ xs) h =
    ap₂ (λ (a b : List ℕ). a ++ b) (escape_mark x (All-head IsMark x xs h)) (escape-marks xs (All-tail IsMark x xs h))

pub escape-path : (turns : List ℕ) → escape (path_text turns) ≡ path_text turns
escape-path turns = escape-marks (path_text turns) (marks_of_path turns)

-- ---- bytes that occur in no text of marks
pub Lacks-marks : (c : ℕ) (xs : List ℕ) → All IsMark xs → (IsMark c → ⊥) → Lacks c xs
Lacks-marks c xs h other i within e =
    let mark : IsMark (get_or xs i 0) = All-get_or IsMark xs i 0 within h in
    other (subst IsMark e mark)

quote_other : IsMark 34 → ⊥
quote_other h = let low : 46 ≤ 34 = h.0 in absurd (omega arith)

comma_other : IsMark 44 → ⊥
comma_other h = let low : 46 ≤ 44 = h.0 in absurd (omega arith)

brace_other : IsMark 125 → ⊥
brace_other h = let high : 125 ≤ 57 = h.1 in absurd (omega arith)

pub path_then_quote : (turns : List ℕ) → Lacks 34 (path_text turns)
path_then_quote turns = Lacks-marks 34 (path_text turns) (marks_of_path turns) quote_other

pub number_then_comma : (n : ℕ) → Lacks 44 (decimal n)
number_then_comma n = Lacks-marks 44 (decimal n) (marks_of_number n) comma_other

pub number_then_brace : (n : ℕ) → Lacks 125 (decimal n)
number_then_brace n = Lacks-marks 125 (decimal n) (marks_of_number n) brace_other

-- ---- no control character occurs in a line
abbrev pub above : ℕ → List ℕ → Bool
above low xs = list_all (λ x. leb low x) xs

abbrev pub visible : List ℕ → Bool
visible = above 32

visible-marks : (xs : List ℕ) → All IsMark xs → visible xs ≡ true
visible-marks [] h = refl
visible-marks (x ∷ xs) h =
    let here : IsMark x = All-head IsMark x xs h in
    let low : 32 ≤ x = omega (arith, here.0) in
    and_from (leb 32 x) (visible xs) (le-leb 32 x low) (visible-marks xs (All-tail IsMark x xs h))

pub visible-path : (turns : List ℕ) → visible (path_text turns) ≡ true
visible-path turns = visible-marks (path_text turns) (marks_of_path turns)

pub visible-number : (n : ℕ) → visible (decimal n) ≡ true
visible-number n = visible-marks (decimal n) (marks_of_number n)

-- the bytes in front are visible, therefore all are if the others are
pub visible-append : (xs ys : List ℕ) → visible xs ≡ true → visible ys ≡ true → visible (xs ++ ys) ≡ true
visible-append [] ys h k = k
visible-append (x ∷ xs) ys h k =
    let parts = and_parts (leb 32 x) (visible xs) h in
    and_from (leb 32 x) (visible (xs ++ ys)) parts.0 (visible-append xs ys parts.1 k)

low_bound : (low : ℕ) (xs : List ℕ) → above low xs ≡ true → (i : ℕ) → i < length xs → low ≤ get_or xs i 0
low_bound low [] h i within = absurd (omega arith)
low_bound low (x ∷ xs) h zero within = leb-true low x (and_parts (leb low x) (above low xs) h).0
low_bound low (x ∷ xs) h (suc i) within = low_bound low xs (and_parts (leb low x) (above low xs) h).1 i (omega arith)

pub Lacks-above : (low c : ℕ) (xs : List ℕ) → above low xs ≡ true → c < low → Lacks c xs
Lacks-above low c xs h under i within e = let bound = low_bound low xs h i within in omega (arith, bound, e)

pub Lacks-visible : (xs : List ℕ) → visible xs ≡ true → Lacks 10 xs
Lacks-visible xs h = Lacks-above 32 10 xs h (omega arith)

-- no dot occurs in a number
pub Lacks-number : (n : ℕ) → Lacks 46 (decimal n)
Lacks-number n i within e =
    let digit : IsDigit (get_or (decimal n) i 0) = All-get_or IsDigit (decimal n) i 0 within (digits_of_number n) in
    omega (arith, digit.0, e)
