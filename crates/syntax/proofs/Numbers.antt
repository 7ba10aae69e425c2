-- More digits spell no smaller number.
use Rattle.std.proofs.Common.{ℕ, ◌+◌, ◌*◌, ◌<◌, ◌≤◌, List, [], ◌∷◌, length, get_or, take, drop, fold, ap, arith}
use Rattle.std.specs.Char.{digit_value}
use Rattle.std.proofs.lemmas.List.{take-append-drop}
use Rattle.std.proofs.lemmas.List.Sums.{fold-append, fold_more}
use Rattle.syntax.specs.Lexical.{number_of}

abbrev with_digit : ℕ → ℕ → ℕ
with_digit n c = n * 10 + digit_value c

digits_add : (cs : List ℕ) (n : ℕ) → n ≤ fold with_digit n cs
digits_add [] n = omega arith
digits_add (c ∷ cs) n = omega (arith, digits_add cs (with_digit n c))

pub front_is_no_larger : (cs : List ℕ) (i : ℕ) → number_of (take i cs) ≤ number_of cs
front_is_no_larger cs i =
    let whole = ap number_of (take-append-drop i cs) in
    let parts = fold-append with_digit 0 (take i cs) (drop i cs) in
    omega (arith, whole, parts, digits_add (drop i cs) (number_of (take i cs)))

-- nor do the digits up to one of them
pub next_is_no_larger : (cs : List ℕ) (i d : ℕ) → i < length cs → number_of (take i cs) * 10 + digit_value (get_or cs i d) ≤ number_of cs
next_is_no_larger cs i d within = omega (arith, front_is_no_larger cs (i + 1), fold_more with_digit 0 cs i d within)
