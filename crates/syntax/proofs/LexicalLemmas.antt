-- What comes first in a text, and what pieces leave.
use Rattle.std.proofs.Common.{◌≡◌, ℕ, zero, suc, ◌+◌, ◌<◌, ◌⊎◌, ⊎_elim, lit<, Bool, true, false, cond, ◌&&◌}
use Rattle.std.proofs.Common.{◌==◌, List, [], ◌∷◌, ◌++◌, take, drop, refl, ap, sym, ◌∙◌, subst, take-append-drop}
use Rattle.std.proofs.Common.{append-nil, append_assoc, arith}
use Rattle.std.specs.List.{prefix_len, list_all, flat_map}
use Rattle.std.proofs.lemmas.List.Sums.{take_while-cons}
use Rattle.syntax.specs.Token.{Token}
use Rattle.std.specs.Char.{is_ascii_alphabetic, is_ascii_digit}
use Rattle.std.specs.Int.{is_in_range}
use Rattle.std.specs.Str.{IsAscii}
use Rattle.std.proofs.lemmas.Bool.{eqb-true, leb-true, and_parts, or_cases}
use Rattle.syntax.specs.Lexical.{begins_name, is_in_name, starts, Piece, token_of, Begins, AreCut, Reads, HasTokens}

module _ (p : ℕ → Bool) where
  passes_more : (x : ℕ) (xs : List ℕ) (b : Bool) → p x ≡ b → list_all p xs ≡ true → list_all p (cond b (x ∷ xs) []) ≡ true
  passes_more x xs true e all = ap (λ b. b && list_all p xs) e ∙ all
  passes_more x xs false e all = refl

  -- all characters of the longest prefix of characters that pass do pass
  pub front_passes : (xs : List ℕ) → list_all p (take (prefix_len p xs) xs) ≡ true
  front_passes [] = refl
  front_passes (x ∷ xs) = ap (list_all p) (take_while-cons p x xs) ∙ passes_more x (take (prefix_len p xs) xs) (p x) refl (front_passes xs)

  stops_more : (x : ℕ) (xs : List ℕ) (b : Bool) → p x ≡ b → starts p (drop (prefix_len p xs) xs) ≡ false
      → starts p (drop (cond b (1 + prefix_len p xs) 0) (x ∷ xs)) ≡ false
  stops_more x xs true e stops =
      let next : 1 + prefix_len p xs ≡ suc (prefix_len p xs) = omega arith in
      ap (λ n. starts p (drop n (x ∷ xs))) next ∙ stops
  stops_more x xs false e stops = e

  -- and what follows the prefix doesn't start with one that passes
  pub rest_stops : (xs : List ℕ) → starts p (drop (prefix_len p xs) xs) ≡ false
  rest_stops [] = refl
  rest_stops (x ∷ xs) = stops_more x xs (p x) refl (rest_stops xs)

  pub passes_at : (n : ℕ) (xs front : List ℕ) → n ≡ prefix_len p xs → front ≡ take n xs → list_all p front ≡ true
  passes_at n xs front length_is front_is = ap (list_all p) (front_is ∙ ap (λ m. take m xs) length_is) ∙ front_passes xs

  pub stops_at : (n : ℕ) (xs rest : List ℕ) → n ≡ prefix_len p xs → rest ≡ drop n xs → starts p rest ≡ false
  stops_at n xs rest length_is rest_is = ap (starts p) (rest_is ∙ ap (λ m. drop m xs) length_is) ∙ rest_stops xs

  pub begins_at : (q : ℕ → Bool) (n x : ℕ) (xs after front : List ℕ) → xs ≡ x ∷ after → n ≡ prefix_len p xs
      → front ≡ take n xs → p x ≡ true → q x ≡ true → starts q front ≡ true
  begins_at q n x xs after front xs_is length_is front_is passes begins =
      let whole = front_is ∙ ap (λ m. take m xs) length_is ∙ ap (λ l. take (prefix_len p l) l) xs_is in
      ap (starts q) (whole ∙ take_while-cons p x after ∙ ap (λ b. cond b (x ∷ take (prefix_len p after) after) []) passes) ∙ begins

pub cut_at : (n : ℕ) (xs front rest : List ℕ) → front ≡ take n xs → rest ≡ drop n xs → xs ≡ front ++ rest
cut_at n xs front rest front_is rest_is =
    sym (take-append-drop n xs) ∙ ap (λ l. l ++ drop n xs) (sym front_is) ∙ ap (λ l. front ++ l) (sym rest_is)

pub cut-push : (text rest after : List ℕ) (ps : List Piece) (p : Piece) → AreCut text ps rest → Begins rest p after
    → AreCut text (ps ++ p ∷ []) after
cut-push text rest after [] p cut begins = (after, subst (λ t. Begins t p after) (sym cut) begins, refl)
cut-push text rest after (q ∷ ps) p cut begins = (cut.0, cut.1, cut-push cut.0 rest after ps p cut.2 begins)

tokens-push : (ps : List Piece) (p : Piece) → flat_map token_of (ps ++ p ∷ []) ≡ flat_map token_of ps ++ token_of p
tokens-push [] p = append-nil (token_of p)
tokens-push (q ∷ ps) p = ap (λ l. token_of q ++ l) (tokens-push ps p) ∙ sym (append_assoc (token_of q) (flat_map token_of ps) (token_of p))

-- one more piece was read
pub piece_read : (text rest after : List ℕ) (ts us : List Token) → HasTokens text ts rest → Reads rest us after
    → HasTokens text (ts ++ us) after
piece_read text rest after ts us has reads = record {
  pieces = has.pieces ++ reads.piece ∷ [];
  cut = cut-push text rest after has.pieces reads.piece has.cut reads.begins;
  tokens = tokens-push has.pieces reads.piece ∙ ap (λ l. l ++ token_of reads.piece) has.tokens ∙ ap (λ l. ts ++ l) reads.tokens;
}

in_range_is_below : (low high c : ℕ) → high < 128 → is_in_range low high c ≡ true → c < 128
in_range_is_below low high c small e = omega (arith, small, leb-true c high (and_parts _ _ e).1)

in_name_is_ascii : (c : ℕ) → is_in_name c ≡ true → c < 128
in_name_is_ascii c e =
    ⊎_elim
    (λ begins. ⊎_elim
    (λ letter. ⊎_elim (in_range_is_below 65 90 c (lit< tt)) (in_range_is_below 97 122 c (lit< tt))
    (or_cases (is_in_range 65 90 c) (is_in_range 97 122 c) letter))
    (λ underscore. subst (λ n. n < 128) (sym (eqb-true c 95 underscore)) (lit< tt))
    (or_cases (is_ascii_alphabetic c) (c == 95) begins))
    (in_range_is_below 48 57 c (lit< tt))
    (or_cases (begins_name c) (is_ascii_digit c) e)

all_in_name : (c : ℕ) (cs : List ℕ) → list_all is_in_name (c ∷ cs) ≡ true → (is_in_name c ≡ true) × (list_all is_in_name cs ≡ true)
all_in_name c cs e = and_parts (is_in_name c) (list_all is_in_name cs) e

pub letters_are_ascii : (cs : List ℕ) → list_all is_in_name cs ≡ true → IsAscii cs
letters_are_ascii [] e i = lit< tt
letters_are_ascii (c ∷ cs) e zero = in_name_is_ascii c (all_in_name c cs e).0
letters_are_ascii (c ∷ cs) e (suc i) = letters_are_ascii cs (all_in_name c cs e).1 i
