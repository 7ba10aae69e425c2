-- The number of characters of a token at the start of a text.
use Rattle.std.proofs.Common.{◌≡◌, ℕ, ◌+◌, Bool, true, false, cond, List, [], ◌∷◌, ◌++◌, length, refl, ap, ◌∙◌, arith}
use Rattle.std.specs.Char.{is_ascii_digit}
use Rattle.std.specs.List.{list_all, prefix_len}
use Rattle.std.proofs.lemmas.Bool.{and_parts}
use Rattle.syntax.specs.declared.token.Word.{Word}
use Rattle.syntax.specs.declared.token.Mark.{Mark}
use Rattle.syntax.specs.Lexical.{is_in_name, letters, mark_text, starts, token_of, word_text, Begins, Piece}
use Rattle.syntax.specs.Lexical.{NamePiece, NumberPiece, WordPiece, MarkPiece}
use Rattle.syntax.specs.Token.{NameToken, NumberToken, WordToken, MarkToken}
use Rattle.syntax.proofs.Pieces.{word_in_name}

-- the characters that pass are counted, if none after them passes
pub prefix_len-front : (q : ℕ → Bool) (cs rest : List ℕ) → list_all q cs ≡ true → starts q rest ≡ false
    → prefix_len q (cs ++ rest) ≡ length cs
prefix_len-front q [] [] all ends = refl
prefix_len-front q [] (c ∷ rest) all ends = ap (λ b. cond b (1 + prefix_len q rest) 0) ends
prefix_len-front q (c ∷ cs) rest all ends =
    let parts = and_parts (q c) (list_all q cs) all in
    let more = prefix_len-front q cs rest parts.1 ends in
    let next : 1 + prefix_len q (cs ++ rest) ≡ length (c ∷ cs) = omega (arith, more) in
    ap (λ b. cond b (1 + prefix_len q (cs ++ rest)) 0) parts.0 ∙ next

module _ (text rest : List ℕ) where
  pub name_takes : (x : List ℕ) (p : Piece) → Begins text p rest → token_of p ≡ NameToken x ∷ []
      → prefix_len is_in_name text ≡ length (letters p)
  name_takes x (NamePiece cs) begins e =
      ap (prefix_len is_in_name) begins.spelled ∙ prefix_len-front is_in_name cs rest begins.fits.in_name begins.fits.ends
  name_takes x _ begins e = cc

  pub word_takes : (v : Word) (p : Piece) → Begins text p rest → token_of p ≡ WordToken v ∷ []
      → prefix_len is_in_name text ≡ length (letters p)
  word_takes v (WordPiece w) begins e =
      ap (prefix_len is_in_name) begins.spelled ∙ prefix_len-front is_in_name (word_text w) rest (word_in_name w) begins.fits
  word_takes v _ begins e = cc

  pub number_takes : (n : ℕ) (p : Piece) → Begins text p rest → token_of p ≡ NumberToken n ∷ []
      → prefix_len is_ascii_digit text ≡ length (letters p)
  number_takes n (NumberPiece cs) begins e =
      ap (prefix_len is_ascii_digit) begins.spelled ∙ prefix_len-front is_ascii_digit cs rest begins.fits.digits begins.fits.ends
  number_takes n _ begins e = cc

  pub mark_takes : (m : Mark) (p : Piece) → Begins text p rest → token_of p ≡ MarkToken m ∷ []
      → length (mark_text m) ≡ length (letters p)
  mark_takes m (MarkPiece k) begins e = let same : m ≡ k = cc in ap (λ n. length (mark_text n)) same
  mark_takes m _ begins e = cc
