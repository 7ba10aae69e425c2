-- Where reading a text stops, and where its tokens are.
use Rattle.std.proofs.Common.{◌≡◌, ℕ, ◌+◌, ◌-◌, ◌<◌, ◌⊎◌, inl, inr, ⊎_elim, List, [], ◌∷◌, ◌++◌, length, drop, refl, ap}
use Rattle.std.proofs.Common.{sym, ◌∙◌, subst, append_assoc, arith}
use Rattle.std.specs.Char.{is_ascii_digit}
use Rattle.std.proofs.lemmas.List.{length-append}
use Rattle.std.proofs.Math.Seq.{drop-append_seam}
use Rattle.syntax.specs.declared.lexer.Unread.{Unread}
use Rattle.syntax.specs.declared.lexer.Unread.TheVariants.{NotACharacter, NumberTooLarge, OutOfMemory}
use Rattle.syntax.specs.declared.token.Spanned.{Spanned}
use Rattle.syntax.specs.Lexical.{starts, Piece, letters, AreCut, HasTokens, Reads, BeginsNoPiece, BeginsLargeNumber}
use Rattle.syntax.specs.Refusals.{BeginsNoToken, TellsUnread, StandsAt, ArePlaced}
use Rattle.syntax.specs.Token.{Token, token, plain}
use Rattle.syntax.proofs.Pieces.{large_begins_no_piece}

cut_front : (text : List ℕ) (ps : List Piece) (rest : List ℕ) → AreCut text ps rest → (front : List ℕ) × (text ≡ front ++ rest)
cut_front text [] rest cut = ([], cut)
cut_front text (p ∷ ps) rest cut =
    let more = cut_front cut.0 ps rest cut.2 in
    (letters p ++ more.0, cut.1.spelled ∙ ap (λ l. letters p ++ l) more.1 ∙ sym (append_assoc (letters p) more.0 rest))

module _ (text rest : List ℕ) (ts : List Token) (has : HasTokens text ts rest) where
  rest_is_short : (front : ℕ) × (length text ≡ front + length rest)
  rest_is_short =
      let front = cut_front text has.pieces rest has.cut in
      (length front.0, ap length front.1 ∙ length-append front.0 rest)

  -- the rest of a text comes after as many characters as were read
  rest_is_behind : drop (length text - length rest) text ≡ rest
  rest_is_behind =
      let front = cut_front text has.pieces rest has.cut in
      let number : length text - length rest ≡ length front.0 = omega (arith, ap length front.1, length-append front.0 rest) in
      ap (λ n. drop n text) number ∙ ap (drop (length front.0)) front.1 ∙ drop-append_seam front.0 rest

  behind_at : (at : ℕ) → at ≡ length text - length rest → drop at text ≡ rest
  behind_at at number = ap (λ n. drop n text) number ∙ rest_is_behind

  stands_at : (after : List ℕ) (t : Token) (at : ℕ) → at ≡ length text - length rest → Reads rest (t ∷ []) after → StandsAt text ts t at
  stands_at after t at number reads =
      let here = sym (behind_at at number) in
      record { behind = after; read = subst (HasTokens text ts) here has; stands = subst (λ l. Reads l (t ∷ []) after) here reads }

  -- if no token comes first in the rest, the text has none
  pub tells_unread : (unread : Unread) → 0 < length rest → BeginsNoToken rest unread → TellsUnread text unread
  tells_unread (NotACharacter left) some why =
      let here = behind_at (length text - left) (ap (λ n. length text - n) why.all_left) in
      record {
        stops = record {
          tokens = ts;
          read = subst (HasTokens text ts) (sym here) has;
          within = omega (arith, rest_is_short.1, why.all_left);
          stuck = subst BeginsNoPiece (sym here) why.no_piece;
        };
        no_digit = ap (starts is_ascii_digit) here ∙ why.no_digit;
      }
  tells_unread (NumberTooLarge left) some why =
      let here = behind_at (length text - left) (ap (λ n. length text - n) why.0) in
      record {
        stops = record {
          tokens = ts;
          read = subst (HasTokens text ts) (sym here) has;
          within = omega (arith, rest_is_short.1, why.0);
          stuck = subst BeginsNoPiece (sym here) (large_begins_no_piece rest why.1);
        };
        large = subst BeginsLargeNumber (sym here) why.1;
      }
  tells_unread OutOfMemory some why = tt

-- a list with one more item at its end, split somewhere: it is split at the end, or the list is
-- split
split_last : {A : Type 0} (xs : List A) (x : A) (before : List A) (s : A) (after : List A)
    → xs ++ x ∷ [] ≡ before ++ s ∷ after → ((before ≡ xs) × (s ≡ x)) ⊎ ((more : List A) × (xs ≡ before ++ s ∷ more))
split_last [] x [] s after e = inl (refl, cc)
split_last [] x (b ∷ []) s after e = cc
split_last [] x (b ∷ c ∷ before) s after e = cc
split_last (y ∷ xs) x [] s after e = inr (xs, cc)
split_last (y ∷ xs) x (b ∷ before) s after e =
    let first : y ≡ b = cc in
    let rest : xs ++ x ∷ [] ≡ before ++ s ∷ after = cc in
    ⊎_elim
    (λ last. inl (ap (λ z. z ∷ before) (sym first) ∙ ap (λ l. y ∷ l) last.0, last.1))
    (λ inner. inr (inner.0, ap (λ z. z ∷ xs) first ∙ ap (λ l. b ∷ l) inner.1))
    (split_last xs x before s after rest)

pub none_are_placed : (text : List ℕ) → ArePlaced text []
none_are_placed text [] s after e = cc
none_are_placed text (b ∷ before) s after e = cc

-- one more token is at its recorded position
pub one_more_placed : (text rest after : List ℕ) (found : List Spanned) (s : Spanned)
    → HasTokens text (plain found) rest → Reads rest (token s.token ∷ []) after → s.at ≡ length text - length rest
    → ArePlaced text found → ArePlaced text (found ++ s ∷ [])
one_more_placed text rest after found s has reads number placed before t later e =
    ⊎_elim
    (λ last.
    let stands = stands_at text rest (plain found) has after (token s.token) s.at number reads in
    let this = subst (λ u. StandsAt text (plain found) (token u.token) u.at) (sym last.1) stands in
    subst (λ l. StandsAt text (plain l) (token t.token) t.at) (sym last.0) this)
    (λ inner. placed before t inner.0 inner.1)
    (split_last found s before t later e)
