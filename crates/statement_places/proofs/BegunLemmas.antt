-- Places that are found one after the other.
use Rattle.std.proofs.Common.{◌≡◌, ℕ, ◌+◌, ◌<◌, Bool, true, false, List, [], ◌∷◌, ◌++◌, take, drop, length, get_or, refl, ap, sym, ◌∙◌, subst}
use Rattle.std.proofs.Common.{append_assoc, append-nil, take-append-drop, arith, reverse, ◌^◌}
use Rattle.std.proofs.lemmas.List.{length-reverse, length-take}
use Rattle.std.proofs.lemmas.List.Sums.{prefix_len-le-length}
use Rattle.std.proofs.Math.Bool.{and-false}
use Rattle.std.specs.Prelude.{if◌then◌else◌, ◌&&◌}
use Rattle.std.proofs.lemmas.List.{map-append, drop_more}
use Rattle.syntax.specs.declared.place.TextPlace.{TextPlace}
use Rattle.syntax.specs.declared.token.Spanned.{Spanned}
use Rattle.syntax.specs.Lexical.{AreTokensOf}
use Rattle.syntax.specs.Place.{place_at}
use Rattle.syntax.specs.Refusals.{ArePlaced}
use Rattle.syntax.specs.Token.{Token, plain, token}
use Rattle.syntax.specs.Lexical.{is_in_line}
use Rattle.syntax.specs.Spelling.{spelling}
use Rattle.syntax_tree.specs.Tree.{Program}
use Rattle.syntax.proofs.Pieces.{one_reading}
use Rattle.statement_places.specs.Begun.{AreBegun, BeginsAt}
use Rattle.statement_places.specs.Starts.{begins_if_line, ends_line, starts, token_starts}
use Rattle.statement_places.proofs.Starting.{starts_by_tokens}

-- these tokens remain, and the places are those of the statements that start before them
pub record IsFound (text : List ℕ) (all left : List Token) (ended : Bool) (places : List TextPlace) : Type 0 where
  pub done : List (List Token)
  pub parts : token_starts false all ≡ done ++ token_starts ended left
  pub begun : AreBegun text done places

-- one more end of the text, and its place
one_more_begun : (text : List ℕ) (done : List (List Token)) (places : List TextPlace) (ts : List Token) (place : TextPlace)
    → AreBegun text done places → BeginsAt text ts place → AreBegun text (done ++ ts ∷ []) (places ++ place ∷ [])
one_more_begun text [] [] ts place begun begins = (begins, tt)
one_more_begun text [] (p ∷ ps) ts place begun begins = absurd begun
one_more_begun text (d ∷ done) [] ts place begun begins = absurd begun
one_more_begun text (d ∷ done) (p ∷ ps) ts place begun begins = (begun.0, one_more_begun text done ps ts place begun.1 begins)

starts_here : (ended : Bool) (t : Token) (ts : List Token) → (ended && begins_if_line t) ≡ true
    → token_starts ended (t ∷ ts) ≡ (t ∷ ts) ∷ token_starts (ends_line t) ts
unfolding token_starts
starts_here ended t ts is =
    ap (λ (b : Bool). if b then (t ∷ ts) ∷ token_starts (ends_line t) ts else token_starts (ends_line t) ts) is

starts_later : (ended : Bool) (t : Token) (ts : List Token) → (ended && begins_if_line t) ≡ false
    → token_starts ended (t ∷ ts) ≡ token_starts (ends_line t) ts
unfolding token_starts
starts_later ended t ts is =
    ap (λ (b : Bool). if b then (t ∷ ts) ∷ token_starts (ends_line t) ts else token_starts (ends_line t) ts) is

-- at the end all statements are found
pub all_found : (text : List ℕ) (all : List Token) (ended : Bool) (places : List TextPlace) → IsFound text all [] ended places
    → AreBegun text (token_starts false all) places
unfolding token_starts
all_found text all ended places found =
    subst (λ (l : List (List Token)). AreBegun text l places) (sym (found.parts ∙ append-nil found.done)) found.begun

module _ (text : List ℕ) (tokens : List Spanned) (i : ℕ) (s : Spanned) (within : i < length tokens)
    (there : s ≡ get_or tokens i s) (ended : Bool) (places : List TextPlace) where
  left_is : plain (drop i tokens) ≡ token s.token ∷ plain (drop (i + 1) tokens)
  left_is = ap plain (drop_more tokens i s within ∙ ap (λ (x : Spanned). x ∷ drop (i + 1) tokens) (sym there))

  module _ (found : IsFound text (plain tokens) (plain (drop i tokens)) ended places) where
    -- a token that starts no statement
    pub found_no_more : (next : Bool) → next ≡ ends_line (token s.token) → (ended && begins_if_line (token s.token)) ≡ false
        → IsFound text (plain tokens) (plain (drop (i + 1) tokens)) next places
    found_no_more next line is = record {
      done = found.done;
      parts = found.parts
          ∙ ap (λ l. found.done ++ token_starts ended l) left_is
          ∙ ap (λ l. found.done ++ l) (starts_later ended (token s.token) (plain (drop (i + 1) tokens)) is)
          ∙ ap (λ b. found.done ++ token_starts b (plain (drop (i + 1) tokens))) (sym line);
      begun = found.begun;
    }

    -- a token that starts a statement, at its place
    module _ (read : AreTokensOf text (plain tokens)) (placed : ArePlaced text tokens) (place : TextPlace)
        (right : place ≡ place_at text s.at) where
      here : BeginsAt text (token s.token ∷ plain (drop (i + 1) tokens)) place
      here =
          let parted : tokens ≡ take i tokens ++ s ∷ drop (i + 1) tokens =
          sym (take-append-drop i tokens)
          ∙ ap (λ l. take i tokens ++ l) (drop_more tokens i s within ∙ ap (λ (x : Spanned). x ∷ drop (i + 1) tokens) (sym there)) in
          record {
            before = plain (take i tokens);
            first = token s.token;
            behind = plain (drop (i + 1) tokens);
            parts = refl;
            tokens = subst (AreTokensOf text) (ap plain parted ∙ map-append _ (take i tokens) (s ∷ drop (i + 1) tokens)) read;
            at = s.at;
            stands = placed (take i tokens) s (drop (i + 1) tokens) parted;
            there = right;
          }

      pub found_one_more : (next : Bool) → next ≡ ends_line (token s.token) → (ended && begins_if_line (token s.token)) ≡ true
          → IsFound text (plain tokens) (plain (drop (i + 1) tokens)) next (places ++ place ∷ [])
      found_one_more next line is =
          let ts = token s.token ∷ plain (drop (i + 1) tokens) in
          record {
            done = found.done ++ ts ∷ [];
            parts = found.parts
                ∙ ap (λ l. found.done ++ token_starts ended l) left_is
                ∙ ap (λ l. found.done ++ l) (starts_here ended (token s.token) (plain (drop (i + 1) tokens)) is)
                ∙ ap (λ b. found.done ++ (ts ∷ token_starts b (plain (drop (i + 1) tokens)))) (sym line)
                ∙ sym (append_assoc found.done (ts ∷ []) (token_starts next (plain (drop (i + 1) tokens))));
            begun = one_more_begun text found.done places ts place found.begun here;
          }

-- what starts a statement after the end of a line, and what doesn't
pub begins_here : (a b r : Bool) → a ≡ true → r ≡ true → r ≡ b → (a && b) ≡ true
begins_here a b r ended begins is = ap (λ (x : Bool). x && b) ended ∙ sym is ∙ begins

pub begins_not : (a b r : Bool) → r ≡ false → r ≡ b → (a && b) ≡ false
begins_not a b r begins is = ap (λ (x : Bool). a && x) (sym is ∙ begins) ∙ and-false a

-- the places of a text's tokens are those of every program that the text spells
pub begun_starts : (text : List ℕ) (ts : List Token) (places : List TextPlace) (p : Program) → AreTokensOf text ts
    → AreTokensOf text (spelling p) → AreBegun text (token_starts false ts) places → AreBegun text (starts p) places
begun_starts text ts places p read spelled begun =
    subst (λ (l : List (List Token)). AreBegun text l places)
    (ap (token_starts false) (one_reading text ts (spelling p) read spelled) ∙ starts_by_tokens p) begun

-- a column is small in a short text
pub column_small : (text : List ℕ) (at : ℕ) (place : TextPlace) → place ≡ place_at text at → length text < 2 ^ 31
    → place.column < 4294967295
column_small text at place is short =
    let e = ap (λ (p : TextPlace). p.column) is in
    omega (arith, e, prefix_len-le-length is_in_line (reverse (take at text)), length-reverse (take at text), length-take at text)
