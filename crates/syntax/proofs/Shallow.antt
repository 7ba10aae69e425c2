-- The number of brackets that are open after some tokens.
use Rattle.std.proofs.Common.{◌≡◌, ℕ, ◌+◌, ◌<◌, ◌≤◌, List, [], ◌∷◌, ◌++◌, length, get_or, take, drop, refl, ap, sym}
use Rattle.std.proofs.Common.{◌∙◌, subst, take-append-drop}
use Rattle.std.proofs.lemmas.List.{map-append, take_more, drop_more}
use Rattle.syntax.specs.declared.token.Spanned.{Spanned}
use Rattle.syntax.specs.Brackets.{open_behind, AreShallow}
use Rattle.syntax.specs.Lexical.{AreTokensOf}
use Rattle.syntax.specs.Refusals.{StandsAt, ArePlaced, OpensTooMany, IsTooDeep}
use Rattle.syntax.specs.Token.{Token, token, plain}

abbrev pub open_after : ℕ → List Token → ℕ
open_after n [] = n
open_after n (t ∷ ts) = open_after (open_behind n t) ts

pub open_after-push : (n : ℕ) (ts : List Token) (t : Token) → open_after n (ts ++ t ∷ []) ≡ open_behind (open_after n ts) t
open_after-push n [] t = refl
open_after-push n (u ∷ ts) t = open_after-push (open_behind n u) ts t

pub shallow_more : (n : ℕ) (ts : List Token) (t : Token) → AreShallow n ts → open_behind (open_after n ts) t ≤ 100
    → AreShallow n (ts ++ t ∷ [])
shallow_more n [] t shallow few = (few, tt)
shallow_more n (u ∷ ts) t shallow few = (shallow.0, shallow_more (open_behind n u) ts t shallow.1 few)

pub few_behind : (n : ℕ) (ts : List Token) (t : Token) → AreShallow n (ts ++ t ∷ []) → open_behind (open_after n ts) t ≤ 100
few_behind n [] t shallow = shallow.0
few_behind n (u ∷ ts) t shallow = few_behind (open_behind n u) ts t shallow.1

pub shallow_up_to : (n : ℕ) (ts : List Token) (t : Token) (us : List Token) → AreShallow n (ts ++ t ∷ us) → AreShallow n (ts ++ t ∷ [])
shallow_up_to n [] t us shallow = (shallow.0, tt)
shallow_up_to n (u ∷ ts) t us shallow = (shallow.0, shallow_up_to (open_behind n u) ts t us shallow.1)

-- if too many brackets are open at a token, the tokens aren't shallow
pub opens_too_many : (text : List ℕ) (found : List Spanned) (at : ℕ) → AreTokensOf text (plain found)
    → ArePlaced text found → OpensTooMany found at → IsTooDeep text at
opens_too_many text found at read placed opens =
    let last = token opens.last.token in
    let parted = ap plain opens.found_are ∙ map-append _ opens.before (opens.last ∷ opens.after) in
    record {
      tokens = plain found;
      read = read;
      before = plain opens.before;
      last = last;
      stands = subst (StandsAt text (plain opens.before) last) (sym opens.there)
          (placed opens.before opens.last opens.after opens.found_are);
      shallow = opens.shallow;
      deep = opens.deep;
      all_deep = λ shallow. opens.deep
          (shallow_up_to 0 (plain opens.before) last (plain opens.after) (subst (AreShallow 0) parted shallow));
    }

module _ (found : List Spanned) (i : ℕ) (s : Spanned) (within : i < length found) (there : s ≡ get_or found i s) where
  pub parted_at : found ≡ take i found ++ s ∷ drop (i + 1) found
  parted_at =
      sym (take-append-drop i found)
      ∙ ap (λ l. take i found ++ l) (drop_more found i s within ∙ ap (λ x. x ∷ drop (i + 1) found) (sym there))

  pub plain_more : plain (take (i + 1) found) ≡ plain (take i found) ++ token s.token ∷ []
  plain_more =
      ap plain (take_more found i s within ∙ ap (λ x. take i found ++ x ∷ []) (sym there)) ∙ map-append _ (take i found) (s ∷ [])
