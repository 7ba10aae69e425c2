-- A name from outside, written character by character.
use Rattle.std.proofs.Common.{◌≡◌, ℕ, List, [], ◌++◌, length, sym, ap, ◌∙◌, subst, append_assoc}
use Rattle.std.proofs.lemmas.List.{append-nil, nil_from_length}
use Rattle.std.proofs.lemmas.Str.{chars-nil, chars_past_char, IsUtf8-past_char}
use Rattle.std.specs.Prelude.{IsUtf8, Option, encode_utf8}
use Rattle.std.specs.List.{flat_map}
use Rattle.std.specs.Io.KnownBytes.{Appends}
use Rattle.std.proofs.KnownBytes.{Appends-trans}
use Rattle.printing.specs.Appending.{AppendsBeginning}
use Rattle.printing.specs.Reasons.{escaped, escaped_character}
use Rattle.printing.proofs.Appending.{begins_longer, then_begins}

-- a name was written, except what is left of it
pub record ToldBefore (name left : List ℕ) (a b : Option (List ℕ)) : Type 0 where
  pub done : List ℕ
  pub parts : escaped name ≡ done ++ escaped left
  pub appended : Appends a b done
  pub utf8 : IsUtf8 left

module _ (name left rest : List ℕ) (character : ℕ) (a b c : Option (List ℕ))
    (is : left ≡ encode_utf8 character ++ rest) (told : ToldBefore name left a b) where
  abbrev text : List ℕ
  text = escaped_character character

  split : escaped name ≡ (told.done ++ text) ++ escaped rest
  split =
      told.parts ∙ ap (λ t. told.done ++ flat_map escaped_character t) (chars_past_char left rest character told.utf8 is)
      ∙ sym (append_assoc told.done text (escaped rest))

  -- one more character
  pub told_more : Appends b c text → ToldBefore name rest a c
  told_more next = record {
    done = told.done ++ text;
    parts = split;
    appended = Appends-trans a b c told.done text told.appended next;
    utf8 = IsUtf8-past_char left rest character told.utf8 is;
  }

  -- a prefix of one more character
  pub told_begun : AppendsBeginning b c text → AppendsBeginning a c (escaped name)
  told_begun next =
      subst (AppendsBeginning a c) (sym split)
      (begins_longer a c (told.done ++ text) (escaped rest) (then_begins a b c told.done text told.appended next))

-- nothing is left
pub told_all : (name left : List ℕ) (a b : Option (List ℕ)) → length left ≡ 0 → ToldBefore name left a b
    → Appends a b (escaped name)
told_all name left a b none told =
    let nothing : escaped left ≡ [] = ap escaped (nil_from_length left none) ∙ ap (flat_map escaped_character) chars-nil in
    subst (Appends a b) (sym (told.parts ∙ ap (λ t. told.done ++ t) nothing ∙ append-nil told.done)) told.appended
