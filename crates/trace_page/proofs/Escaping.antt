-- A text, escaped character by character.
use Rattle.std.proofs.Common.{◌≡◌, ℕ, List, [], ◌++◌, length, sym, ap, ◌∙◌, append_assoc}
use Rattle.std.proofs.lemmas.List.{append-nil, nil_from_length}
use Rattle.std.proofs.lemmas.Str.{chars-nil, chars_past_char, IsUtf8-past_char}
use Rattle.std.specs.Prelude.{IsUtf8, encode_utf8}
use Rattle.std.specs.List.{flat_map}
use Rattle.trace_page.specs.Escaped.{escaped, escaped_character}

-- a text was escaped, except what is left of it
pub record EscapedBefore (text left told : List ℕ) : Type 0 where
  pub parts : escaped text ≡ told ++ escaped left
  pub utf8 : IsUtf8 left

-- one more character
pub escaped_more : (text left rest : List ℕ) (character : ℕ) (old new : List ℕ) → left ≡ encode_utf8 character ++ rest
    → EscapedBefore text left old → new ≡ old ++ escaped_character character → EscapedBefore text rest new
escaped_more text left rest character old new is was added = record {
  parts = was.parts ∙ ap (λ t. old ++ flat_map escaped_character t) (chars_past_char left rest character was.utf8 is)
      ∙ sym (append_assoc old (escaped_character character) (escaped rest))
      ∙ ap (λ t. t ++ escaped rest) (sym added);
  utf8 = IsUtf8-past_char left rest character was.utf8 is;
}

-- nothing is left
pub escaped_all : (text left told : List ℕ) → length left ≡ 0 → EscapedBefore text left told → told ≡ escaped text
escaped_all text left told none was =
    let nothing : escaped left ≡ [] = ap escaped (nil_from_length left none) ∙ ap (flat_map escaped_character) chars-nil in
    sym (was.parts ∙ ap (λ t. told ++ t) nothing ∙ append-nil told)
